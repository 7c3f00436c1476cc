-- The stacks at the place are of the cutter whose numbers theirs equal.
use Rattle.std.proofs.Common.{◌≡◌, All, ℕ, ◌<◌, List, length, get_or, true, pos, ◌&&◌, eqb, ap, ap₂, rules, sym, ◌∙◌}
use Rattle.std.specs.Ordering.{int_eq}
use Rattle.std.proofs.lemmas.List.{get_or_read}
use Rattle.cutter_slabs.specs.Cutter.{CutterSize}
use Rattle.cutter_slabs.specs.Stacks.{StacksOf}
use Rattle.strip_plan.specs.Cutters.{HasSlabs, IsStackPlace}
use Rattle.strip_plan.proofs.cutters.stand_at.Goals as goal

same_size : (a b : CutterSize)
    → (int_eq (pos a.d) (pos b.d) && (int_eq (pos a.r) (pos b.r) && (int_eq (pos a.h) (pos b.h) && (eqb a.flank b.flank && int_eq (pos a.base) (pos b.base))))) ≡ true → a ≡ b
same_size a b same = search rules

stands : (stacks : List StacksOf) (cutter : CutterSize) (slabs place : ℕ) (read : StacksOf) → place < length stacks → read ≡ get_or stacks place read
    → All (HasSlabs slabs) stacks → read.cutter ≡ cutter → IsStackPlace stacks cutter slabs place
stands stacks cutter slabs place read low is all own = record {
  within = low;
  there = λ d.
      let here = get_or_read stacks place read low is d in
      let size : read.slabs ≡ slabs = ap (λ (s : StacksOf). s.slabs) here ∙ all place d low in
      sym here ∙ ap₂ (λ x y. record { cutter = x; slabs = y }) own size;
}

pub returns : goal.returns
returns c = λ yes.
    let read = c.index-stacks-place in
    stands c.args.stacks.now c.args.cutter c.args.slabs c.args.place read.result c.if-place-stacks.false read.is c.requires
    (sym c.cutter.ensures ∙ same_size c.cutter.result c.args.cutter (sym c.eq.ensures ∙ yes))
