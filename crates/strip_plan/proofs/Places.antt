-- The places of stacks, one more at a time.
use Rattle.std.proofs.Common.{◌≡◌, ◌∙◌, All, ℕ, ◌+◌, ◌<◌, ◌≤◌, List, [], ◌∷◌, ◌++◌, ⊎_elim, length, take, slice_index, get_or, arith, ap, subst, sym}
use Rattle.std.proofs.lemmas.Bool.{cases_lt}
use Rattle.std.proofs.lemmas.List.{get_or-take, get_or_append_left, length-append, length-take, take-append-le, take_all}
use Rattle.std.proofs.lemmas.Option.{get_or_from_slice_get}
use Rattle.std.proofs.Math.Seq.{get_or-append_seam}
use Rattle.cutter_slabs.specs.Cutter.{CutterSize}
use Rattle.cutter_slabs.specs.Stacks.{StacksOf}
use Rattle.job_model.specs.Tasks.{JobMove}
use Rattle.strip_plan.specs.Cutters.{HasSlabs, HasStacks, IsStackPlace}

-- what is kept of a list has its place in a longer one
pub longer : {X : Type 0} → (xs ys : List X) → take (length xs) ys ≡ xs → length xs ≤ length ys
longer xs ys kept = let e = ap length kept in let m = length-take (length xs) ys in omega (arith, e, m)

pub same_at : {X : Type 0} → (xs ys : List X) (i : ℕ) (d : X) → take (length xs) ys ≡ xs → i < length xs → get_or ys i d ≡ get_or xs i d
same_at xs ys i d kept l = sym (get_or-take (length xs) ys i d l) ∙ ap (λ zs. get_or zs i d) kept

-- a place of stacks stays one when more are made
pub still_place : (stacks more : List StacksOf) (cutter : CutterSize) (slabs place : ℕ) → take (length stacks) more ≡ stacks
    → IsStackPlace stacks cutter slabs place → IsStackPlace more cutter slabs place
still_place stacks more cutter slabs place kept is = record {
  within = let w = is.within in let m = longer stacks more kept in omega (arith, w, m);
  there = λ d. same_at stacks more place d kept is.within ∙ is.there d;
}

-- no places, of no moves
pub no_places : (slabs : ℕ) (moves : List JobMove) (stacks : List StacksOf) (places : List ℕ) → places ≡ [] → HasStacks slabs moves stacks places 0
no_places slabs moves stacks places empty = record { many = ap (λ (xs : List ℕ). length xs) empty; each = λ n move lt at. absurd (omega (arith, lt)) }

pub no_stacks : (slabs : ℕ) (stacks : List StacksOf) → stacks ≡ [] → All (HasSlabs slabs) stacks
no_stacks slabs stacks none = subst (All (HasSlabs slabs)) (sym none) (λ k d lt. absurd (omega (arith, lt)))

-- the place of one more move
pub one_more : (slabs : ℕ) (moves : List JobMove) (stacks more : List StacksOf) (places : List ℕ) (count : ℕ) (next : JobMove) (place : ℕ)
    → HasStacks slabs moves stacks places count → take (length stacks) more ≡ stacks → next ≡ get_or moves count next
    → IsStackPlace more next.cutter slabs place → HasStacks slabs moves more (places ++ place ∷ []) (count + 1)
one_more slabs moves stacks more places count next place has kept read is =
    let many = has.many in record {
      many = omega (arith, length-append places (place ∷ []), many);
      each = λ n move l at.
          ⊎_elim
          (λ less.
          subst (IsStackPlace more move.cutter slabs) (sym (get_or_append_left places (place ∷ []) 0 n (omega (arith, less, many))))
          (still_place stacks more move.cutter slabs (slice_index places n) kept (has.each n move less at)))
          (λ most.
          let e : n ≡ length places = omega (arith, l, most, many) in
          let e2 : n ≡ count = omega (arith, l, most) in
          let same : next ≡ move = read ∙ ap (λ i. get_or moves i next) (sym e2) ∙ get_or_from_slice_get moves n move next at in
          let last : get_or (places ++ place ∷ []) n 0 ≡ place = ap (λ i. get_or (places ++ place ∷ []) i 0) e ∙ get_or-append_seam places place [] 0 in
          subst (IsStackPlace more move.cutter slabs) (sym last) (subst (λ (m : JobMove). IsStackPlace more m.cutter slabs place) same is))
          (cases_lt n count);
    }

-- stacks with others pushed: the first ones are kept, all have `slabs` slabs, and the last place is that of the others
pub kept_pushed : (stacks more : List StacksOf) (next : StacksOf) → more ≡ stacks ++ next ∷ [] → take (length stacks) more ≡ stacks
kept_pushed stacks more next e =
    ap (λ zs. take (length stacks) zs) e ∙ take-append-le (length stacks) stacks (next ∷ []) (omega arith) ∙ take_all (length stacks) stacks (omega arith)

pub all_pushed : (slabs : ℕ) (stacks more : List StacksOf) (next : StacksOf) → more ≡ stacks ++ next ∷ [] → All (HasSlabs slabs) stacks → next.slabs ≡ slabs → All (HasSlabs slabs) more
all_pushed slabs stacks more next e all own = λ k d low.
    let read = ap (λ zs. get_or zs k d) e in let size = ap (λ zs. length zs) e in let long = length-append stacks (next ∷ []) in
    ⊎_elim
    (λ (less : k < length stacks). ap (λ (s : StacksOf). s.slabs) (read ∙ get_or_append_left stacks (next ∷ []) d k less) ∙ all k d less)
    (λ (most : length stacks ≤ k).
    let at : k ≡ length stacks = omega (arith, low, most, size, long) in
    ap (λ (s : StacksOf). s.slabs) (read ∙ ap (λ i. get_or (stacks ++ next ∷ []) i d) at ∙ get_or-append_seam stacks next [] d) ∙ own)
    (cases_lt k (length stacks))

pub place_pushed : (cutter : CutterSize) (slabs place : ℕ) (stacks more : List StacksOf) (next : StacksOf) → more ≡ stacks ++ next ∷ [] → place ≡ length stacks
    → next ≡ record { cutter = cutter; slabs = slabs } → IsStackPlace more cutter slabs place
place_pushed cutter slabs place stacks more next e at own = record {
  within = let size = ap (λ zs. length zs) e in let long = length-append stacks (next ∷ []) in omega (arith, at, size, long);
  there = λ d. ap (λ zs. get_or zs place d) e ∙ ap (λ i. get_or (stacks ++ next ∷ []) i d) at ∙ get_or-append_seam stacks next [] d ∙ own;
}
