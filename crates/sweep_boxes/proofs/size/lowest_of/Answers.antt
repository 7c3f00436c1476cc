use Rattle.std.proofs.Common.{◌≡◌, ℕ, ◌<◌, ◌==◌, false, length, FitsSigned, arith, rules, sym, subst}
use Rattle.std.proofs.lemmas.Bool.Decides.{nat_tests}
use Rattle.std.proofs.lemmas.Int.{to_z-of_z}
use mir.Syntax.{w32}
use Rattle.bern_form.specs.Slab.{SlabSize}
use Rattle.sweep_boxes.specs.Intervals.{AreFrom}
use Rattle.sweep_boxes.proofs.Ascending.{from_first}
use Rattle.sweep_boxes.proofs.size.lowest_of.Goals as goal

some_of : (n : ℕ) → false ≡ (n == 0) → 0 < n
some_of n h = grind (arith, nat_tests)

pub returns-clause-from : goal.returns-clause-from
returns-clause-from c =
    let slabs = c.args.slabs.now in
    let lo : FitsSigned w32 c.first.inside.lo = search rules in
    let from = from_first slabs c.index-slabs-0.result c.requires.rising (some_of (length slabs) c.if-is_empty.ensures) c.index-slabs-0.is in
    let here : AreFrom c.first.inside.lo slabs = subst (λ (x : SlabSize). AreFrom x.lo slabs) (sym c.first.view_is) from in
    simp to_z-of_z here
