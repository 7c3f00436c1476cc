use Rattle.std.proofs.Common.{◌∙◌, ap, refl, rules, w32, FitsSigned, List, ℤ}
use Rattle.std.proofs.lemmas.Int.{to_z-of_z}
use Rattle.space.specs.Vectors.{at}
use Rattle.strip_plan.proofs.Extents.{in_bounds}
use Rattle.strip_plan.proofs.bounds.bounds.Goals as goal

pub returns-clause-holds : goal.returns-clause-holds
returns-clause-holds c ray l on lt =
    let fx : FitsSigned w32 (at c.last_point-x.result 0) = search rules in
    let fy : FitsSigned w32 (at c.last_point-y.result 1) = search rules in
    let fz : FitsSigned w32 (at c.last_point-z.result 2) = search rules in
    in_bounds _ c.args.grid.now c.grid.inside.origin _ ray l c.grid.view_is c.grid.invariant refl
    (to_z-of_z w32 (at c.last_point-x.result 0) fx ∙ ap (λ (v : List ℤ). at v 0) c.last_point-x.ensures.value)
    (to_z-of_z w32 (at c.last_point-y.result 1) fy ∙ ap (λ (v : List ℤ). at v 1) c.last_point-y.ensures.value)
    (to_z-of_z w32 (at c.last_point-z.result 2) fz ∙ ap (λ (v : List ℤ). at v 2) c.last_point-z.ensures.value) on lt
