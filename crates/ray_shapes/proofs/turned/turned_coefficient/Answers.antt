-- The old axis is one, so its coefficient is small.
use Rattle.std.proofs.Common.{◌≤◌, w32, unsigned_abs, FitsSigned, rules, ap, sym, ◌∙◌, subst}
use Rattle.std.proofs.lemmas.Int.{to_z-of_z}
use Rattle.space.specs.Vectors.{at}
use Rattle.ray_grid.specs.Turns.{old_axis}
use Rattle.ray_grid.proofs.Turned.{component, old_below}
use Rattle.ray_shapes.proofs.turned.turned_coefficient.Goals as goal

pub returns-clause-small : goal.returns-clause-small
returns-clause-small c =
    let turn = c.args.turn.now in let normal = c.args.normal.now in let n = c.args.n in
    let old = at normal (old_axis turn n) in
    let fits : FitsSigned w32 c.negated_if.result = search rules in
    let fits_old : FitsSigned w32 old = search rules in
    let small : unsigned_abs old ≤ 1000000000 =
    component 1000000000 normal (old_axis turn n) c.requires.normal (old_below turn n c.requires.turn.quarter c.requires.axis) in
    subst (λ m. m ≤ 1000000000)
    (sym (ap unsigned_abs (to_z-of_z w32 c.negated_if.result fits) ∙ c.negated_if.ensures.size
    ∙ ap unsigned_abs (to_z-of_z w32 old fits_old))) small

pub negated_if-requires : goal.negated_if-requires
negated_if-requires c =
    let turn = c.args.turn.now in let normal = c.args.normal.now in let n = c.args.n in
    let old = at normal (old_axis turn n) in
    let fits_old : FitsSigned w32 old = search rules in
    subst (λ z. unsigned_abs z ≤ 1000000000) (sym (to_z-of_z w32 old fits_old))
    (component 1000000000 normal (old_axis turn n) c.requires.normal (old_below turn n c.requires.turn.quarter c.requires.axis))
