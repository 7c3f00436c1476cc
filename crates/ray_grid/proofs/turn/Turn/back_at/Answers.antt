use Rattle.std.proofs.Common.{◌≤◌, false, get_or, w32, unsigned_abs, FitsSigned, rules, ap, sym, subst, ◌∙◌}
use Rattle.std.proofs.lemmas.Int.{to_z-of_z}
use Rattle.space.specs.Vectors.{at}
use Rattle.ray_grid.specs.Turns.{negated_if}
use Rattle.ray_grid.proofs.Turned.{component}
use Rattle.ray_grid.proofs.TurnSizes.{is_moved_back}
use Rattle.ray_grid.proofs.turn.Turn.back_at.Goals as goal

pub overflow_sub-point : goal.overflow_sub-point
overflow_sub-point c =
    let turn = c.args.self.now in let point = c.args.point.now in let n = c.args.n in
    (is_moved_back (at point n) (at turn.shift n) (component 3000000 point n c.requires.point c.requires.axis)
    (component 2000000 turn.shift n c.requires.turn.near c.requires.axis)).fits

pub negated_if-requires : goal.negated_if-requires
negated_if-requires c =
    let turn = c.args.self.now in let point = c.args.point.now in let n = c.args.n in
    (is_moved_back (at point n) (at turn.shift n) (component 3000000 point n c.requires.point c.requires.axis)
    (component 2000000 turn.shift n c.requires.turn.near c.requires.axis)).near

pub returns-clause-value : goal.returns-clause-value
returns-clause-value c =
    let turn = c.args.self.now in let point = c.args.point.now in let n = c.args.n in
    let fits : FitsSigned w32 c.negated_if.result = search rules in
    to_z-of_z w32 c.negated_if.result fits ∙ c.negated_if.ensures.value
    ∙ ap (negated_if (get_or turn.neg n false))
    (is_moved_back (at point n) (at turn.shift n) (component 3000000 point n c.requires.point c.requires.axis)
    (component 2000000 turn.shift n c.requires.turn.near c.requires.axis)).read

pub returns-clause-near : goal.returns-clause-near
returns-clause-near c =
    let turn = c.args.self.now in let point = c.args.point.now in let n = c.args.n in
    let fits : FitsSigned w32 c.negated_if.result = search rules in
    subst (λ m. m ≤ 5000000) (sym (ap unsigned_abs (to_z-of_z w32 c.negated_if.result fits) ∙ c.negated_if.ensures.size))
    (is_moved_back (at point n) (at turn.shift n) (component 3000000 point n c.requires.point c.requires.axis)
    (component 2000000 turn.shift n c.requires.turn.near c.requires.axis)).near
