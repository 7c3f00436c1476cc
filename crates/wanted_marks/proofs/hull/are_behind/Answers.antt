use Rattle.std.proofs.Common.{sym, ◌∙◌}
use Rattle.std.proofs.lemmas.Int.{to_z-of_z}
use mir.Syntax.{w64}
use Rattle.wanted_marks.proofs.Hulls.{behind_between}
use Rattle.wanted_marks.proofs.hull.are_behind.Goals as goal

pub returns : goal.returns
returns c = λ yes x from to.
    let s = c.args.line.now in
    behind_between s.height s.height_step c.args.l x c.args.m from to (sym c.is_behind.ensures ∙ c.if-not-is_behind.false) (sym c.is_behind-2.ensures ∙ yes)

pub is_behind-requires-clause-last : goal.is_behind-requires-clause-last
is_behind-requires-clause-last c = to_z-of_z w64 c.last_height.result record { sfits = c.last_height.type_inv } ∙ c.last_height.ensures

pub is_behind-requires-2-clause-last : goal.is_behind-requires-2-clause-last
is_behind-requires-2-clause-last c = to_z-of_z w64 c.last_height-2.result record { sfits = c.last_height-2.type_inv } ∙ c.last_height-2.ensures
