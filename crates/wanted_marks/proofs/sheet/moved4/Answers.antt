use Rattle.std.proofs.Common.{pos, arith, rules}
use mir.Syntax.{w128}
use Rattle.space.specs.Vectors.{at}
use Rattle.moment_forms.proofs.Middle.{five_same}
use Rattle.wanted_marks.proofs.Small.{linear_is, linear_small}
use Rattle.wanted_marks.proofs.sheet.moved4.Goals as goal

pub linear-requires : goal.linear-requires
linear-requires c = linear_small (at c.args.a.now.c 0) (at c.args.b.now.c 0) (pos c.args.l) (search rules) (search rules) (c.requires 0 (pos 0) (omega arith))

pub linear-requires-2 : goal.linear-requires-2
linear-requires-2 c = linear_small (at c.args.a.now.c 1) (at c.args.b.now.c 1) (pos c.args.l) (search rules) (search rules) (c.requires 1 (pos 0) (omega arith))

pub linear-requires-3 : goal.linear-requires-3
linear-requires-3 c = linear_small (at c.args.a.now.c 2) (at c.args.b.now.c 2) (pos c.args.l) (search rules) (search rules) (c.requires 2 (pos 0) (omega arith))

pub linear-requires-4 : goal.linear-requires-4
linear-requires-4 c = linear_small (at c.args.a.now.c 3) (at c.args.b.now.c 3) (pos c.args.l) (search rules) (search rules) (c.requires 3 (pos 0) (omega arith))

pub linear-requires-5 : goal.linear-requires-5
linear-requires-5 c = linear_small (at c.args.a.now.c 4) (at c.args.b.now.c 4) (pos c.args.l) (search rules) (search rules) (c.requires 4 (pos 0) (omega arith))

pub returns : goal.returns
returns c =
    let a = c.args.a.now.c in let b = c.args.b.now.c in let l = pos c.args.l in
    let q0 = c.linear in let q1 = c.linear-2 in let q2 = c.linear-3 in let q3 = c.linear-4 in let q4 = c.linear-5 in
    five_same _ _ _ _ _ _ _ _ _ _
    (linear_is w128 q0.result (at a 0) (at b 0) l record { sfits = q0.type_inv } (search rules) (search rules) q0.ensures)
    (linear_is w128 q1.result (at a 1) (at b 1) l record { sfits = q1.type_inv } (search rules) (search rules) q1.ensures)
    (linear_is w128 q2.result (at a 2) (at b 2) l record { sfits = q2.type_inv } (search rules) (search rules) q2.ensures)
    (linear_is w128 q3.result (at a 3) (at b 3) l record { sfits = q3.type_inv } (search rules) (search rules) q3.ensures)
    (linear_is w128 q4.result (at a 4) (at b 4) l record { sfits = q4.type_inv } (search rules) (search rules) q4.ensures)
