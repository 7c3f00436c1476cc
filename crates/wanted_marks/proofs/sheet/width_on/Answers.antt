use Rattle.std.proofs.Common.{pos, arith, rules}
use Rattle.space.specs.Vectors.{at}
use Rattle.moment_forms.proofs.Middle.{five_same}
use Rattle.wanted_marks.proofs.Small.{quadratic_is, quadratic_small}
use Rattle.wanted_marks.proofs.sheet.width_on.Goals as goal

pub quadratic-requires : goal.quadratic-requires
quadratic-requires c =
    let s = c.args.line.now in
    quadratic_small (at s.constant.c 0) (at s.first.c 0) (at s.second.c 0) (pos c.args.l) (search rules) (search rules) (search rules) (c.requires 0 (pos 0) (omega arith))

pub quadratic-requires-2 : goal.quadratic-requires-2
quadratic-requires-2 c =
    let s = c.args.line.now in
    quadratic_small (at s.constant.c 1) (at s.first.c 1) (at s.second.c 1) (pos c.args.l) (search rules) (search rules) (search rules) (c.requires 1 (pos 0) (omega arith))

pub quadratic-requires-3 : goal.quadratic-requires-3
quadratic-requires-3 c =
    let s = c.args.line.now in
    quadratic_small (at s.constant.c 2) (at s.first.c 2) (at s.second.c 2) (pos c.args.l) (search rules) (search rules) (search rules) (c.requires 2 (pos 0) (omega arith))

pub quadratic-requires-4 : goal.quadratic-requires-4
quadratic-requires-4 c =
    let s = c.args.line.now in
    quadratic_small (at s.constant.c 3) (at s.first.c 3) (at s.second.c 3) (pos c.args.l) (search rules) (search rules) (search rules) (c.requires 3 (pos 0) (omega arith))

pub quadratic-requires-5 : goal.quadratic-requires-5
quadratic-requires-5 c =
    let s = c.args.line.now in
    quadratic_small (at s.constant.c 4) (at s.first.c 4) (at s.second.c 4) (pos c.args.l) (search rules) (search rules) (search rules) (c.requires 4 (pos 0) (omega arith))

pub returns : goal.returns
returns c =
    let s = c.args.line.now in let l = pos c.args.l in let a = s.constant.c in let b = s.first.c in let d = s.second.c in
    let q0 = c.quadratic in let q1 = c.quadratic-2 in let q2 = c.quadratic-3 in let q3 = c.quadratic-4 in let q4 = c.quadratic-5 in
    five_same _ _ _ _ _ _ _ _ _ _
    (quadratic_is q0.result (at a 0) (at b 0) (at d 0) l record { sfits = q0.type_inv } (search rules) (search rules) (search rules) q0.ensures)
    (quadratic_is q1.result (at a 1) (at b 1) (at d 1) l record { sfits = q1.type_inv } (search rules) (search rules) (search rules) q1.ensures)
    (quadratic_is q2.result (at a 2) (at b 2) (at d 2) l record { sfits = q2.type_inv } (search rules) (search rules) (search rules) q2.ensures)
    (quadratic_is q3.result (at a 3) (at b 3) (at d 3) l record { sfits = q3.type_inv } (search rules) (search rules) (search rules) q3.ensures)
    (quadratic_is q4.result (at a 4) (at b 4) (at d 4) l record { sfits = q4.type_inv } (search rules) (search rules) (search rules) q4.ensures)
