use Rattle.std.proofs.Common.{◌≤◌, ◌*◌, pos, FitsSigned, arith, rules}
use mir.Syntax.{w64}
use Rattle.space.specs.Vectors.{at}
use Rattle.bern_form.specs.Sizes.{axis_limit, offset_limit}
use Rattle.moment_forms.specs.Sizes.{moments_limit}
use Rattle.moment_forms.proofs.Middle.{three_same}
use Rattle.wanted_marks.proofs.Small.{linear_is, linear_within}
use Rattle.wanted_marks.proofs.moments.heights_moved.Goals as goal

outer_within : 3 * (offset_limit * axis_limit) ≤ 2 * moments_limit
outer_within = omega arith

middle_within : 2 * (3 * (offset_limit * axis_limit)) ≤ 2 * moments_limit
middle_within = omega arith

pub linear-requires : goal.linear-requires
linear-requires c =
    let a = c.args.a.now in let b = c.args.b.now in
    let f : FitsSigned w64 (at a 0) = search rules in
    let g : FitsSigned w64 (at b 0) = search rules in
    linear_within w64 (at a 0) (at b 0) (pos c.args.j) (3 * (offset_limit * axis_limit)) (2 * moments_limit) f g outer_within c.requires.first

pub linear-requires-2 : goal.linear-requires-2
linear-requires-2 c =
    let a = c.args.a.now in let b = c.args.b.now in
    let f : FitsSigned w64 (at a 1) = search rules in
    let g : FitsSigned w64 (at b 1) = search rules in
    linear_within w64 (at a 1) (at b 1) (pos c.args.j) (2 * (3 * (offset_limit * axis_limit))) (2 * moments_limit) f g middle_within c.requires.middle

pub linear-requires-3 : goal.linear-requires-3
linear-requires-3 c =
    let a = c.args.a.now in let b = c.args.b.now in
    let f : FitsSigned w64 (at a 2) = search rules in
    let g : FitsSigned w64 (at b 2) = search rules in
    linear_within w64 (at a 2) (at b 2) (pos c.args.j) (3 * (offset_limit * axis_limit)) (2 * moments_limit) f g outer_within c.requires.last

pub returns : goal.returns
returns c =
    let a = c.args.a.now in let b = c.args.b.now in let l = pos c.args.j in
    let f0 : FitsSigned w64 (at a 0) = search rules in
    let g0 : FitsSigned w64 (at b 0) = search rules in
    let f1 : FitsSigned w64 (at a 1) = search rules in
    let g1 : FitsSigned w64 (at b 1) = search rules in
    let f2 : FitsSigned w64 (at a 2) = search rules in
    let g2 : FitsSigned w64 (at b 2) = search rules in
    let q0 = c.linear in let q1 = c.linear-2 in let q2 = c.linear-3 in
    three_same _ _ _ _ _ _
    (linear_is w64 q0.result (at a 0) (at b 0) l record { sfits = q0.type_inv } f0 g0 q0.ensures)
    (linear_is w64 q1.result (at a 1) (at b 1) l record { sfits = q1.type_inv } f1 g1 q1.ensures)
    (linear_is w64 q2.result (at a 2) (at b 2) l record { sfits = q2.type_inv } f2 g2 q2.ensures)
