use Rattle.std.proofs.Common.{◌≡◌, length, subst, sym, ◌∙◌, arith, rules}
use Rattle.space.specs.Vectors.{at}
use Rattle.setup_file.specs.Sound.{IsBody}
use Rattle.setup_file.proofs.Boxes.{box_is, box_valid, ends_are, negation_fits}
use Rattle.setup_file.proofs.body.box_body.Goals as goal

pub overflow_sub-z0 : goal.overflow_sub-z0
overflow_sub-z0 c =
    let six : length c.args.ends.now ≡ 6 = first_of (search rules, omega arith) in
    negation_fits (at c.args.ends.now 2) (ends_are c.args.ends.now c.requires six).z0

pub returns-clause-planes : goal.returns-clause-planes
returns-clause-planes c =
    let six : length c.args.ends.now ≡ 6 = first_of (search rules, omega arith) in
    c.new.ensures ∙ c.in_ok-from_slice.ensures.items
    ∙ box_is c.args.ends.now (ends_are c.args.ends.now c.requires six) c.plane.result c.plane-2.result c.plane-3.result c.plane-4.result c.plane-5.result c.plane-6.result
    c.plane.ensures c.plane-2.ensures c.plane-3.ensures c.plane-4.ensures c.plane-5.ensures c.plane-6.ensures

pub returns-clause-valid : goal.returns-clause-valid
returns-clause-valid c =
    let six : length c.args.ends.now ≡ 6 = first_of (search rules, omega arith) in
    let ends = ends_are c.args.ends.now c.requires six in
    let is = c.new.ensures ∙ c.in_ok-from_slice.ensures.items
    ∙ box_is c.args.ends.now ends c.plane.result c.plane-2.result c.plane-3.result c.plane-4.result c.plane-5.result c.plane-6.result
    c.plane.ensures c.plane-2.ensures c.plane-3.ensures c.plane-4.ensures c.plane-5.ensures c.plane-6.ensures in
    subst IsBody (sym is) (box_valid c.args.ends.now ends)
