use Rattle.std.proofs.Common.{◌-◌, ◌*◌, ◌≤◌, unsigned_abs, ap, ap₂, ◌∙◌, arith}
use Rattle.std.proofs.lemmas.Int.{ints, to_z-of_z}
use Rattle.setup_file.specs.Grids.{points_a_node}
use Rattle.setup_file.proofs.Ends.{last_fits}
use Rattle.setup_file.proofs.grid.last_point.Goals as goal

pub overflow_sub-result : goal.overflow_sub-result
overflow_sub-result c =
    let n = c.unsigned_abs.ensures.value ∙ ap unsigned_abs (to_z-of_z _ _ c.ranges.count) in
    let q = c.points_a_node.ensures ∙ ap₂ points_a_node (to_z-of_z _ _ c.ranges.pitch) (to_z-of_z _ _ c.ranges.step) in
    rw (n, q) (last_fits c.args.origin c.args.pitch c.args.step c.args.count c.requires.origin c.requires.pitch c.requires.step c.requires.count).some

pub overflow_mul-result : goal.overflow_mul-result
overflow_mul-result c =
    let n = c.unsigned_abs.ensures.value ∙ ap unsigned_abs (to_z-of_z _ _ c.ranges.count) in
    let q = c.points_a_node.ensures ∙ ap₂ points_a_node (to_z-of_z _ _ c.ranges.pitch) (to_z-of_z _ _ c.ranges.step) in
    let s = c.unsigned_abs-2.ensures.value ∙ ap unsigned_abs (to_z-of_z _ _ c.ranges.step) in
    let small : (c.unsigned_abs.result * c.points_a_node.result - 1) * c.unsigned_abs-2.result ≤ 400000000 =
    rw (n, q, s) (last_fits c.args.origin c.args.pitch c.args.step c.args.count c.requires.origin c.requires.pitch c.requires.step c.requires.count).small in
    omega arith

pub overflow_cast-result : goal.overflow_cast-result
overflow_cast-result c =
    let n = c.unsigned_abs.ensures.value ∙ ap unsigned_abs (to_z-of_z _ _ c.ranges.count) in
    let q = c.points_a_node.ensures ∙ ap₂ points_a_node (to_z-of_z _ _ c.ranges.pitch) (to_z-of_z _ _ c.ranges.step) in
    let s = c.unsigned_abs-2.ensures.value ∙ ap unsigned_abs (to_z-of_z _ _ c.ranges.step) in
    let small : (c.unsigned_abs.result * c.points_a_node.result - 1) * c.unsigned_abs-2.result ≤ 400000000 =
    rw (n, q, s) (last_fits c.args.origin c.args.pitch c.args.step c.args.count c.requires.origin c.requires.pitch c.requires.step c.requires.count).small in
    omega (arith, ints)

pub overflow_add-result : goal.overflow_add-result
overflow_add-result c =
    let n = c.unsigned_abs.ensures.value ∙ ap unsigned_abs (to_z-of_z _ _ c.ranges.count) in
    let q = c.points_a_node.ensures ∙ ap₂ points_a_node (to_z-of_z _ _ c.ranges.pitch) (to_z-of_z _ _ c.ranges.step) in
    let s = c.unsigned_abs-2.ensures.value ∙ ap unsigned_abs (to_z-of_z _ _ c.ranges.step) in
    rw (n, q, s) (last_fits c.args.origin c.args.pitch c.args.step c.args.count c.requires.origin c.requires.pitch c.requires.step c.requires.count).sum

pub returns : goal.returns
returns c =
    let n = c.unsigned_abs.ensures.value ∙ ap unsigned_abs (to_z-of_z _ _ c.ranges.count) in
    let q = c.points_a_node.ensures ∙ ap₂ points_a_node (to_z-of_z _ _ c.ranges.pitch) (to_z-of_z _ _ c.ranges.step) in
    let s = c.unsigned_abs-2.ensures.value ∙ ap unsigned_abs (to_z-of_z _ _ c.ranges.step) in
    rw (n, q, s) (last_fits c.args.origin c.args.pitch c.args.step c.args.count c.requires.origin c.requires.pitch c.requires.step c.requires.count).value
