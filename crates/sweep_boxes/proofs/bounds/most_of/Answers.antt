use Rattle.std.proofs.lemmas.Int.{to_z-of_z}
use Rattle.space.specs.Vectors.{dot}
use Rattle.sweep_boxes.proofs.Numbers.{sum_fits}
use Rattle.space.proofs.Words.{fits_of}
use Rattle.sweep_boxes.proofs.bounds.most_of.Goals as goal

pub returns-clause-value : goal.returns-clause-value
returns-clause-value c v among below =
    let l = c.ranges.height_slack in let t = c.ranges.top in let m = sum_fits c.args.top c.args.height_slack c.requires.top c.requires.height_slack in
    let r = fits_of c.lesser.result c.lesser.type_inv in
    let d = fits_of c.most_dot.result c.most_dot.type_inv in
    simp to_z-of_z (c.lesser.ensures.value (dot v c.args.axis.now) (simp to_z-of_z (c.most_dot.ensures.value v among)) (simp to_z-of_z below))
