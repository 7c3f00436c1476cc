use Rattle.std.proofs.lemmas.Int.{to_z-of_z}
use Rattle.space.specs.Vectors.{dot}
use Rattle.space.proofs.Words.{fits_of}
use Rattle.sweep_boxes.proofs.bounds.least_of.Goals as goal

pub returns-clause-value : goal.returns-clause-value
returns-clause-value c v among above =
    let l = c.ranges.floor in
    let r = fits_of c.greater.result c.greater.type_inv in
    let d = fits_of c.least_dot.result c.least_dot.type_inv in
    simp to_z-of_z (c.greater.ensures.value (dot v c.args.axis.now) (simp to_z-of_z (c.least_dot.ensures.value v among)) (simp to_z-of_z above))
