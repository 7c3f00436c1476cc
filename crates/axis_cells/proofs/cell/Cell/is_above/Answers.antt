use Rattle.std.proofs.Common.{arith, ap, pos, ◌≡◌, ◌∙◌, ◌*◌}
use Rattle.std.proofs.lemmas.Int.{to_z-of_z}
use Rattle.bern_form.specs.Forms.{all_positive, difference4}
use Rattle.bern_form.specs.Sizes.{axis_limit, offset_limit}
use Rattle.axis_cells.specs.Exclusion.{squared}
use Rattle.axis_cells.proofs.Bounds.{difference_fits, more4}
use Rattle.axis_cells.proofs.cell.Cell.is_above.Goals as goal

pub minus4-requires : goal.minus4-requires
minus4-requires c = difference_fits c.args.self.now.height.c c.squared.result.c (more4 (54 * (offset_limit * axis_limit) * (offset_limit * axis_limit)) (432 * (offset_limit * axis_limit) * (offset_limit * axis_limit)) c.args.self.now.height.c (omega arith) c.args.self.now.height_small) c.squared.ensures.small

pub returns : goal.returns
returns c =
    let length = c.ranges.hi in
    let square : c.squared.result.c ≡ squared (pos c.args.self.now.scale) c.args.hi c.args.self.now.n.c = simp to_z-of_z at c.squared.ensures.list in
    c.all_positive.ensures.exact ∙ ap all_positive (c.minus4.ensures.coefficients ∙ ap (difference4 c.args.self.now.height.c) square)
