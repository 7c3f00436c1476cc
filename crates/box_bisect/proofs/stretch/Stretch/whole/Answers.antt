use Rattle.std.proofs.Common.{◌*◌, subst, sym}
use Rattle.bern_form.specs.Sizes.{IsBounded2, axis_limit, offset_limit}
use Rattle.axis_cells.proofs.Bounds.{cross_bounded}
use Rattle.box_bisect.proofs.Poses.{forms_of_poses}
use Rattle.box_bisect.proofs.stretch.Stretch.whole.Goals as goal

pub invariant_of-result : goal.invariant_of-result
invariant_of-result c =
    let first = c.at_sample-first.result in let last = c.at_sample-last.result in
    record {
      u_small = subst (IsBounded2 (3 * (offset_limit * axis_limit))) (sym c.scalar_product_on_cell.ensures) (cross_bounded first.offset last.offset first.axis last.axis offset_limit axis_limit first.offset_within last.offset_within first.axis_within last.axis_within);
      n_small = subst (IsBounded2 (3 * (axis_limit * axis_limit))) (sym c.scalar_product_on_cell-2.ensures) (cross_bounded first.axis last.axis first.axis last.axis axis_limit axis_limit first.axis_within last.axis_within first.axis_within last.axis_within);
      d_small = subst (IsBounded2 (3 * (offset_limit * offset_limit))) (sym c.scalar_product_on_cell-3.ensures) (cross_bounded first.offset last.offset first.offset last.offset offset_limit offset_limit first.offset_within last.offset_within first.offset_within last.offset_within);
    }

pub returns : goal.returns
returns c =
    let first = c.at_sample-first.ensures in let last = c.at_sample-last.ensures in
    forms_of_poses c.args.sweep.now c.args.point.now 0 c.args.scale c.args.scale _ _ _ _ _ _ _ first.offset last.offset first.axis last.axis c.scalar_product_on_cell.ensures c.scalar_product_on_cell-2.ensures c.scalar_product_on_cell-3.ensures
