use Rattle.std.proofs.Common.{◌*◌, subst, sym}
use Rattle.bern_form.specs.Sizes.{IsBounded2, axis_limit, offset_limit}
use Rattle.axis_cells.proofs.Bounds.{cross_bounded}
use Rattle.cert_boxes.proofs.forms.EndForms.between.Goals as goal

pub invariant_of-result : goal.invariant_of-result
invariant_of-result c =
    let first = c.args.start.now in let last = c.args.end.now in
    record {
      u_small = subst (IsBounded2 (3 * (offset_limit * axis_limit))) (sym c.scalar_product_on_cell.ensures) (cross_bounded first.offset last.offset first.axis last.axis offset_limit axis_limit first.offset_within last.offset_within first.axis_within last.axis_within);
      n_small = subst (IsBounded2 (3 * (axis_limit * axis_limit))) (sym c.scalar_product_on_cell-2.ensures) (cross_bounded first.axis last.axis first.axis last.axis axis_limit axis_limit first.axis_within last.axis_within first.axis_within last.axis_within);
      d_small = subst (IsBounded2 (3 * (offset_limit * offset_limit))) (sym c.scalar_product_on_cell-3.ensures) (cross_bounded first.offset last.offset first.offset last.offset offset_limit offset_limit first.offset_within last.offset_within first.offset_within last.offset_within);
    }
