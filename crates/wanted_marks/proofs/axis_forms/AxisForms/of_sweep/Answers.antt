use Rattle.std.proofs.Common.{◌*◌, FitsSigned, subst, sym}
use Rattle.std.proofs.lemmas.Int.{to_z-of_z}
use mir.Syntax.{w64}
use Rattle.space.specs.Sweeps.{SweepOf}
use Rattle.bern_form.specs.Sizes.{IsBounded2, axis_limit}
use Rattle.axis_cells.proofs.Bounds.{cross_bounded}
use Rattle.wanted_marks.specs.Peaks.{IsLeast}
use Rattle.wanted_marks.specs.Widths.{IsAxisForms}
use Rattle.wanted_marks.proofs.Stepping.{axis_forms_are}
use Rattle.wanted_marks.proofs.axis_forms.AxisForms.of_sweep.Goals as goal

pub least_of-least-requires : goal.least_of-least-requires
least_of-least-requires c =
    let first = c.scaled_axis-first in let last = c.scaled_axis-last in
    subst (IsBounded2 (3 * (axis_limit * axis_limit))) (sym c.scalar_product_on_cell-n.ensures)
    (cross_bounded first.result last.result first.result last.result axis_limit axis_limit first.ensures.small last.ensures.small first.ensures.small last.ensures.small)

pub raised_of-raised-requires : goal.raised_of-raised-requires
raised_of-raised-requires c =
    let first = c.scaled_axis-first in let last = c.scaled_axis-last in
    subst (IsBounded2 (3 * (axis_limit * axis_limit))) (sym c.scalar_product_on_cell-n.ensures)
    (cross_bounded first.result last.result first.result last.result axis_limit axis_limit first.ensures.small last.ensures.small first.ensures.small last.ensures.small)

pub invariant_of-result : goal.invariant_of-result
invariant_of-result c =
    let first = c.scaled_axis-first in let last = c.scaled_axis-last in
    record {
      first_within = first.ensures.small;
      last_within = last.ensures.small;
      n_small = subst (IsBounded2 (3 * (axis_limit * axis_limit))) (sym c.scalar_product_on_cell-n.ensures)
          (cross_bounded first.result last.result first.result last.result axis_limit axis_limit first.ensures.small last.ensures.small first.ensures.small last.ensures.small);
      least_is = let f : FitsSigned w64 c.least_of-least.result = record { sfits = c.least_of-least.type_inv } in subst (λ z. IsLeast z c.scalar_product_on_cell-n.result.c) (sym (to_z-of_z w64 c.least_of-least.result f)) c.least_of-least.ensures;
      raised_is = c.raised_of-raised.ensures;
    }

pub returns : goal.returns
returns c =
    let s = c.sweep.inside in let first = c.scaled_axis-first in let last = c.scaled_axis-last in
    subst (λ (m : SweepOf). IsAxisForms first.result last.result c.scalar_product_on_cell-n.result.c m c.args.scale) c.sweep.view_is
    (axis_forms_are record { from = s.from; to = s.to; axis_from = s.axis_from; axis_to = s.axis_to } c.args.scale first.result last.result c.scalar_product_on_cell-n.result.c first.ensures.axis last.ensures.axis c.scalar_product_on_cell-n.ensures)
