use Rattle.std.proofs.Common.{sym, subst, ap, ap₂, arith, pos, ◌*◌, ◌∙◌}
use Rattle.bern_form.specs.Forms.{difference4, lifted, scaled4}
use Rattle.bern_form.specs.Sizes.{IsBounded4, axis_limit}
use Rattle.bern_form.proofs.Sizes.{small_as}
use Rattle.axis_cells.proofs.Bounds.{cell_fits, list4}
use Rattle.box_bisect.proofs.Fitting.{raised_small}
use Rattle.box_bisect.proofs.limits.Limits.of_stretch.Goals as goal

pub times22-height-requires : goal.times22-height-requires
times22-height-requires c = let s = c.args.stretch.now in (cell_fits s.u.c s.n.c s.d.c s.u_small s.n_small s.d_small).height

pub times22-requires : goal.times22-requires
times22-requires c = let s = c.args.stretch.now in (cell_fits s.u.c s.n.c s.d.c s.u_small s.n_small s.d_small).both

pub minus4-spread-requires : goal.minus4-spread-requires
minus4-spread-requires c =
    let s = c.args.stretch.now in
    small_as (ap₂ difference4 c.times22.ensures.coefficients c.times22-height.ensures.coefficients) (cell_fits s.u.c s.n.c s.d.c s.u_small s.n_small s.d_small).spread

pub lift24-requires : goal.lift24-requires
lift24-requires c = let s = c.args.stretch.now in list4 (lifted s.n.c) (18 * (axis_limit * axis_limit)) (omega arith) (raised_small s.n.c s.n_small)

pub scale4-requires : goal.scale4-requires
scale4-requires c =
    let s = c.args.stretch.now in
    small_as (ap (scaled4 (pos 4)) (c.minus4-spread.ensures.coefficients ∙ ap₂ difference4 c.times22.ensures.coefficients c.times22-height.ensures.coefficients))
    (cell_fits s.u.c s.n.c s.d.c s.u_small s.n_small s.d_small).width

pub invariant_of-result : goal.invariant_of-result
invariant_of-result c =
    let s = c.args.stretch.now in record {
      scale_small = c.requires;
      raised_small = subst (IsBounded4 (18 * (axis_limit * axis_limit))) (sym c.lift24.ensures.coefficients) (raised_small s.n.c s.n_small);
    }
