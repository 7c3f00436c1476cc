use Rattle.std.proofs.Common.{◌*◌, ◌+◌, ◌∙◌, ap, subst, sym}
use Rattle.bern_form.specs.Sizes.{IsBounded2, offset_limit}
use Rattle.axis_cells.proofs.Bounds.{cross_bounded}
use Rattle.box_bisect.proofs.Poses.{poses_on, product_on}
use Rattle.box_bisect.proofs.ray.box_forms.BoxForms.of.Goals as goal

pub invariant_of-result : goal.invariant_of-result
invariant_of-result c =
    let p = c.at_sample-p_start.result in let p' = c.at_sample-p_end.result in let q = c.at_sample-q_start.result in let q' = c.at_sample-q_end.result in
    record {
      product_small =
          subst (IsBounded2 (3 * (offset_limit * offset_limit))) (sym c.scalar_product_on_cell.ensures)
          (cross_bounded p.offset p'.offset q.offset q'.offset offset_limit offset_limit p.offset_within p'.offset_within q.offset_within q'.offset_within);
    }

pub returns-clause-first : goal.returns-clause-first
returns-clause-first c =
    let at = c.point-p.ensures.position in let to = ap (λ n. c.args.cell_box.first + n) c.cells_of.ensures.cells in
    let p = c.at_sample-p_start in let p' = c.at_sample-p_end in let s = c.stretch_between in
    poses_on c.args.sweep.now _ _ c.args.cell_box.first _ _ c.args.scale p.result.offset p'.result.offset p.result.axis p'.result.axis s.result.u.c s.result.n.c s.result.d.c at to
    p.ensures.offset p'.ensures.offset p.ensures.axis p'.ensures.axis s.ensures.u s.ensures.n s.ensures.d

pub returns-clause-last : goal.returns-clause-last
returns-clause-last c =
    let at = c.point-q.ensures.position in let to = ap (λ n. c.args.cell_box.first + n) c.cells_of.ensures.cells in
    let q = c.at_sample-q_start in let q' = c.at_sample-q_end in let s = c.stretch_between-2 in
    poses_on c.args.sweep.now _ _ c.args.cell_box.first _ _ c.args.scale q.result.offset q'.result.offset q.result.axis q'.result.axis s.result.u.c s.result.n.c s.result.d.c at to
    q.ensures.offset q'.ensures.offset q.ensures.axis q'.ensures.axis s.ensures.u s.ensures.n s.ensures.d

pub returns-clause-product : goal.returns-clause-product
returns-clause-product c =
    let at = c.point-p.ensures.position in let at' = c.point-q.ensures.position in let to = ap (λ n. c.args.cell_box.first + n) c.cells_of.ensures.cells in
    c.scalar_product_on_cell.ensures
    ∙ product_on c.args.sweep.now _ _ _ _ c.args.cell_box.first _ _ c.args.scale _ _ _ _ at at' to
    c.at_sample-p_start.ensures.offset c.at_sample-p_end.ensures.offset c.at_sample-q_start.ensures.offset c.at_sample-q_end.ensures.offset
