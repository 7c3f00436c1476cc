use Rattle.std.proofs.Common.{◌*◌, ◌+◌, ◌∙◌, subst, sym}
use Rattle.bern_form.specs.Sizes.{IsBounded2, offset_limit}
use Rattle.axis_cells.proofs.Bounds.{cross_bounded}
use Rattle.cert_boxes.proofs.BoxPoses.{forms_of_poses, product_of_poses}
use Rattle.cert_boxes.proofs.forms.CellForms.of.Goals as goal

pub invariant_of-result : goal.invariant_of-result
invariant_of-result c =
    let p = c.at_sample-p_start.result in let p' = c.at_sample-p_end.result in let q = c.at_sample-q_start.result in let q' = c.at_sample-q_end.result in
    record {
      product_small =
          subst (IsBounded2 (3 * (offset_limit * offset_limit))) (sym c.scalar_product_on_cell.ensures)
          (cross_bounded p.offset p'.offset q.offset q'.offset offset_limit offset_limit p.offset_within p'.offset_within q.offset_within q'.offset_within);
    }

pub returns-clause-first : goal.returns-clause-first
returns-clause-first c =
    let p = c.at_sample-p_start in let p' = c.at_sample-p_end in let s = c.between in
    forms_of_poses c.args.sweep.now c.args.p.now c.args.k (c.args.k + 1) c.args.scale p.result.offset p'.result.offset p.result.axis p'.result.axis s.result.u.c s.result.n.c s.result.d.c
    p.ensures.offset p'.ensures.offset p.ensures.axis p'.ensures.axis s.ensures.u s.ensures.n s.ensures.d

pub returns-clause-last : goal.returns-clause-last
returns-clause-last c =
    let q = c.at_sample-q_start in let q' = c.at_sample-q_end in let s = c.between-2 in
    forms_of_poses c.args.sweep.now c.args.q.now c.args.k (c.args.k + 1) c.args.scale q.result.offset q'.result.offset q.result.axis q'.result.axis s.result.u.c s.result.n.c s.result.d.c
    q.ensures.offset q'.ensures.offset q.ensures.axis q'.ensures.axis s.ensures.u s.ensures.n s.ensures.d

pub returns-clause-product : goal.returns-clause-product
returns-clause-product c =
    c.scalar_product_on_cell.ensures
    ∙ product_of_poses c.args.sweep.now c.args.p.now c.args.q.now c.args.k (c.args.k + 1) c.args.scale _ _ _ _
    c.at_sample-p_start.ensures.offset c.at_sample-p_end.ensures.offset c.at_sample-q_start.ensures.offset c.at_sample-q_end.ensures.offset
