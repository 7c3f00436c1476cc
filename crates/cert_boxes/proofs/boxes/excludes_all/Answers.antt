use Rattle.std.proofs.Common.{◌+◌, pos, refl, sym, ◌∙◌}
use Rattle.bern_form.specs.Forms.{lifted, product22}
use Rattle.ray_boxes.specs.Boxes.{height_column, width_column}
use Rattle.cert_boxes.proofs.BoxPoses.{excluded_by_forms, excluded_by_grids, same_box}
use Rattle.cert_boxes.proofs.BoxRows.{all_behind}
use Rattle.cert_boxes.proofs.boxes.excludes_all.Goals as goal

pub returns-then-are_behind : goal.returns-then-are_behind
returns-then-are_behind c =
    let f = c.of-forms in let m = c.args.sweep.now in let slabs = c.args.slabs.now in let k = c.args.cell.now.k in
    let S = c.cells_of-scale.result in let u = f.result.first.u.c in let v = f.result.last.u.c in let n = f.result.first.n.c in
    let d = f.result.first.d.c in let e = f.result.product.c in let g = f.result.last.d.c in
    sym (all_behind S (lifted n) (product22 u u) (height_column (pos 2) u v) (product22 v v) (width_column (pos 4) d n u u) (width_column (pos 8) e n u v) (width_column (pos 4) g n v v) slabs)
    ∙ excluded_by_grids slabs S u v n d e g refl (sym c.if-are_behind.true ∙ c.are_behind.ensures) refl refl refl refl refl refl refl
    ∙ excluded_by_forms slabs m c.point-p.result c.point-q.result k (k + 1) S f.ensures.first.u_is f.ensures.last.u_is f.ensures.first.n_is f.ensures.first.d_is f.ensures.product f.ensures.last.d_is
    ∙ same_box slabs m k c.point-p.ensures.position c.point-q.ensures.position c.cells_of-scale.ensures.cells

pub returns : goal.returns
returns c =
    let f = c.of-forms in let t = c.of_forms.ensures in let m = c.args.sweep.now in let slabs = c.args.slabs.now in let k = c.args.cell.now.k in
    c.excludes_all.ensures
    ∙ excluded_by_grids slabs c.cells_of-scale.result f.result.first.u.c f.result.last.u.c f.result.first.n.c f.result.first.d.c f.result.product.c f.result.last.d.c
    t.scale (sym c.if-are_behind.false ∙ c.are_behind.ensures) t.raised t.height_first t.height_middle t.height_last t.width_first t.width_middle t.width_last
    ∙ excluded_by_forms slabs m c.point-p.result c.point-q.result k (k + 1) c.cells_of-scale.result
    f.ensures.first.u_is f.ensures.last.u_is f.ensures.first.n_is f.ensures.first.d_is f.ensures.product f.ensures.last.d_is
    ∙ same_box slabs m k c.point-p.ensures.position c.point-q.ensures.position c.cells_of-scale.ensures.cells
