use Rattle.std.proofs.Common.{◌+◌, ◌-◌, ◌^◌, ◌∙◌}
use Rattle.ray_grid.specs.Lattice.{point_of}
use Rattle.box_bisect.proofs.RayTests.{undecided_by_forms, undecided_by_grids}
use Rattle.box_bisect.proofs.ray.search.is_undecided.Goals as goal

pub returns-clause-left : goal.returns-clause-left
returns-clause-left g c =
    let slabs = c.args.slabs.now in let S = c.args.scale in let cell_box = c.args.cell_box in let m = c.args.sweep.now in
    let p = point_of c.args.grid.now c.args.ray.now cell_box.from in let q = point_of c.args.grid.now c.args.ray.now (cell_box.to - 1) in
    let j = cell_box.first in let k = cell_box.first + 2 ^ cell_box.levels in
    let f = c.of-forms.result in let e = c.of-forms.ensures in let l = c.of_forms.result in let h = c.of_forms.ensures in
    c.leaves_some.ensures.left
    ∙ undecided_by_grids slabs S f.first.u.c f.last.u.c f.first.n.c f.first.d.c f.product.c f.last.d.c h.scale h.behind h.raised h.height_first h.height_middle h.height_last h.width_first h.width_middle h.width_last
    ∙ undecided_by_forms slabs m p q j k S e.first.u_is e.last.u_is e.first.n_is e.first.d_is e.product e.last.d_is
