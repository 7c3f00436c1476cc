use Rattle.std.proofs.Common.{arith, subst}
use Rattle.ray_grid.specs.Ranges.{IsGrid}
use Rattle.stock_file.proofs.RayOrder.{few_rays, number_low}
use Rattle.stock_file.proofs.read.read_rays.Goals as goal

pub overflow_add-next : goal.overflow_add-next
overflow_add-next c =
    let grid = c.grid-grid.result in
    let valid : IsGrid grid = subst IsGrid c.grid.view_is c.grid.invariant in
    omega (arith, c.ray_number-next.ensures.number, number_low grid c.in-Ok.field-0.ray c.in-Ok.ensures.ray, few_rays grid valid)
