use Rattle.axis_cells.proofs.Fits.{read_height_fits}
use Rattle.ray_runs.proofs.slab_at.reached.Goals as goal

pub overflow_mul-height : goal.overflow_mul-height
overflow_mul-height c = let at = c.args.at.now in read_height_fits at.u at.u_small
