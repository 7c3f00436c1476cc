use Rattle.std.proofs.Common.{◌≡◌, ◌++◌, drop}
use Rattle.ray_grid.specs.Points.{rays_of}
use Rattle.stock_file.specs.Spelling.{rays_text}
use Rattle.stock_file.proofs.WalkLemmas.{IsAtRay}
use Rattle.stock_file.proofs.text.write_rays.Given as goal

-- the lines of the rays that are left make all the lines
abbrev pub invariant-loop-set : goal.invariant-loop-set
invariant-loop-set l = record {
  text : l.page ++ rays_text (drop l.set-index (rays_of l.grid)) (drop l.set-index l.sets) ≡ l.fn.page ++ rays_text (rays_of l.grid) l.sets;
  ray : IsAtRay l.grid l.set-index l.ray;
}
