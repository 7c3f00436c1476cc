use Rattle.std.proofs.Common.{◌≡◌, ◌-◌, ◌≤◌, map, take}
use Rattle.ray_grid.specs.Points.{rays_of}
use Rattle.stock_file.specs.Saved.{no_flags}
use Rattle.stock_file.proofs.WalkLemmas.{IsAtRay}
use Rattle.stock_file.proofs.stock.no_sets.Given as goal

-- the rays before this one have their sets
abbrev pub invariant-loop-number : goal.invariant-loop-number
invariant-loop-number l = record {
  sets : l.rays.items ≡ map (no_flags l.grid) (take l.number (rays_of l.grid));
  ray : IsAtRay l.grid l.number l.ray;
  most : l.number ≤ l.count;
}

abbrev pub decreases-loop-number : goal.decreases-loop-number
decreases-loop-number l = l.count - l.number
