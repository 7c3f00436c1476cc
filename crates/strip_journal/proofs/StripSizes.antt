-- How many rays and points a strip has, and so how much a move can find there.
use Rattle.std.proofs.Common.{ℕ, ◌+◌, ◌-◌, ◌^◌, ◌<◌, ◌≤◌, List, length, get_or, arith}
use Rattle.std.proofs.lemmas.List.Concat.{length-flat_map}
use Rattle.std.proofs.lemmas.List.FromFn.{length-map-range_with_len}
use Rattle.std.proofs.lemmas.List.Sums.{sum_by-le}
use Rattle.std.proofs.Math.Nat.{mul-le-mul_right}
use native.Mathlib.Decide.{dec_le}
use mathlib.Core.Logic.{dite}
use Rattle.ray_grid.specs.Grids.{GridSize}
use Rattle.ray_grid.specs.declared.ray.Family.{Family}
use Rattle.ray_grid.specs.declared.ray.Family.TheVariants.{X, Y, Z}
use Rattle.ray_grid.specs.declared.ray.Ray.{Ray}
use Rattle.ray_grid.specs.Lattice.{nodes_of, points_of}
use Rattle.ray_grid.specs.Points.{point_in, points_on}
use Rattle.ray_grid.specs.Ranges.{IsGrid}
use Rattle.ray_grid.specs.Strips.{strip_at, strip_of, strips_of}
use Rattle.ray_grid.proofs.Rows.{length-strip, row_x, row_y, row_z}
use Rattle.ray_grid.proofs.Sizes.{axis_of, few_places}
use Rattle.job_counts.specs.Counts.{AreWithin}
use Rattle.dexel_rays.proofs.Found.{findings_within}
use Rattle.job_model.specs.Findings.{seen}
use Rattle.job_model.specs.Points.{left_moves, strip_points}
use Rattle.job_model.specs.Tasks.{Job, JobMove}
use Rattle.strip_marks.specs.Marks.{points_at, ray_of}
use Rattle.strip_journal.specs.Journals.{found_at}

-- a ray has few points
family_few : (grid : GridSize) (family : Family) → IsGrid grid → points_of grid family ≤ 400000
family_few grid X is = few_places grid 0 is (omega arith)
family_few grid Y is = few_places grid 1 is (omega arith)
family_few grid Z is = few_places grid 2 is (omega arith)

pub points_at_few : (grid : GridSize) (strip n : ℕ) → IsGrid grid → points_at grid strip n ≤ 400000
points_at_few grid strip n is = family_few grid (ray_of grid strip n).family is

-- a strip has few rays
row_few : (grid : GridSize) (family : Family) (i : ℕ) → IsGrid grid → length (strip_of grid family i) ≤ 400
row_few grid X i is = let size = length-strip grid X i in let most = (axis_of grid 2 is (omega arith)).most in omega (arith, size, most)
row_few grid Y i is = let size = length-strip grid Y i in let most = (axis_of grid 2 is (omega arith)).most in omega (arith, size, most)
row_few grid Z i is = let size = length-strip grid Z i in let most = (axis_of grid 1 is (omega arith)).most in omega (arith, size, most)

pub rays_few : (grid : GridSize) (strip : ℕ) → IsGrid grid → strip < length (strips_of grid) → length (strip_at grid strip) ≤ 400
rays_few grid strip is among =
    dite (dec_le (nodes_of grid 0) strip)
    (λ behind_z.
    dite (dec_le (nodes_of grid 0 + nodes_of grid 1) strip)
    (λ behind_x. rw (row_y grid strip behind_x among) (row_few grid Y (strip - nodes_of grid 0 - nodes_of grid 1) is))
    (λ no. rw (row_x grid strip behind_z (omega arith)) (row_few grid X (strip - nodes_of grid 0) is)))
    (λ no. rw (row_z grid strip (omega arith)) (row_few grid Z strip is))

-- and so few points
pub points_few : (grid : GridSize) (strip : ℕ) → IsGrid grid → strip < length (strips_of grid)
    → length (strip_points grid strip) < 2 ^ 32
points_few grid strip is among =
    let rays : List Ray = strip_at grid strip in
    let all = length-flat_map (points_on grid) rays in
    let few = rays_few grid strip is among in
    let each = sum_by-le (λ ray. length (points_on grid ray)) 400000 rays (λ n d lt. one (get_or rays n d)) in
    let most = mul-le-mul_right 400000 few in
    omega (arith, all, each, most)
  where
    one : (ray : Ray) → length (points_on grid ray) ≤ 400000
    one ray = rw (length-map-range_with_len (point_in grid ray) 0 (points_of grid ray.family)) (family_few grid ray.family is)

-- no count of what a move finds on a strip is above what 32 bits hold
pub found_few : (job : Job) (strip version : ℕ) (move : JobMove) → IsGrid job.plan.grid → strip < length (strips_of job.plan.grid)
    → AreWithin (2 ^ 32 - 1) (found_at job strip version move)
found_few job strip version move is among =
    let points = strip_points job.plan.grid strip in
    let few = points_few job.plan.grid strip is among in
    let within = findings_within (seen job (left_moves job.plan version) move) points in
    record {
      removed = omega (arith, few, within.removed);
      possible = omega (arith, few, within.possible);
      part_sure = omega (arith, few, within.part_sure);
      part_possible = omega (arith, few, within.part_possible);
      fix_sure = omega (arith, few, within.fix_sure);
      fix_possible = omega (arith, few, within.fix_possible);
      rapid_sure = omega (arith, few, within.rapid_sure);
      rapid_possible = omega (arith, few, within.rapid_possible);
    }
