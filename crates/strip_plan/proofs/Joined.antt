-- Boxes by indices that join two others.
use Rattle.std.proofs.Common.{ℕ}
use Rattle.ray_grid.specs.Grids.{GridSize}
use Rattle.ray_grid.specs.declared.ray.Family.TheVariants.{X, Y, Z}
use Rattle.ray_grid.specs.declared.ray.Ray.{Ray}
use Rattle.strip_plan.specs.declared.index_box.IndexBox.{IndexBox}
use Rattle.strip_plan.specs.IndexBoxes.{HasPoint, IsBoxOf, JoinsBoxes}
use Rattle.strip_plan.specs.Ranges.{Joins}

-- what joins on each axis joins for each family
pub joins_all : (one other all : IndexBox) → Joins one.x.nodes other.x.nodes all.x.nodes → Joins one.x.points other.x.points all.x.points
    → Joins one.y.nodes other.y.nodes all.y.nodes → Joins one.y.points other.y.points all.y.points → Joins one.z.nodes other.z.nodes all.z.nodes
    → Joins one.z.points other.z.points all.z.points → JoinsBoxes one other all
joins_all one other all xn xp yn yp zn zp X = record { first = yn; second = zn; along = xp }
joins_all one other all xn xp yn yp zn zp Y = record { first = xn; second = zn; along = yp }
joins_all one other all xn xp yn yp zn zp Z = record { first = xn; second = yn; along = zp }

pub of_one : (one other all : IndexBox) (ray : Ray) (l : ℕ) → JoinsBoxes one other all → HasPoint one ray l → HasPoint all ray l
of_one one other all ray l joins has =
    let j = joins ray.family in
    record { first = j.first.of_one ray.i has.first; second = j.second.of_one ray.j has.second; along = j.along.of_one l has.along }

pub of_other : (one other all : IndexBox) (ray : Ray) (l : ℕ) → JoinsBoxes one other all → HasPoint other ray l → HasPoint all ray l
of_other one other all ray l joins has =
    let j = joins ray.family in
    record { first = j.first.of_other ray.i has.first; second = j.second.of_other ray.j has.second; along = j.along.of_other l has.along }

pub fits_joined : (grid : GridSize) (one other all : IndexBox) → JoinsBoxes one other all → IsBoxOf grid one → IsBoxOf grid other → IsBoxOf grid all
fits_joined grid one other all joins a b family =
    let j = joins family in
    record {
      first = j.first.range _ (a family).first (b family).first;
      second = j.second.range _ (a family).second (b family).second;
      along = j.along.range _ (a family).along (b family).along;
    }
