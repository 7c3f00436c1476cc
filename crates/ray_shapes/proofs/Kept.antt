-- A kept closure that gives its solid on a grid gives it on its own.
use Rattle.std.proofs.Common.{◌≡◌, sym, subst, Result, List, Bool}
use Rattle.std.specs.Borrow.{Bor}
use Rattle.std.specs.Fn.{Shared}
use Rattle.vf_io.specs.declared.answers.NoMemory.{NoMemory}
use Rattle.ray_grid.specs.Grids.{GridSize}
use Rattle.ray_grid.specs.declared.ray.Ray.{Ray}
use Rattle.ray_shapes.specs.declared.shape.RayShape.{RayShape}
use Rattle.ray_shapes.specs.Sets.{GivesSolid}

pub gives_own : {F : Type 0} (calls : Shared F (Bor Ray × Unit {0}) (Result (List Bool) NoMemory)) (grid : GridSize) (shape : RayShape F)
    → GivesSolid calls grid shape → GivesSolid calls shape.grid shape
gives_own calls grid shape given = subst (λ (g : GridSize). GivesSolid calls g shape) (sym given.kept_for) given

-- and on a grid that is the same
pub gives_on : {F : Type 0} (calls : Shared F (Bor Ray × Unit {0}) (Result (List Bool) NoMemory)) (grid other : GridSize) (shape : RayShape F)
    → grid ≡ other → GivesSolid calls grid shape → GivesSolid calls other shape
gives_on calls grid other shape same given = subst (λ (g : GridSize). GivesSolid calls g shape) same given
