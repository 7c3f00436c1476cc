-- What the parts of a ray cover are the points of the bodies on it.
use Rattle.std.proofs.Common.{◌≡◌, ℕ, ◌<◌, ℤ, List, length, Bool, true, ◌&&◌, ltb, Result, Ok, Err, IfOk, arith, sym, ap, ◌∙◌, subst}
use Rattle.std.proofs.lemmas.Bool.Decides.{nat_tests}
use Rattle.vf_io.specs.declared.answers.NoMemory.{NoMemory}
use Rattle.vf_spans.specs.Members.{has}
use Rattle.ray_grid.specs.Grids.{GridSize}
use Rattle.ray_grid.specs.declared.ray.Ray.{Ray}
use Rattle.ray_grid.specs.Lattice.{points_of, point_of}
use Rattle.ray_grid.specs.Points.{LatticePoint, point_in}
use Rattle.ray_shapes.specs.declared.half_line.IndexRange.{IndexRange}
use Rattle.ray_shapes.specs.declared.plane.Plane.{Plane}
use Rattle.ray_shapes.specs.Parts.{covers_some}
use Rattle.ray_shapes.specs.Planes.{in_bodies}
use Rattle.ray_shapes.specs.Sets.{HoldsPointsOf}

covered_point : (parts : List IndexRange) (bodies : List (List Plane)) (m l : ℕ) (at at' : List ℤ) → covers_some parts l ≡ (ltb l m && in_bodies bodies at) → l < m → at ≡ at' → covers_some parts l ≡ in_bodies bodies at'
covered_point parts bodies m l at at' exact lt same =
    exact ∙ ap (λ b. b && in_bodies bodies at) (let t : ltb l m ≡ true = grind (arith, nat_tests) in t) ∙ ap (in_bodies bodies) same

pub filled : (answer : Result (List Bool) NoMemory) (grid : GridSize) (ray : Ray) (bodies : List (List Plane)) (parts : List IndexRange) (at : ℕ → List ℤ) (m : ℕ) → m ≡ points_of grid ray.family
    → ((l : ℕ) → at l ≡ point_of grid ray l) → ((l : ℕ) → covers_some parts l ≡ (ltb l m && in_bodies bodies (at l)))
    → IfOk answer (λ s. length s ≡ m) → IfOk answer (λ s. (i : ℕ) → has s i ≡ covers_some parts i) → IfOk answer (HoldsPointsOf grid ray (λ point. in_bodies bodies point.position))
filled (Ok s) grid ray bodies parts at m size same exact bound covered = record {
  bound = bound ∙ size;
  points = λ l lt. covered l ∙ covered_point parts bodies m l (at l) (point_of grid ray l) (exact l) (subst (λ (n : ℕ). l < n) (sym size) lt) (same l);
}
filled (Err e) grid ray bodies parts at m size same exact bound covered = tt

-- what holds the points of one test holds those of another that says the same
pub filled_as : (answer : Result (List Bool) NoMemory) (grid : GridSize) (ray : Ray) (inside other : LatticePoint → Bool)
    → ((point : LatticePoint) → inside point ≡ other point) → IfOk answer (HoldsPointsOf grid ray inside) → IfOk answer (HoldsPointsOf grid ray other)
filled_as (Ok s) grid ray inside other same is = record { bound = is.bound; points = λ l low. is.points l low ∙ same (point_in grid ray l) }
filled_as (Err e) grid ray inside other same is = tt
