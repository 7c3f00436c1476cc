-- The point of a grid at a place.
use Rattle.std.proofs.Common.{◌≡◌, ℕ, ◌<◌, ◌≤◌, unsigned_abs, FitsSigned, w32, rules, ℤ, List, [], ◌∷◌, length, Option, None, arith, refl, sym, ap, ◌∙◌, subst}
use Rattle.space.specs.Vectors.{at}
use Rattle.ray_grid.specs.Families.{first_axis, ray_axis, second_axis}
use Rattle.ray_grid.specs.Grids.{GridSize}
use Rattle.ray_grid.specs.Lattice.{node_at, nodes_of, place_at, point_at, points_of}
use Rattle.ray_grid.specs.declared.ray.Family.{Family}
use Rattle.ray_grid.specs.declared.ray.Family.TheVariants.{X, Y, Z}
use Rattle.setup_turn.specs.Places.{AreStepsTo, IsFound, IsPointAt}

-- a coordinate that is not far fits
pub small_fits : (z : ℤ) → unsigned_abs z ≤ 5000000 → FitsSigned w32 z
small_fits z small = search rules

-- steps of the same numbers
pub same_steps_from : (o p w v z q : ℤ) (n m : ℕ) (found : Option ℕ) → o ≡ p → w ≡ v → n ≡ m → z ≡ q → AreStepsTo o w n z found → AreStepsTo p v m q found
same_steps_from o p w v z q n m found a b c d is =
    subst (λ (k : ℤ). AreStepsTo k v m q found) a
    (subst (λ (k : ℤ). AreStepsTo o k m q found) b
    (subst (λ (k : ℕ). AreStepsTo o w k q found) c
    (subst (λ (k : ℤ). AreStepsTo o w n k found) d is)))

along_is : (g : GridSize) (f : Family) (i j l : ℕ) → at (point_at g f i j l) (ray_axis f) ≡ place_at g (ray_axis f) l
along_is g X i j l = refl
along_is g Y i j l = refl
along_is g Z i j l = refl

first_is : (g : GridSize) (f : Family) (i j l : ℕ) → at (point_at g f i j l) (first_axis f) ≡ node_at g (first_axis f) i
first_is g X i j l = refl
first_is g Y i j l = refl
first_is g Z i j l = refl

second_is : (g : GridSize) (f : Family) (i j l : ℕ) → at (point_at g f i j l) (second_axis f) ≡ node_at g (second_axis f) j
second_is g X i j l = refl
second_is g Y i j l = refl
second_is g Z i j l = refl

-- where one of the three coordinates is that of no index or node, there is no point
pub no_index : (g : GridSize) (f : Family) (place : List ℤ) → AreStepsTo (at g.origin (ray_axis f)) g.step (points_of g f) (at place (ray_axis f)) None → IsFound g f place None
no_index g f place none ray l is =
    none l (subst (λ (h : Family). l < points_of g h) is.along is.low)
    (sym (along_is g f ray.i ray.j l) ∙ ap (λ (h : Family). at (point_at g h ray.i ray.j l) (ray_axis f)) (sym is.along) ∙ ap (λ p. at p (ray_axis f)) is.there)

pub no_first : (g : GridSize) (f : Family) (place : List ℤ) → AreStepsTo (at g.origin (first_axis f)) g.pitch (nodes_of g (first_axis f)) (at place (first_axis f)) None
    → IsFound g f place None
no_first g f place none ray l is =
    none ray.i (subst (λ (h : Family). ray.i < nodes_of g (first_axis h)) is.along is.on.first)
    (sym (first_is g f ray.i ray.j l) ∙ ap (λ (h : Family). at (point_at g h ray.i ray.j l) (first_axis f)) (sym is.along) ∙ ap (λ p. at p (first_axis f)) is.there)

pub no_second : (g : GridSize) (f : Family) (place : List ℤ) → AreStepsTo (at g.origin (second_axis f)) g.pitch (nodes_of g (second_axis f)) (at place (second_axis f)) None
    → IsFound g f place None
no_second g f place none ray l is =
    none ray.j (subst (λ (h : Family). ray.j < nodes_of g (second_axis h)) is.along is.on.second)
    (sym (second_is g f ray.i ray.j l) ∙ ap (λ (h : Family). at (point_at g h ray.i ray.j l) (second_axis f)) (sym is.along) ∙ ap (λ p. at p (second_axis f)) is.there)

-- else there is one
whole : (place : List ℤ) → length place ≡ 3 → place ≡ at place 0 ∷ at place 1 ∷ at place 2 ∷ []
whole [] size = absurd (omega arith)
whole (x ∷ []) size = absurd (omega arith)
whole (x ∷ y ∷ []) size = absurd (omega arith)
whole (x ∷ y ∷ z ∷ []) size = refl
whole (x ∷ y ∷ z ∷ w ∷ rest) size = absurd (omega arith)

three_as : (x y z u v w : ℤ) → x ≡ u → y ≡ v → z ≡ w → x ∷ y ∷ z ∷ [] ≡ u ∷ v ∷ w ∷ []
three_as x y z u v w a b c = cc

point_is : (g : GridSize) (f : Family) (place : List ℤ) (i j l : ℕ) → place_at g (ray_axis f) l ≡ at place (ray_axis f)
    → node_at g (first_axis f) i ≡ at place (first_axis f) → node_at g (second_axis f) j ≡ at place (second_axis f)
    → point_at g f i j l ≡ at place 0 ∷ at place 1 ∷ at place 2 ∷ []
point_is g X place i j l a b c = three_as _ _ _ _ _ _ a b c
point_is g Y place i j l a b c = three_as _ _ _ _ _ _ b a c
point_is g Z place i j l a b c = three_as _ _ _ _ _ _ b c a

pub point_there : (g : GridSize) (f : Family) (place : List ℤ) (i j l : ℕ) → length place ≡ 3
    → (l < points_of g f) × (place_at g (ray_axis f) l ≡ at place (ray_axis f))
    → (i < nodes_of g (first_axis f)) × (node_at g (first_axis f) i ≡ at place (first_axis f))
    → (j < nodes_of g (second_axis f)) × (node_at g (second_axis f) j ≡ at place (second_axis f))
    → IsPointAt g f place (record { family = f; i = i; j = j }) l
point_there g f place i j l size along first second = record {
  on = record { first = first.0; second = second.0 };
  low = along.0;
  along = refl;
  there = point_is g f place i j l along.1 first.1 second.1 ∙ sym (whole place size);
}
