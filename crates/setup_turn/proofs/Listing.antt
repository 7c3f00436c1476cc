-- Turned points by the lists of the points of two grids.
use Rattle.std.proofs.Common.{◌≡◌, ℕ, suc, ◌<◌, ℤ, Bool, true, ◌&&◌, eqb, IsTrue, List, [], ◌∷◌, Contains, arith, refl, sym, ap, ◌∙◌, eq-eqb, ⊎_elim}
use Rattle.std.specs.List.{list_any}
use Rattle.std.specs.Ordering.{int_eq}
use Rattle.std.proofs.lemmas.Bool.{and_from, and_parts, eqb-true, or_cases}
use Rattle.std.proofs.lemmas.Bool.Decides.{Decides-int_eq}
use Rattle.std.proofs.lemmas.List.Folds.{list_any_at}
use Rattle.space.specs.Vectors.{at}
use Rattle.ray_grid.specs.Families.{ray_axis}
use Rattle.ray_grid.specs.Grids.{GridSize}
use Rattle.ray_grid.specs.Lattice.{IsRay, point_of, points_of}
use Rattle.ray_grid.specs.Points.{LatticePoint, lattice_of, point_in}
use Rattle.ray_grid.specs.Turns.{back, is_turn, old_axis}
use Rattle.ray_grid.specs.declared.ray.Ray.{Ray}
use Rattle.ray_grid.specs.declared.turn.Turn.{Turn}
use Rattle.ray_grid.proofs.Counted.{only_points}
use Rattle.ray_grid.proofs.Listed.{listed_point}
use Rattle.setup_turn.specs.Places.{IsTurnedTo}
use Rattle.setup_turn.specs.Turned.{is_same_place, is_turned_to}
use Rattle.setup_turn.proofs.Along.{back_is, forth_is, three_of}

-- the test of two places
same_number : (x y : ℤ) → int_eq x y ≡ true → x ≡ y
same_number x y test = (Decides-int_eq x y).0 test

number_same : (x y : ℤ) → x ≡ y → int_eq x y ≡ true
number_same x y same = (Decides-int_eq x y).1 same

-- an item that passes
pub some_item : {X : Type 0} (test : X → Bool) (xs : List X) → list_any test xs ≡ true → (x : X) × Contains xs x × (test x ≡ true)
some_item test [] any = absurd (cc)
some_item test (x ∷ xs) any =
    ⊎_elim (λ here. (x, (0, omega arith, refl), here))
    (λ later. let found = some_item test xs later in let place = found.1 in (found.0, (suc place.0, omega (arith, place.1), place.2), found.2))
    (or_cases (test x) (list_any test xs) any)

pub item_passes : {X : Type 0} (test : X → Bool) (xs : List X) (x : X) → Contains xs x → test x ≡ true → list_any test xs ≡ true
item_passes test xs x there passes = list_any_at test xs there.0 x there.1 (ap test there.2 ∙ passes)

-- a point of the lattice that passes, by its ray and index
pub record PassesAt (g : GridSize) (test : LatticePoint → Bool) (ray : Ray) (l : ℕ) : Type 0 where
  pub on : IsRay g ray
  pub low : l < points_of g ray.family
  pub holds : test (point_in g ray l) ≡ true

pub some_point : (g : GridSize) (test : LatticePoint → Bool) → list_any test (lattice_of g) ≡ true → (ray : Ray) × ((l : ℕ) × PassesAt g test ray l)
some_point g test any =
    let found = some_item test (lattice_of g) any in
    let p = found.0 in
    let is = only_points g p found.1 in
    (p.ray, (p.l, record { on = is.ray; low = is.index; holds = ap test (sym (as_point g p is.position)) ∙ found.2 }))
  where
    as_point : (g : GridSize) (p : LatticePoint) → p.position ≡ point_of g p.ray p.l → p ≡ point_in g p.ray p.l
    as_point g p is = let at : List ℤ → LatticePoint = λ q. record { ray = p.ray; l = p.l; position = q } in ap at is

pub point_passes : (g : GridSize) (test : LatticePoint → Bool) (ray : Ray) (l : ℕ) → PassesAt g test ray l → list_any test (lattice_of g) ≡ true
point_passes g test ray l is = item_passes test (lattice_of g) (point_in g ray l) (listed_point g ray l is.on is.low) is.holds

-- the test of a turned point
pub test_is : (turn : Turn) (a b : GridSize) (old : Ray) (l : ℕ) (new : Ray) (m : ℕ) → IsTrue (is_turn turn)
    → is_turned_to turn (point_in a old l) (point_in b new m) ≡ true → IsTurnedTo turn a b old l new m
test_is turn a b old l new m test told =
    let from = back turn (point_of b new m) in
    let lay = point_of a old l in
    let parts = and_parts (eqb (old_axis turn (ray_axis new.family)) (ray_axis old.family)) (is_same_place from lay) told in
    let first = and_parts (int_eq (at from 0) (at lay 0)) (int_eq (at from 1) (at lay 1) && int_eq (at from 2) (at lay 2)) parts.1 in
    let others = and_parts (int_eq (at from 1) (at lay 1)) (int_eq (at from 2) (at lay 2)) first.1 in
    let x = same_number (at from 0) (at lay 0) first.0 in
    let y = same_number (at from 1) (at lay 1) others.0 in
    let z = same_number (at from 2) (at lay 2) others.1 in
    let there : from ≡ at lay 0 ∷ at lay 1 ∷ at lay 2 ∷ [] = cc in
    record {
      family = eqb-true (old_axis turn (ray_axis new.family)) (ray_axis old.family) parts.0;
      place = forth_is turn a b old l new m test (there ∙ sym (three_of a old.family old.i old.j l));
    }

pub is_tested : (turn : Turn) (a b : GridSize) (old : Ray) (l : ℕ) (new : Ray) (m : ℕ) → IsTrue (is_turn turn)
    → IsTurnedTo turn a b old l new m → is_turned_to turn (point_in a old l) (point_in b new m) ≡ true
is_tested turn a b old l new m test is =
    let from = back turn (point_of b new m) in
    let lay = point_of a old l in
    let same = back_is turn a b old l new m test is in
    and_from (eqb (old_axis turn (ray_axis new.family)) (ray_axis old.family)) (is_same_place from lay)
    (ap (λ k. eqb k (ray_axis old.family)) is.family ∙ eq-eqb (ray_axis old.family) (ray_axis old.family) refl)
    (and_from (int_eq (at from 0) (at lay 0)) (int_eq (at from 1) (at lay 1) && int_eq (at from 2) (at lay 2))
    (number_same (at from 0) (at lay 0) (ap (λ p. at p 0) same))
    (and_from (int_eq (at from 1) (at lay 1)) (int_eq (at from 2) (at lay 2)) (number_same (at from 1) (at lay 1) (ap (λ p. at p 1) same)) (number_same (at from 2) (at lay 2) (ap (λ p. at p 2) same))))
