-- How many points the lattice has, and that it has no others.
use Rattle.std.proofs.Common.{◌≡◌, ℕ, suc, ◌+◌, ◌*◌, ◌<◌, List, [], ◌∷◌, ◌++◌, length, map, Contains, arith, refl, sym, ap, ◌∙◌, subst, ⊎_elim, length-append}
use Rattle.std.specs.List.{flat_map, range_with_len}
use Rattle.std.proofs.lemmas.Grind.{flat_map-append}
use Rattle.std.proofs.lemmas.List.Elements.{Contains-append_cases}
use Rattle.std.proofs.lemmas.List.Folds.{flat_map-map}
use Rattle.std.proofs.lemmas.List.FromFn.{length-map-range_with_len, length-range_with_len, get_or-map-range_with_len}
use Rattle.ray_grid.specs.Grids.{GridSize}
use Rattle.ray_grid.specs.declared.ray.Ray.{Ray}
use Rattle.ray_grid.specs.declared.ray.Family.{Family}
use Rattle.ray_grid.specs.declared.ray.Family.TheVariants.{X, Y, Z}
use Rattle.ray_grid.specs.Families.{first_axis, second_axis}
use Rattle.ray_grid.specs.Lattice.{IsRay, nodes_of, points_of, point_of}
use Rattle.ray_grid.specs.Strips.{strip_of, strips_along, strips_of}
use Rattle.ray_grid.specs.Points.{IsPointOf, LatticePoint, family_points, points_on, rays_of, lattice_of}

-- lists of one length, joined
pub length-same : {A B : Type 0} → (f : A → List B) (xs : List A) (n : ℕ) → ((x : A) → length (f x) ≡ n) → length (flat_map f xs) ≡ length xs * n
length-same f [] n each = omega arith
length-same f (x ∷ xs) n each = length-append (f x) (flat_map f xs) ∙ (let a = each x in let b = length-same f xs n each in omega arith)

length-joined : {A B C : Type 0} → (f : B → List C) (g : A → List B) (xs : List A) (n : ℕ) → ((x : A) → length (flat_map f (g x)) ≡ n) → length (flat_map f (flat_map g xs)) ≡ length xs * n
length-joined f g [] n each = omega arith
length-joined f g (x ∷ xs) n each =
    ap length (flat_map-append f (g x) (flat_map g xs)) ∙ length-append (flat_map f (g x)) (flat_map f (flat_map g xs))
    ∙ (let a = each x in let b = length-joined f g xs n each in omega arith)

-- the points of a strip
length-strip_points : (g : GridSize) (f : Family) (i : ℕ) → length (flat_map (points_on g) (strip_of g f i)) ≡ nodes_of g (second_axis f) * points_of g f
length-strip_points g f i =
    let ray : ℕ → Ray = λ j. record { family = f; i = i; j = j } in
    let n = nodes_of g (second_axis f) in
    ap length (flat_map-map (points_on g) ray (range_with_len 0 n))
    ∙ length-same (λ j. points_on g (ray j)) (range_with_len 0 n) (points_of g f)
    (λ j. length-map-range_with_len (λ l. record { ray = ray j; l = l; position = point_of g (ray j) l }) 0 (points_of g f))
    ∙ ap (λ k. k * points_of g f) (length-range_with_len 0 n)

-- the points of a family
length-family : (g : GridSize) (f : Family) → length (flat_map (points_on g) (flat_map (λ (strip : List Ray). strip) (strips_along g f))) ≡ family_points g f
length-family g f =
    let n = nodes_of g (first_axis f) in
    ap (λ rays. length (flat_map (points_on g) rays)) (flat_map-map (λ (strip : List Ray). strip) (strip_of g f) (range_with_len 0 n))
    ∙ length-joined (points_on g) (strip_of g f) (range_with_len 0 n) (nodes_of g (second_axis f) * points_of g f) (length-strip_points g f)
    ∙ ap (λ k. k * (nodes_of g (second_axis f) * points_of g f)) (length-range_with_len 0 n)

length-two : (g : GridSize) (a b : List (List Ray))
    → length (flat_map (points_on g) (flat_map (λ (strip : List Ray). strip) (a ++ b)))
    ≡ length (flat_map (points_on g) (flat_map (λ (strip : List Ray). strip) a)) + length (flat_map (points_on g) (flat_map (λ (strip : List Ray). strip) b))
length-two g a b =
    let rays : List (List Ray) → List Ray = λ strips. flat_map (λ (strip : List Ray). strip) strips in
    ap (λ l. length (flat_map (points_on g) l)) (flat_map-append (λ (strip : List Ray). strip) a b)
    ∙ ap length (flat_map-append (points_on g) (rays a) (rays b)) ∙ length-append (flat_map (points_on g) (rays a)) (flat_map (points_on g) (rays b))

-- the lattice has the points of the three families
pub length-lattice : (g : GridSize) → length (lattice_of g) ≡ family_points g Z + family_points g X + family_points g Y
length-lattice g =
    length-two g (strips_along g Z ++ strips_along g X) (strips_along g Y)
    ∙ (let a = length-two g (strips_along g Z) (strips_along g X) in
    let z = length-family g Z in let x = length-family g X in let y = length-family g Y in omega arith)

-- what is in joined lists is in one of them
from_flat : {A B : Type 0} → (f : A → List B) (xs : List A) (y : B) → Contains (flat_map f xs) y → (x : A) × Contains xs x × Contains (f x) y
from_flat f [] y h = absurd (omega (arith, h.1))
from_flat f (x ∷ xs) y h =
    ⊎_elim (λ here. (x, (0, omega arith, refl), here))
    (λ later. let found = from_flat f xs y later in let place = found.1 in (found.0, (suc place.0, omega (arith, place.1), place.2), found.2))
    (Contains-append_cases (f x) (flat_map f xs) y h)

from_made : {A : Type 0} → (f : ℕ → A) (n : ℕ) (y : A) → Contains (map f (range_with_len 0 n)) y → (i : ℕ) × (i < n) × (f i ≡ y)
from_made f n y h =
    let size = length-map-range_with_len f 0 n in
    let lt : h.0 < n = omega (arith, h.1) in
    (h.0, lt, sym (get_or-map-range_with_len f 0 n h.0 h.0 y lt (omega arith)) ∙ h.2)

-- the rays of a family's strips are rays of the grid
ray_along : (g : GridSize) (f : Family) (ray : Ray) (strip : List Ray) → Contains (strips_along g f) strip → Contains strip ray → IsRay g ray
ray_along g f ray strip there here =
    let row = from_made (strip_of g f) (nodes_of g (first_axis f)) strip there in
    let at = from_made (λ j. record { family = f; i = row.0; j = j }) (nodes_of g (second_axis f)) ray (subst (λ (l : List Ray). Contains l ray) (sym row.2) here) in
    subst (IsRay g) at.2 (record { first = row.1; second = at.1 })

ray_of_grid : (g : GridSize) (ray : Ray) → Contains (rays_of g) ray → IsRay g ray
ray_of_grid g ray h =
    let found = from_flat (λ (strip : List Ray). strip) (strips_of g) ray h in
    ⊎_elim
    (λ zx. ⊎_elim (λ z. ray_along g Z ray found.0 z found.2) (λ x. ray_along g X ray found.0 x found.2) (Contains-append_cases (strips_along g Z) (strips_along g X) found.0 zx))
    (λ y. ray_along g Y ray found.0 y found.2)
    (Contains-append_cases (strips_along g Z ++ strips_along g X) (strips_along g Y) found.0 found.1)

-- the lattice has only points of the grid
pub only_points : (g : GridSize) (p : LatticePoint) → Contains (lattice_of g) p → IsPointOf g p
only_points g p h =
    let found = from_flat (points_on g) (rays_of g) p h in
    let ray = ray_of_grid g found.0 found.1 in
    let at = from_made (λ l. record { ray = found.0; l = l; position = point_of g found.0 l }) (points_of g found.0.family) p found.2 in
    subst (IsPointOf g) at.2 (record { ray = ray; index = at.1; position = refl })
