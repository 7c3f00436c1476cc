-- Where each ray is in the list of all rays.
use Rattle.std.proofs.Common.{◌≡◌, ℕ, suc, zero, ◌+◌, ◌-◌, ◌*◌, ◌<◌, ◌≤◌, List, [], ◌∷◌, ◌++◌, length, get_or, slice_get, Some, arith, ap, ◌∙◌, length-append}
use Rattle.std.specs.List.{flat_map, range_with_len}
use Rattle.std.proofs.lemmas.Grind.{flat_map-append}
use Rattle.std.proofs.lemmas.List.{get_or_append_left, get_or-append_right}
use Rattle.std.proofs.lemmas.List.Folds.{flat_map-map}
use Rattle.std.proofs.lemmas.List.FromFn.{get_or-map-range_with_len, get_or-range_with_len, length-range_with_len}
use Rattle.std.proofs.lemmas.Option.{slice_get-get_or}
use Rattle.std.proofs.Math.Nat.{mul-le-mul}
use Rattle.ray_grid.specs.Grids.{GridSize}
use Rattle.ray_grid.specs.declared.ray.Ray.{Ray}
use Rattle.ray_grid.specs.declared.ray.Family.{Family}
use Rattle.ray_grid.specs.declared.ray.Family.TheVariants.{X, Y, Z}
use Rattle.ray_grid.specs.Families.{first_axis, second_axis}
use Rattle.ray_grid.specs.Lattice.{IsRay, nodes_of}
use Rattle.ray_grid.specs.Strips.{family_rays, first_number, ray_number, strip_of, strips_along}
use Rattle.ray_grid.specs.Points.{rays_of}
use Rattle.ray_grid.proofs.Counted.{length-same}
use Rattle.ray_grid.specs.Ranges.{IsGrid}
use Rattle.ray_grid.proofs.Rows.{length-strip}
use Rattle.ray_grid.proofs.Sizes.{axis_of}

-- item j of the i-th of joined lists, which are all of one length
item_in_row : {A B : Type 0} → (f : A → List B) (m : ℕ) → ((x : A) → length (f x) ≡ m) → (xs : List A) (i j : ℕ) (x : A) (b : B)
    → i < length xs → j < m → get_or (flat_map f xs) (i * m + j) b ≡ get_or (f (get_or xs i x)) j b
item_in_row f m each [] i j x b low lt = absurd (omega arith)
item_in_row f m each (y ∷ ys) zero j x b low lt =
    ap (λ k. get_or (f y ++ flat_map f ys) k b) (let q : 0 * m + j ≡ j = omega arith in q)
    ∙ get_or_append_left (f y) (flat_map f ys) b j (let size = each y in omega arith)
item_in_row f m each (y ∷ ys) (suc i) j x b low lt =
    get_or-append_right (f y) (flat_map f ys) m (suc i * m + j) b (each y) (omega arith)
    ∙ ap (λ k. get_or (flat_map f ys) k b) (let q : suc i * m + j - m ≡ i * m + j = omega arith in q)
    ∙ item_in_row f m each ys i j x b (omega arith) lt

-- an item of a row is no further than the rows go
pub row_within : (n m i j : ℕ) → i < n → j < m → i * m + j < n * m
row_within n m i j low lt = let rows : (i + 1) * m ≤ n * m = mul-le-mul (omega arith) (omega arith) in omega arith

-- the rays of a family, strip by strip
rays_along : GridSize → Family → List Ray
rays_along g f = flat_map (λ (strip : List Ray). strip) (strips_along g f)

as_rows : (g : GridSize) (f : Family) → rays_along g f ≡ flat_map (strip_of g f) (range_with_len 0 (nodes_of g (first_axis f)))
unfolding rays_along
as_rows g f = flat_map-map (λ (strip : List Ray). strip) (strip_of g f) (range_with_len 0 (nodes_of g (first_axis f)))

length_along : (g : GridSize) (f : Family) → length (rays_along g f) ≡ family_rays g f
length_along g f =
    let n = nodes_of g (first_axis f) in let m = nodes_of g (second_axis f) in
    ap length (as_rows g f) ∙ length-same (strip_of g f) (range_with_len 0 n) m (length-strip g f)
    ∙ ap (λ k. k * m) (length-range_with_len 0 n)

ray_along : (g : GridSize) (ray : Ray) → IsRay g ray
    → get_or (rays_along g ray.family) (ray.i * nodes_of g (second_axis ray.family) + ray.j) ray ≡ ray
ray_along g ray h =
    let f = ray.family in
    let n = nodes_of g (first_axis f) in let m = nodes_of g (second_axis f) in
    ap (λ rays. get_or rays (ray.i * m + ray.j) ray) (as_rows g f)
    ∙ item_in_row (strip_of g f) m (length-strip g f) (range_with_len 0 n) ray.i ray.j 0 ray
    (let size = length-range_with_len 0 n in let low = h.first in omega arith) h.second
    ∙ ap (λ i. get_or (strip_of g f i) ray.j ray) (get_or-range_with_len 0 n ray.i 0 h.first ∙ (let q : 0 + ray.i ≡ ray.i = omega arith in q))
    ∙ get_or-map-range_with_len (λ j. record { family = f; i = ray.i; j = j }) 0 m ray.j ray.j ray h.second (omega arith)

all_rays : (g : GridSize) → rays_of g ≡ (rays_along g Z ++ rays_along g X) ++ rays_along g Y
unfolding rays_along
all_rays g =
    flat_map-append (λ (strip : List Ray). strip) (strips_along g Z ++ strips_along g X) (strips_along g Y)
    ∙ ap (λ rays. rays ++ flat_map (λ (strip : List Ray). strip) (strips_along g Y))
    (flat_map-append (λ (strip : List Ray). strip) (strips_along g Z) (strips_along g X))

-- how many rays there are
pub length-rays : (g : GridSize) → length (rays_of g) ≡ family_rays g Z + family_rays g X + family_rays g Y
length-rays g =
    ap length (all_rays g)
    ∙ (let a = length-append (rays_along g Z ++ rays_along g X) (rays_along g Y) in let b = length-append (rays_along g Z) (rays_along g X) in
    let z = length_along g Z in let x = length_along g X in let y = length_along g Y in omega arith)

-- the ray of each number
at_number : (g : GridSize) (f : Family) (k : ℕ) (d : Ray) → k < family_rays g f
    → get_or ((rays_along g Z ++ rays_along g X) ++ rays_along g Y) (first_number g f + k) d ≡ get_or (rays_along g f) k d
at_number g Z k d lt =
    let b = length-append (rays_along g Z) (rays_along g X) in let z = length_along g Z in
    ap (λ n. get_or ((rays_along g Z ++ rays_along g X) ++ rays_along g Y) n d) (let q : 0 + k ≡ k = omega arith in q)
    ∙ get_or_append_left (rays_along g Z ++ rays_along g X) (rays_along g Y) d k (omega arith)
    ∙ get_or_append_left (rays_along g Z) (rays_along g X) d k (omega arith)
at_number g X k d lt =
    let b = length-append (rays_along g Z) (rays_along g X) in let z = length_along g Z in let x = length_along g X in
    get_or_append_left (rays_along g Z ++ rays_along g X) (rays_along g Y) d (family_rays g Z + k) (omega arith)
    ∙ get_or-append_right (rays_along g Z) (rays_along g X) (family_rays g Z) (family_rays g Z + k) d z (omega arith)
    ∙ ap (λ n. get_or (rays_along g X) n d) (let q : family_rays g Z + k - family_rays g Z ≡ k = omega arith in q)
at_number g Y k d lt =
    let b = length-append (rays_along g Z) (rays_along g X) in let z = length_along g Z in let x = length_along g X in
    get_or-append_right (rays_along g Z ++ rays_along g X) (rays_along g Y) (family_rays g Z + family_rays g X)
    (family_rays g Z + family_rays g X + k) d (omega arith) (omega arith)
    ∙ ap (λ n. get_or (rays_along g Y) n d)
    (let q : family_rays g Z + family_rays g X + k - (family_rays g Z + family_rays g X) ≡ k = omega arith in q)

within : (g : GridSize) (f : Family) (k : ℕ) → k < family_rays g f → first_number g f + k < length (rays_of g)
within g Z k lt = let all = length-rays g in omega arith
within g X k lt = let all = length-rays g in omega arith
within g Y k lt = let all = length-rays g in omega arith

pub number_is_place : (g : GridSize) (ray : Ray) → IsRay g ray → slice_get (rays_of g) (ray_number g ray) ≡ Some ray
number_is_place g ray h =
    let f = ray.family in
    let k = ray.i * nodes_of g (second_axis f) + ray.j in
    let low : k < family_rays g f = row_within (nodes_of g (first_axis f)) (nodes_of g (second_axis f)) ray.i ray.j h.first h.second in
    slice_get-get_or (rays_of g) (ray_number g ray) ray (within g f k low)
    ∙ ap Some (ap (λ rays. get_or rays (ray_number g ray) ray) (all_rays g) ∙ at_number g f k ray low ∙ ray_along g ray h)

below_most : (g : GridSize) (f : Family) (i : ℕ) → IsGrid g → i < nodes_of g (first_axis f) → i < 400
below_most g X i is low = let most = (axis_of g 1 is (omega arith)).most in omega arith
below_most g Y i is low = let most = (axis_of g 0 is (omega arith)).most in omega arith
below_most g Z i is low = let most = (axis_of g 0 is (omega arith)).most in omega arith

-- a ray's first node is one of few, and so are the rays of the rows before it
pub few_first : (g : GridSize) (ray : Ray) → IsGrid g → IsRay g ray → ray.i < 400
few_first g ray is h = below_most g ray.family ray.i is h.first

pub few_rows : (i m : ℕ) → i < 400 → m ≤ 400 → i * m ≤ 160000
few_rows i m low few = let under : i ≤ 400 = omega arith in let all : i * m ≤ 400 * 400 = mul-le-mul under few in omega arith
