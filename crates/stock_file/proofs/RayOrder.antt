-- The rays of a grid one after the other have numbers that follow each other.
use Rattle.std.proofs.Common.{◌≡◌, ℕ, suc, zero, ◌+◌, ◌*◌, ◌<◌, ◌≤◌, length, get_or, slice_get, nat_lt, Some, cond, arith, sym, ap, ◌∙◌, subst}
use Rattle.std.proofs.lemmas.Bool.{cond_both, ltb-true, ltb-false}
use Rattle.std.proofs.lemmas.Option.{get_or_from_slice_get, same_Some, slice_get_within}
use Rattle.std.proofs.Math.Nat.{mul-le-mul}
use Rattle.ray_grid.specs.Families.{first_axis, second_axis}
use Rattle.ray_grid.specs.Grids.{GridSize}
use Rattle.ray_grid.specs.Lattice.{IsRay, nodes_of}
use Rattle.ray_grid.specs.Points.{rays_of}
use Rattle.ray_grid.specs.Ranges.{IsGrid}
use Rattle.ray_grid.specs.Strips.{family_rays, first_number, ray_number}
use Rattle.ray_grid.specs.declared.ray.Family.{Family}
use Rattle.ray_grid.specs.declared.ray.Family.TheVariants.{X, Y, Z}
use Rattle.ray_grid.specs.declared.ray.Ray.{Ray}
use Rattle.ray_grid.proofs.Numbered.{length-rays, number_is_place}
use Rattle.stock_file.specs.Rays.{IsRayAt, family_after, first_of_family, ray_after}

-- a valid grid has a node on each axis, and at most 400
pub some_nodes : (g : GridSize) (f : Family) → IsGrid g → (1 ≤ nodes_of g (first_axis f)) × (1 ≤ nodes_of g (second_axis f))
some_nodes g X is = (is.y.some, is.z.some)
some_nodes g Y is = (is.x.some, is.z.some)
some_nodes g Z is = (is.x.some, is.y.some)

pub few_nodes : (g : GridSize) (f : Family) → IsGrid g → (nodes_of g (first_axis f) ≤ 400) × (nodes_of g (second_axis f) ≤ 400)
few_nodes g X is = (is.y.most, is.z.most)
few_nodes g Y is = (is.x.most, is.z.most)
few_nodes g Z is = (is.x.most, is.y.most)

few_of_family : (g : GridSize) (f : Family) → IsGrid g → family_rays g f ≤ 160000
few_of_family g f is = let few = few_nodes g f is in mul-le-mul few.0 few.1

-- so it has few rays
pub few_rays : (g : GridSize) → IsGrid g → length (rays_of g) ≤ 480000
few_rays g is =
    let all = length-rays g in
    let z = few_of_family g Z is in let x = few_of_family g X is in let y = few_of_family g Y is in omega arith

-- the ray of a number
pub at_number : (g : GridSize) (n : ℕ) (ray : Ray) → IsRayAt g n ray → slice_get (rays_of g) n ≡ Some ray
at_number g n ray has = ap (λ k. slice_get (rays_of g) k) (sym has.same) ∙ number_is_place g ray has.on

pub ray_at : (g : GridSize) (n : ℕ) (ray d : Ray) → IsRayAt g n ray → get_or (rays_of g) n d ≡ ray
ray_at g n ray d has = get_or_from_slice_get (rays_of g) n ray d (at_number g n ray has)

pub number_low : (g : GridSize) (ray : Ray) → IsRay g ray → ray_number g ray < length (rays_of g)
number_low g ray is = slice_get_within (rays_of g) (ray_number g ray) ray (number_is_place g ray is)

-- two rays with one number are one
pub same_number : (g : GridSize) (ray other : Ray) → IsRay g ray → IsRay g other → ray_number g ray ≡ ray_number g other → ray ≡ other
same_number g ray other is are same =
    same_Some ray other (sym (number_is_place g ray is) ∙ ap (λ k. slice_get (rays_of g) k) same ∙ number_is_place g other are)

first_has : (g : GridSize) (f : Family) → IsGrid g → IsRayAt g (first_number g f) (first_of_family f)
first_has g f is =
    let some = some_nodes g f is in
    record { on = record { first = omega (arith, some.0); second = omega (arith, some.1) }; same = omega arith }

pub first_is : (g : GridSize) → IsGrid g → IsRayAt g 0 (first_of_family Z)
first_is g is = first_has g Z is

-- after the last ray of a family comes the first one of the next
family_end : (g : GridSize) (f : Family) (i j : ℕ) → i + 1 ≡ nodes_of g (first_axis f) → j + 1 ≡ nodes_of g (second_axis f)
    → i * nodes_of g (second_axis f) + j + 1 ≡ family_rays g f
family_end g f i j first second =
    let rows : (i + 1) * nodes_of g (second_axis f) ≡ family_rays g f = ap (λ k. k * nodes_of g (second_axis f)) first in omega (arith, rows, second)

next_family : (g : GridSize) (f : Family) (n i j : ℕ) → IsGrid g → first_number g f + (i * nodes_of g (second_axis f) + j) ≡ n
    → i + 1 ≡ nodes_of g (first_axis f) → j + 1 ≡ nodes_of g (second_axis f) → n + 1 < length (rays_of g) → IsRayAt g (n + 1) (first_of_family (family_after f))
next_family g Z n i j is number first second low =
    let end = family_end g Z i j first second in
    let next : first_number g X ≡ n + 1 = omega (arith, end, number) in
    subst (λ (k : ℕ). IsRayAt g k (first_of_family X)) next (first_has g X is)
next_family g X n i j is number first second low =
    let end = family_end g X i j first second in
    let next : first_number g Y ≡ n + 1 = omega (arith, end, number) in
    subst (λ (k : ℕ). IsRayAt g k (first_of_family Y)) next (first_has g Y is)
next_family g Y n i j is number first second low =
    let end = family_end g Y i j first second in
    let all = length-rays g in absurd (omega (arith, end, number, low, all))

-- the ray after a ray has the next number, where there is one
pub after_is : (g : GridSize) (n : ℕ) (ray : Ray) → IsGrid g → IsRayAt g n ray → n + 1 < length (rays_of g) → IsRayAt g (n + 1) (ray_after g ray)
after_is g n ray is has low =
    let f = ray.family in
    let a = nodes_of g (first_axis f) in let b = nodes_of g (second_axis f) in
    let along : Ray = record { family = f; i = ray.i; j = ray.j + 1 } in
    let next : Ray = record { family = f; i = ray.i + 1; j = 0 } in
    let i_low : ray.i < a = has.on.first in let j_low : ray.j < b = has.on.second in
    let number : first_number g f + (ray.i * b + ray.j) ≡ n = has.same in
    let P : Ray → Type 0 = λ r. IsRayAt g (n + 1) r in
    cond_both (nat_lt (ray.j + 1) b) along (cond (nat_lt (ray.i + 1) a) next (first_of_family (family_after f))) P
    (λ here. record { on = record { first = i_low; second = ltb-true (ray.j + 1) b here }; same = omega (arith, number) })
    (λ past. let end = ltb-false (ray.j + 1) b past in
    let second : ray.j + 1 ≡ b = omega arith in
    cond_both (nat_lt (ray.i + 1) a) next (first_of_family (family_after f)) P
    (λ here. record { on = record { first = ltb-true (ray.i + 1) a here; second = omega arith }; same = omega (arith, number, second) })
    (λ last. let over = ltb-false (ray.i + 1) a last in
    next_family g f n ray.i ray.j is number (let q : ray.i + 1 ≡ a = omega arith in q) second low))

-- each number is that of a ray
pub numbered : (g : GridSize) → IsGrid g → (n : ℕ) → n < length (rays_of g) → (ray : Ray) × IsRayAt g n ray
numbered g is zero low = (first_of_family Z, first_is g is)
numbered g is (suc n) low =
    let one = numbered g is n (omega arith) in
    let next : n + 1 ≡ suc n = omega arith in (
      ray_after g one.0,
      subst (λ (k : ℕ). IsRayAt g k (ray_after g one.0)) next (after_is g n one.0 is one.1 (omega arith)),
    )
