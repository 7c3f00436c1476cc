-- How far a plane's left side changes from a point to a near one: by Cauchy and Schwarz no more than the distance times the length of the normal.
use Rattle.std.proofs.Common.{◌≡◌, ℕ, ◌+◌, ◌*◌, ◌≤◌, List, [], ◌∷◌, ℤ, pos, negsuc, ◌+ℤ◌, ◌-ℤ◌, ◌*ℤ◌, ◌≤ℤ◌, arith, refl, subst}
use Rattle.std.proofs.Math.Nat.{mul-le-mul}
use Rattle.std.proofs.lemmas.Int.{ints}
use Rattle.space.specs.Vectors.{at, dot}
use Rattle.space.proofs.Naturals.{dot_natural, natural, spread_natural}
use Rattle.space.proofs.Solver.{add, ring}
use Rattle.space.proofs.Terms.{dots, from, sub}
use Rattle.bern_form.proofs.Roots.{ceil_root-reaches, root_le}
use Rattle.ray_shapes.specs.Planes.{value_at}
use Rattle.ray_shapes.specs.declared.plane.Plane.{Plane}
use Rattle.setup_file.specs.Shift.{normal_length, square_of}
use Rattle.laws.specs.Clearance.{squared_distance}

-- a number whose square is at most N V, where N and V are at most the squares of L and b, is at most b L
within : (z : ℤ) (N V L b : ℕ) → pos 0 ≤ℤ ((pos N *ℤ pos V) -ℤ (z *ℤ z)) → N ≤ L * L → V ≤ b * b → z ≤ℤ pos (b * L)
within (pos k) N V L b some long far =
    let most = mul-le-mul long far in
    let squares : k * k ≤ (b * L) * (b * L) = omega (arith, ints) in
    let least = root_le k (b * L) squares in
    omega (arith, ints)
within (negsuc k) N V L b some long far = omega (arith, ints)

-- (n . v)^2 <= (n . n) (v . v)
scalar_within : (n v : List ℤ) (N L b : ℕ) → dot n n ≡ pos N → N ≤ L * L → dot v v ≤ℤ pos (b * b) → dot n v ≤ℤ pos (b * L)
scalar_within n v N L b length long far =
    let V = natural (dot v v) (dot_natural v) in
    let some : pos 0 ≤ℤ ((pos N *ℤ pos V.0) -ℤ (dot n v *ℤ dot n v)) =
    subst (λ z. pos 0 ≤ℤ ((z *ℤ pos V.0) -ℤ (dot n v *ℤ dot n v))) length (subst (λ z. pos 0 ≤ℤ ((dot n n *ℤ z) -ℤ (dot n v *ℤ dot n v))) V.1 (spread_natural n v)) in
    let short : V.0 ≤ b * b = let e = V.1 in omega (arith, ints) in
    within (dot n v) N V.0 L b some long short

square_is : (z : ℤ) → z *ℤ z ≡ pos (square_of z)
square_is (pos n) = omega (arith, ints)
square_is (negsuc n) = omega (arith, ints)

abbrev normal_of : Plane → List ℤ
normal_of plane = plane.a ∷ plane.b ∷ plane.c ∷ []

pub sum_is : (x y z : ℤ) → (x *ℤ x +ℤ y *ℤ y) +ℤ z *ℤ z ≡ pos (square_of x + square_of y + square_of z)
sum_is x y z = omega (arith, ints, square_is x, square_is y, square_is z)

abbrev offset_to : List ℤ → List ℤ → List ℤ
offset_to p q = (at q 0 -ℤ at p 0) ∷ (at q 1 -ℤ at p 1) ∷ (at q 2 -ℤ at p 2) ∷ []

-- the left side at q is that at p and the scalar product of the normal with the way from p to q
value_moves : (plane : Plane) (p q : List ℤ) → value_at plane q ≡ value_at plane p +ℤ dot (normal_of plane) (offset_to p q)
value_moves plane p q =
    let N = from 0 in let P = from 3 in let Q = from 6 in
    ring (plane.a ∷ plane.b ∷ plane.c ∷ at p 0 ∷ at p 1 ∷ at p 2 ∷ at q 0 ∷ at q 1 ∷ at q 2 ∷ [])
    (dots N Q) (add (dots N P) (dots N (λ k. sub (Q k) (P k)))) refl

-- for a point that near to one that the plane holds, the left side exceeds the right one by no more than that
pub value_near : (plane : Plane) (p q : List ℤ) (b : ℕ) (d : ℤ) → value_at plane p ≤ℤ d → squared_distance p q ≤ℤ pos (b * b)
    → value_at plane q ≤ℤ (d +ℤ pos (b * normal_length plane))
value_near plane p q b d held near =
    let reaches = ceil_root-reaches (square_of plane.a + square_of plane.b + square_of plane.c) in
    let far = scalar_within (normal_of plane) (offset_to p q) (square_of plane.a + square_of plane.b + square_of plane.c) (normal_length plane) b (sum_is plane.a plane.b plane.c) reaches near in
    let moved = value_moves plane p q in
    omega (arith, ints)
