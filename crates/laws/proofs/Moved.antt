-- Bodies whose planes are moved by an amount hold, or held, what is no further than that from their points.
use Rattle.std.proofs.Common.{◌≡◌, ℕ, suc, zero, ◌*◌, List, [], ◌∷◌, map, ℤ, pos, negsuc, ◌+ℤ◌, ◌*ℤ◌, ◌≤ℤ◌, Bool, true, false, ◌||◌, int_le, IsTrue, arith, refl, sym, subst}
use Rattle.std.proofs.lemmas.Bool.{and_from, and_parts, false≢true}
use Rattle.std.proofs.lemmas.Int.{ints}
use Rattle.std.specs.List.{list_all, list_any}
use Rattle.ray_shapes.specs.Planes.{in_bodies, in_body, plane_holds, value_at}
use Rattle.ray_shapes.specs.declared.plane.Plane.{Plane}
use Rattle.setup_file.specs.Shift.{normal_length, shifted_of, shifted_plane}
use Rattle.laws.specs.Clearance.{squared_distance}
use Rattle.laws.proofs.Lengths.{value_near}

pub test_of : (x y : ℤ) → x ≤ℤ y → IsTrue (int_le x y)
test_of x y h = grind (arith, ints)

pub of_test : (x y : ℤ) → IsTrue (int_le x y) → x ≤ℤ y
of_test x y t = grind (arith, ints)

-- where a test of an item gives another of what the item is mapped to, all passing the one gives all passing the other
all_mapped : {A B : Type 0} (f : A → B) (test : A → Bool) (other : B → Bool) → ((x : A) → IsTrue (test x) → IsTrue (other (f x)))
    → (xs : List A) → IsTrue (list_all test xs) → IsTrue (list_all other (map f xs))
all_mapped f test other each [] all = refl
all_mapped f test other each (x ∷ xs) all =
    let parts = and_parts (test x) (list_all test xs) all in
    and_from (other (f x)) (list_all other (map f xs)) (each x parts.0) (all_mapped f test other each xs parts.1)

-- and back: where the second test gives the first
all_unmapped : {A B : Type 0} (f : A → B) (test : A → Bool) (other : B → Bool) → ((x : A) → IsTrue (other (f x)) → IsTrue (test x))
    → (xs : List A) → IsTrue (list_all other (map f xs)) → IsTrue (list_all test xs)
all_unmapped f test other each [] all = refl
all_unmapped f test other each (x ∷ xs) all =
    let parts = and_parts (other (f x)) (list_all other (map f xs)) all in
    and_from (test x) (list_all test xs) (each x parts.0) (all_unmapped f test other each xs parts.1)

-- one of two tests passes where one of two others does
either : (a b c d : Bool) → (IsTrue a → IsTrue c) → (IsTrue b → IsTrue d) → IsTrue (a || b) → IsTrue (c || d)
either true b true d f g h = refl
either true b false d f g h = absurd (false≢true (f refl))
either false b true d f g h = refl
either false b false d f g h = g h

any_mapped : {A B : Type 0} (f : A → B) (test : A → Bool) (other : B → Bool) → ((x : A) → IsTrue (test x) → IsTrue (other (f x)))
    → (xs : List A) → IsTrue (list_any test xs) → IsTrue (list_any other (map f xs))
any_mapped f test other each [] any = any
any_mapped f test other each (x ∷ xs) any = either (test x) (list_any test xs) (other (f x)) (list_any other (map f xs)) (each x) (any_mapped f test other each xs) any

any_unmapped : {A B : Type 0} (f : A → B) (test : A → Bool) (other : B → Bool) → ((x : A) → IsTrue (other (f x)) → IsTrue (test x))
    → (xs : List A) → IsTrue (list_any other (map f xs)) → IsTrue (list_any test xs)
any_unmapped f test other each [] any = any
any_unmapped f test other each (x ∷ xs) any = either (other (f x)) (list_any other (map f xs)) (test x) (list_any test xs) (each x) (any_unmapped f test other each xs) any

grown_right : (d v : ℤ) (b L : ℕ) → v ≤ℤ (d +ℤ pos (b * L)) → v ≤ℤ (d +ℤ (pos b *ℤ pos L))
grown_right d v b L h = omega (arith, ints)

grown_plane : (b : ℕ) (p q : List ℤ) → squared_distance p q ≤ℤ (pos b *ℤ pos b) → (plane : Plane) → IsTrue (plane_holds plane p) → IsTrue (plane_holds (shifted_plane (pos b) plane) q)
grown_plane b p q near plane holds =
    let close : squared_distance p q ≤ℤ pos (b * b) = omega (arith, ints, near) in
    let most = value_near plane p q b plane.d (of_test (value_at plane p) plane.d holds) close in
    test_of (value_at plane q) (plane.d +ℤ (pos b *ℤ pos (normal_length plane))) (grown_right plane.d (value_at plane q) b (normal_length plane) most)

pub grown : (by : ℤ) (bodies : List (List Plane)) (p q : List ℤ) → pos 0 ≤ℤ by
    → IsTrue (in_bodies bodies p) → squared_distance p q ≤ℤ (by *ℤ by) → IsTrue (in_bodies (shifted_of by bodies) q)
grown (pos b) bodies p q some holds near =
    any_mapped (map (shifted_plane (pos b))) (λ body. in_body body p) (λ body. in_body body q)
    (all_mapped (shifted_plane (pos b)) (λ plane. plane_holds plane p) (λ plane. plane_holds plane q) (grown_plane b p q near)) bodies holds
grown (negsuc b) bodies p q some holds near = absurd (omega (arith, ints))

-- an amount that is not above 0 is as far below it as some natural number is above it
shrunk_right : (by d v : ℤ) (b L : ℕ) → by +ℤ pos b ≡ pos 0 → v ≤ℤ ((d +ℤ (by *ℤ pos L)) +ℤ pos (b * L)) → v ≤ℤ d
shrunk_right (pos zero) d v b L e h = let f : b ≡ 0 = omega (arith, ints) in let g : b * L ≡ 0 = subst (λ k. k * L ≡ 0) (sym f) (omega arith) in omega (arith, ints)
shrunk_right (pos (suc n)) d v b L e h = absurd (omega (arith, ints))
shrunk_right (negsuc n) d v b L e h = let f : b ≡ suc n = omega (arith, ints) in let g : b * L ≡ suc n * L = subst (λ k. k * L ≡ suc n * L) (sym f) refl in omega (arith, ints)

below : (by : ℤ) → by ≤ℤ pos 0 → (b : ℕ) × (by +ℤ pos b ≡ pos 0) × (by *ℤ by ≡ pos (b * b))
below (pos zero) h = (0, refl, refl)
below (pos (suc n)) h = absurd (omega (arith, ints))
below (negsuc n) h = (suc n, omega (arith, ints), omega (arith, ints))

shrunk_plane : (by : ℤ) (b : ℕ) (p q : List ℤ) → by +ℤ pos b ≡ pos 0 → squared_distance p q ≤ℤ pos (b * b)
    → (plane : Plane) → IsTrue (plane_holds (shifted_plane by plane) p) → IsTrue (plane_holds plane q)
shrunk_plane by b p q amount near plane holds =
    let right = plane.d +ℤ (by *ℤ pos (normal_length plane)) in
    let most = value_near plane p q b right (of_test (value_at plane p) right holds) near in
    test_of (value_at plane q) plane.d (shrunk_right by plane.d (value_at plane q) b (normal_length plane) amount most)

pub shrunk : (by : ℤ) (bodies : List (List Plane)) (p q : List ℤ) → by ≤ℤ pos 0
    → IsTrue (in_bodies (shifted_of by bodies) p) → squared_distance p q ≤ℤ (by *ℤ by) → IsTrue (in_bodies bodies q)
shrunk by bodies p q none holds near =
    let amount = below by none in
    let close = subst (λ z. squared_distance p q ≤ℤ z) amount.2 near in
    any_unmapped (map (shifted_plane by)) (λ body. in_body body q) (λ body. in_body body p)
    (all_unmapped (shifted_plane by) (λ plane. plane_holds plane q) (λ plane. plane_holds plane p) (shrunk_plane by amount.0 p q amount.1 close)) bodies holds
