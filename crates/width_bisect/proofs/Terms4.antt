-- The width and n raised to degree 4 halve as their forms do: sixteen times a coefficient of a half is a sum of the whole's.
use Rattle.std.proofs.Common.{ℕ, zero, suc, [], ◌∷◌, List, ℤ, pos, refl}
use Rattle.space.specs.Vectors.{at}
use Rattle.space.proofs.Solver.{Term, num, add, mul, ring}
use Rattle.space.proofs.Terms.{from, sub}
use Rattle.bern_form.specs.Forms.{lifted}
use Rattle.bern_form.proofs.Halves.{whole_of_first, whole_of_last}
use Rattle.bern_form.proofs.HalfSigns.{IsFirstOf, IsLastOf}
use Rattle.box_bisect.specs.SlabTests.{width_of}

abbrev times : ℕ → Term → Term
times k t = mul (num (pos k)) t

abbrev ones : ℕ → Term
ones zero = num (pos 1)
ones (suc zero) = num (pos 2)
ones (suc (suc k)) = num (pos 1)

abbrev conv : (ℕ → Term) → (ℕ → Term) → ℕ → Term
conv a b zero = mul (a 0) (b 0)
conv a b (suc zero) = add (mul (a 0) (b 1)) (mul (a 1) (b 0))
conv a b (suc (suc zero)) = add (add (mul (a 0) (b 2)) (mul (a 1) (b 1))) (mul (a 2) (b 0))
conv a b (suc (suc (suc zero))) = add (mul (a 1) (b 2)) (mul (a 2) (b 1))
conv a b (suc (suc (suc (suc k)))) = mul (a 2) (b 2)

abbrev width : (ℕ → Term) → (ℕ → Term) → (ℕ → Term) → ℕ → Term
width u n d k = times 4 (sub (conv d n k) (conv u u k))

abbrev of_first : (ℕ → Term) → ℕ → Term
of_first h zero = h 0
of_first h (suc zero) = sub (times 2 (h 1)) (times 2 (h 0))
of_first h (suc (suc k)) = add (sub (h 0) (times 2 (h 1))) (times 4 (h 2))

abbrev of_last : (ℕ → Term) → ℕ → Term
of_last h zero = add (sub (times 4 (h 0)) (times 2 (h 1))) (h 2)
of_last h (suc zero) = sub (times 2 (h 1)) (times 2 (h 2))
of_last h (suc (suc k)) = h 2

abbrev first : (ℕ → Term) → ℕ → Term
first c zero = times 16 (c 0)
first c (suc zero) = add (times 32 (c 0)) (times 8 (c 1))
first c (suc (suc zero)) = add (add (times 24 (c 0)) (times 12 (c 1))) (times 4 (c 2))
first c (suc (suc (suc zero))) = add (add (add (times 8 (c 0)) (times 6 (c 1))) (times 4 (c 2))) (times 2 (c 3))
first c (suc (suc (suc (suc k)))) = add (add (add (add (c 0) (c 1)) (c 2)) (c 3)) (c 4)

abbrev last : (ℕ → Term) → ℕ → Term
last c zero = add (add (add (add (c 0) (c 1)) (c 2)) (c 3)) (c 4)
last c (suc zero) = add (add (add (times 2 (c 1)) (times 4 (c 2))) (times 6 (c 3))) (times 8 (c 4))
last c (suc (suc zero)) = add (add (times 4 (c 2)) (times 12 (c 3))) (times 24 (c 4))
last c (suc (suc (suc zero))) = add (times 8 (c 3)) (times 32 (c 4))
last c (suc (suc (suc (suc k)))) = times 16 (c 4)

abbrev nine : List ℤ → List ℤ → List ℤ → List ℤ
nine u n d = at u 0 ∷ at u 1 ∷ at u 2 ∷ at n 0 ∷ at n 1 ∷ at n 2 ∷ at d 0 ∷ at d 1 ∷ at d 2 ∷ []

pub width_of_first : (u n d : List ℤ) → IsFirstOf (width_of (whole_of_first u) (whole_of_first n) (whole_of_first d)) (width_of u n d)
width_of_first u n d =
    let e = nine u n d in
    let c = width (of_first (from 0)) (of_first (from 3)) (of_first (from 6)) in let x = width (from 0) (from 3) (from 6) in
    record {
      e0 = ring e (times 16 (x 0)) (first c 0) refl;
      e1 = ring e (times 16 (x 1)) (first c 1) refl;
      e2 = ring e (times 16 (x 2)) (first c 2) refl;
      e3 = ring e (times 16 (x 3)) (first c 3) refl;
      e4 = ring e (times 16 (x 4)) (first c 4) refl;
    }

pub width_of_last : (u n d : List ℤ) → IsLastOf (width_of (whole_of_last u) (whole_of_last n) (whole_of_last d)) (width_of u n d)
width_of_last u n d =
    let e = nine u n d in
    let c = width (of_last (from 0)) (of_last (from 3)) (of_last (from 6)) in let x = width (from 0) (from 3) (from 6) in
    record {
      e0 = ring e (times 16 (x 0)) (last c 0) refl;
      e1 = ring e (times 16 (x 1)) (last c 1) refl;
      e2 = ring e (times 16 (x 2)) (last c 2) refl;
      e3 = ring e (times 16 (x 3)) (last c 3) refl;
      e4 = ring e (times 16 (x 4)) (last c 4) refl;
    }

pub raised_of_first : (n : List ℤ) → IsFirstOf (lifted (whole_of_first n)) (lifted n)
raised_of_first n =
    let e = at n 0 ∷ at n 1 ∷ at n 2 ∷ [] in
    let c = conv (of_first (from 0)) ones in let x = conv (from 0) ones in
    record {
      e0 = ring e (times 16 (x 0)) (first c 0) refl;
      e1 = ring e (times 16 (x 1)) (first c 1) refl;
      e2 = ring e (times 16 (x 2)) (first c 2) refl;
      e3 = ring e (times 16 (x 3)) (first c 3) refl;
      e4 = ring e (times 16 (x 4)) (first c 4) refl;
    }

pub raised_of_last : (n : List ℤ) → IsLastOf (lifted (whole_of_last n)) (lifted n)
raised_of_last n =
    let e = at n 0 ∷ at n 1 ∷ at n 2 ∷ [] in
    let c = conv (of_last (from 0)) ones in let x = conv (from 0) ones in
    record {
      e0 = ring e (times 16 (x 0)) (last c 0) refl;
      e1 = ring e (times 16 (x 1)) (last c 1) refl;
      e2 = ring e (times 16 (x 2)) (last c 2) refl;
      e3 = ring e (times 16 (x 3)) (last c 3) refl;
      e4 = ring e (times 16 (x 4)) (last c 4) refl;
    }
