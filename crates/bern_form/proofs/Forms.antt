-- What the coefficient lists of products, lifts, sums and differences stand for.
use Rattle.std.proofs.Common.{◌≡◌, ◌+◌, [], ◌∷◌, List, ℤ, pos, ◌+ℤ◌, ◌*ℤ◌, ◌-ℤ◌, refl, ap, ◌∙◌}
use Rattle.space.specs.Vectors.{at}
use Rattle.bern_form.specs.Forms.{value1, value2, value4, product11, product22, lifted, sum2, scaled2, scaled4, difference4}
use Rattle.space.proofs.Solver.{var, num, add, mul, ring}
use Rattle.space.proofs.Terms.{sub, from}
use Rattle.bern_form.proofs.FormTerms.{form1, form2, form4}

pub product11_is : (a b : List ℤ) (x y : ℤ) → value2 (product11 a b) x y ≡ value1 a x y *ℤ value1 b x y
product11_is a b x y =
    let X = var 4 in let Y = var 5 in let A = from 0 in let B = from 2 in
    ring (at a 0 ∷ at a 1 ∷ at b 0 ∷ at b 1 ∷ x ∷ y ∷ [])
    (add (add (mul (mul (A 0) (B 0)) (mul Y Y)) (mul (add (mul (A 0) (B 1)) (mul (A 1) (B 0))) (mul X Y))) (mul (mul (A 1) (B 1)) (mul X X)))
    (mul (form1 A X Y) (form1 B X Y)) refl

pub product22_is : (a b : List ℤ) (x y : ℤ) → value4 (product22 a b) x y ≡ value2 a x y *ℤ value2 b x y
product22_is a b x y =
    let X = var 6 in let Y = var 7 in let A = from 0 in let B = from 3 in
    ring (at a 0 ∷ at a 1 ∷ at a 2 ∷ at b 0 ∷ at b 1 ∷ at b 2 ∷ x ∷ y ∷ [])
    (add (add (add (add
    (mul (mul (A 0) (B 0)) (mul (mul Y Y) (mul Y Y)))
    (mul (add (mul (A 0) (B 1)) (mul (A 1) (B 0))) (mul (mul X Y) (mul Y Y))))
    (mul (add (add (mul (A 0) (B 2)) (mul (A 1) (B 1))) (mul (A 2) (B 0))) (mul (mul X X) (mul Y Y))))
    (mul (add (mul (A 1) (B 2)) (mul (A 2) (B 1))) (mul (mul X X) (mul X Y))))
    (mul (mul (A 2) (B 2)) (mul (mul X X) (mul X X))))
    (mul (form2 A X Y) (form2 B X Y)) refl

square_of_sum : (x y : ℤ) → value2 (pos 1 ∷ pos 2 ∷ pos 1 ∷ []) x y ≡ (x +ℤ y) *ℤ (x +ℤ y)
square_of_sum x y =
    let X = var 0 in let Y = var 1 in
    ring (x ∷ y ∷ []) (add (add (mul (num (pos 1)) (mul Y Y)) (mul (num (pos 2)) (mul X Y))) (mul (num (pos 1)) (mul X X))) (mul (add X Y) (add X Y)) refl

pub lifted_is : (a : List ℤ) (x y : ℤ) → value4 (lifted a) x y ≡ value2 a x y *ℤ ((x +ℤ y) *ℤ (x +ℤ y))
lifted_is a x y = product22_is a (pos 1 ∷ pos 2 ∷ pos 1 ∷ []) x y ∙ ap (λ z. value2 a x y *ℤ z) (square_of_sum x y)

pub sum2_is : (a b : List ℤ) (x y : ℤ) → value2 (sum2 a b) x y ≡ value2 a x y +ℤ value2 b x y
sum2_is a b x y =
    let X = var 6 in let Y = var 7 in
    ring (at a 0 ∷ at a 1 ∷ at a 2 ∷ at b 0 ∷ at b 1 ∷ at b 2 ∷ x ∷ y ∷ [])
    (form2 (λ k. add (var k) (var (3 + k))) X Y) (add (form2 (from 0) X Y) (form2 (from 3) X Y)) refl

pub scaled2_is : (s : ℤ) (a : List ℤ) (x y : ℤ) → value2 (scaled2 s a) x y ≡ s *ℤ value2 a x y
scaled2_is s a x y =
    let X = var 3 in let Y = var 4 in let S = var 5 in
    ring (at a 0 ∷ at a 1 ∷ at a 2 ∷ x ∷ y ∷ s ∷ []) (form2 (λ k. mul S (var k)) X Y) (mul S (form2 (from 0) X Y)) refl

pub scaled4_is : (s : ℤ) (a : List ℤ) (x y : ℤ) → value4 (scaled4 s a) x y ≡ s *ℤ value4 a x y
scaled4_is s a x y =
    let X = var 5 in let Y = var 6 in let S = var 7 in
    ring (at a 0 ∷ at a 1 ∷ at a 2 ∷ at a 3 ∷ at a 4 ∷ x ∷ y ∷ s ∷ []) (form4 (λ k. mul S (var k)) X Y) (mul S (form4 (from 0) X Y)) refl

pub difference4_is : (a b : List ℤ) (x y : ℤ) → value4 (difference4 a b) x y ≡ value4 a x y -ℤ value4 b x y
difference4_is a b x y =
    let X = var 10 in let Y = var 11 in
    ring (at a 0 ∷ at a 1 ∷ at a 2 ∷ at a 3 ∷ at a 4 ∷ at b 0 ∷ at b 1 ∷ at b 2 ∷ at b 3 ∷ at b 4 ∷ x ∷ y ∷ [])
    (form4 (λ k. sub (var k) (var (5 + k))) X Y) (sub (form4 (from 0) X Y) (form4 (from 5) X Y)) refl
