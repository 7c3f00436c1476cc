-- What is no less than the squares of a form's coefficients, and no more than n's.
use Rattle.std.proofs.Common.{◌≡◌, true, ℕ, suc, ◌*◌, ◌≤◌, List, [], ◌∷◌, ℤ, pos, negsuc, ◌+ℤ◌, ◌*ℤ◌, ◌<ℤ◌, ◌≤ℤ◌, unsigned_abs, arith, subst, sym}
use Rattle.std.proofs.lemmas.Int.{ints}
use Rattle.std.proofs.Math.Nat.{mul-le-mul}
use Rattle.space.specs.Vectors.{at}
use Rattle.bern_form.specs.Forms.{all_positive, lifted}
use Rattle.bern_form.proofs.Decided.{decides_positive}
use Rattle.bern_form.proofs.HalfSigns.{all_five}
use Rattle.wanted_marks.specs.Peaks.{IsLeast, IsPeak}

at_most_of : (a b c : ℤ) → a ≤ℤ b → b ≤ℤ c → a ≤ℤ c
at_most_of a b c h k = omega (arith, ints, h, k)

square_within : (z : ℤ) (g : ℕ) → unsigned_abs z ≤ g → (z *ℤ z) ≤ℤ pos (g * g)
square_within (pos n) g h = let less : n * n ≤ g * g = mul-le-mul h h in omega (arith, ints, less)
square_within (negsuc n) g h = let less : suc n * suc n ≤ g * g = mul-le-mul h h in omega (arith, ints, less)

twice_within : (z : ℤ) (g : ℕ) → 2 * unsigned_abs z ≤ g → unsigned_abs (pos 2 *ℤ z) ≤ g
twice_within (pos n) g h = omega (arith, ints, h)
twice_within (negsuc n) g h = omega (arith, ints, h)

pub peak_by : (u : List ℤ) (g : ℕ) (r : ℤ) → r ≡ pos (g * g) → 2 * unsigned_abs (at u 0) ≤ g → unsigned_abs (at u 1) ≤ g → 2 * unsigned_abs (at u 2) ≤ g → IsPeak r u
peak_by u g r e first middle last = record {
  first = subst (λ z. ((pos 2 *ℤ at u 0) *ℤ (pos 2 *ℤ at u 0)) ≤ℤ z) (sym e) (square_within (pos 2 *ℤ at u 0) g (twice_within (at u 0) g first));
  middle = subst (λ z. (at u 1 *ℤ at u 1) ≤ℤ z) (sym e) (square_within (at u 1) g middle);
  last = subst (λ z. ((pos 2 *ℤ at u 2) *ℤ (pos 2 *ℤ at u 2)) ≤ℤ z) (sym e) (square_within (pos 2 *ℤ at u 2) g (twice_within (at u 2) g last));
}

pub least_by : (n : List ℤ) (m f l g r : ℤ) → m ≡ pos 2 *ℤ at n 1 → f ≡ pos 4 *ℤ at n 0 → l ≡ pos 4 *ℤ at n 2 → g ≤ℤ f → g ≤ℤ l → r ≤ℤ m → r ≤ℤ g → IsLeast r n
least_by n m f l g r em ef el gf gl rm rg = record {
  first = subst (λ z. r ≤ℤ z) ef (at_most_of r g f rg gf);
  middle = subst (λ z. r ≤ℤ z) em rm;
  last = subst (λ z. r ≤ℤ z) el (at_most_of r g l rg gl);
}

pub peak_as : (r a b c x y z : ℤ) → a ≡ x → b ≡ y → c ≡ z → IsPeak r (a ∷ b ∷ c ∷ []) → IsPeak r (x ∷ y ∷ z ∷ [])
peak_as r a b c x y z ea eb ec peak = subst (λ k. IsPeak r (x ∷ y ∷ k ∷ [])) ec (subst (λ k. IsPeak r (x ∷ k ∷ c ∷ [])) eb (subst (λ k. IsPeak r (k ∷ b ∷ c ∷ [])) ea peak))

-- where the least of n's is above 0, so is each coefficient of n raised to degree 4
raised_first : (a : ℤ) → pos 0 <ℤ (pos 4 *ℤ a) → pos 0 <ℤ (a *ℤ pos 1)
raised_first a h = omega (arith, ints, h)

raised_second : (a b : ℤ) → pos 0 <ℤ (pos 4 *ℤ a) → pos 0 <ℤ (pos 2 *ℤ b) → pos 0 <ℤ (a *ℤ pos 2 +ℤ b *ℤ pos 1)
raised_second a b h k = omega (arith, ints, h, k)

raised_middle : (a b c : ℤ) → pos 0 <ℤ (pos 4 *ℤ a) → pos 0 <ℤ (pos 2 *ℤ b) → pos 0 <ℤ (pos 4 *ℤ c) → pos 0 <ℤ ((a *ℤ pos 1 +ℤ b *ℤ pos 2) +ℤ c *ℤ pos 1)
raised_middle a b c h k l = omega (arith, ints, h, k, l)

raised_fourth : (b c : ℤ) → pos 0 <ℤ (pos 2 *ℤ b) → pos 0 <ℤ (pos 4 *ℤ c) → pos 0 <ℤ (b *ℤ pos 1 +ℤ c *ℤ pos 2)
raised_fourth b c h k = omega (arith, ints, h, k)

some_before : (m z : ℤ) → pos 0 <ℤ m → m ≤ℤ z → pos 0 <ℤ z
some_before m z h k = omega (arith, ints, h, k)

pub open_by : (n : List ℤ) (least : ℤ) → IsLeast least n → pos 0 <ℤ least → all_positive (lifted n) ≡ true
open_by n least floor some =
    let a = some_before least (pos 4 *ℤ at n 0) some floor.first in let b = some_before least (pos 2 *ℤ at n 1) some floor.middle in
    let c = some_before least (pos 4 *ℤ at n 2) some floor.last in
    (decides_positive (lifted n)).1
    (all_five (λ z. pos 0 <ℤ z) (at (lifted n) 0) (at (lifted n) 1) (at (lifted n) 2) (at (lifted n) 3) (at (lifted n) 4)
    (raised_first (at n 0) a) (raised_second (at n 0) (at n 1) a b) (raised_middle (at n 0) (at n 1) (at n 2) a b c)
    (raised_fourth (at n 1) (at n 2) b c) (raised_first (at n 2) c))
