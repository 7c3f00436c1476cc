-- A slab that the cell rule excludes holds the point at no rational time of the cell, ends included.
use Rattle.std.proofs.Common.{◌≡◌, true, false, ℕ, zero, suc, ◌+◌, ◌*◌, ◌-◌, ◌≤◌, ◌<◌, List, ℤ, pos, negsuc, ◌*ℤ◌, ◌-ℤ◌, ◌<ℤ◌, ◌≤ℤ◌, arith, subst, ⊎_elim}
use Rattle.std.proofs.lemmas.Int.{ints}
use Rattle.std.proofs.lemmas.Bool.{cases_lt}
use Rattle.std.proofs.lemmas.Bool.Decides.{not_from_Decides}
use Rattle.std.proofs.Math.Nat.{mul-le-mul_left}
use Rattle.bern_form.specs.Forms.{value2, value4}
use Rattle.space.specs.Sweeps.{SweepOf, IsTime, offset_at, axis_at}
use Rattle.space.specs.Vectors.{dot, spread}
use Rattle.bern_form.specs.Slab.{SlabSize, holds_at}
use Rattle.bern_form.specs.Cells.{IsInCell, is_excluded, u_list, along_list, across_list}
use Rattle.bern_form.specs.Marks.{NeverHeld, is_unexcluded_on_cell}
use Rattle.bern_form.proofs.Relations.{AllExcluded, Excluded, HoldsAt}
use Rattle.bern_form.proofs.Decided.{decides_covers, decides_excluded, decides_left, excluded_unless_left, never_held, says_no}
use Rattle.bern_form.proofs.Places.{late, early, u_place, along_place, across_place}
use Rattle.bern_form.proofs.Signs.{negative2, negative4, positive4}

-- the weights of a time in the cell are natural numbers
late_is : (S k a b x : ℕ) → k * b + x ≡ a * S → late S k a b ≡ pos x
late_is S k a b x e = omega (arith, ints)

early_is : (S k a b y : ℕ) → a * S + y ≡ (k + 1) * b → early S k a b ≡ pos y
early_is S k a b y e = omega (arith, ints)

-- a number whose product with a natural one is above 0, or below 0, is so itself
positive_part : (s : ℕ) (z : ℤ) → pos 0 <ℤ (pos s *ℤ z) → pos 0 <ℤ z
positive_part s (pos zero) h = absurd (omega (arith, ints))
positive_part s (pos (suc n)) h = omega (arith, ints)
positive_part s (negsuc n) h = absurd (omega (arith, ints))

negative_part : (s : ℕ) (z : ℤ) → (pos s *ℤ z) <ℤ pos 0 → z <ℤ pos 0
negative_part s (pos n) h = absurd (omega (arith, ints))
negative_part s (negsuc n) h = omega (arith, ints)

apart_above : (u v : ℤ) → pos 0 <ℤ (u -ℤ v) → u ≤ℤ v → ⊥
apart_above u v h k = omega (arith, ints)

apart_below : (u v : ℤ) → (u -ℤ v) <ℤ pos 0 → v ≤ℤ u → ⊥
apart_below u v h k = omega (arith, ints)

below_zero : (u : ℤ) → u <ℤ pos 0 → pos 0 ≤ℤ u → ⊥
below_zero u h k = omega (arith, ints)

pub excluded_not_held : (s : SlabSize) (m : SweepOf) (p : List ℤ) (k S a b : ℕ) → IsInCell k S a b → Excluded s m p k S → HoldsAt s m p a b → ⊥
excluded_not_held s m p k S a b time out held =
    let after = time.after in let before = time.before in let some = time.denominator in
    let x = a * S - k * b in let y = (k + 1) * b - a * S in
    let X = late S k a b in let Y = early S k a b in
    let ex : X ≡ pos x = late_is S k a b x (omega arith) in
    let ey : Y ≡ pos y = early_is S k a b y (omega arith) in
    let both : 0 < x + y = omega arith in
    let P = offset_at m p (pos a) (pos b) in let A = axis_at m (pos a) (pos b) in
    let u = dot P A in let n = dot A A in let w = spread P A in
    let s2 : ℤ = pos S *ℤ pos S in
    let at2 = λ (c : List ℤ) (z : ℤ) (e : value2 c X Y ≡ z). subst (λ v. value2 c (pos x) v ≡ z) ey (subst (λ v. value2 c v Y ≡ z) ex e) in
    let at4 = λ (c : List ℤ) (z : ℤ) (e : value4 c X Y ≡ z). subst (λ v. value4 c (pos x) v ≡ z) ey (subst (λ v. value4 c v Y ≡ z) ex e) in
    let low : ℤ = u *ℤ u -ℤ ((pos b *ℤ s.lo) *ℤ (pos b *ℤ s.lo)) *ℤ n in
    let high : ℤ = u *ℤ u -ℤ ((pos b *ℤ s.hi) *ℤ (pos b *ℤ s.hi)) *ℤ n in
    let side : ℤ = pos 4 *ℤ w -ℤ ((pos b *ℤ s.dia) *ℤ (pos b *ℤ s.dia)) *ℤ n in
    ⊎_elim
    (λ c. below_zero u (negative_part (S * S) u (subst (λ v. v <ℤ pos 0) (at2 (u_list m p k S) (s2 *ℤ u) (u_place m p k S a b)) (negative2 (u_list m p k S) x y (omega arith) c both))) held.forward)
    (λ c. ⊎_elim
    (λ c. apart_below (u *ℤ u) (((pos b *ℤ s.lo) *ℤ (pos b *ℤ s.lo)) *ℤ n)
    (negative_part (S * S * (S * S)) low (subst (λ v. v <ℤ pos 0) (at4 (along_list m p k S s.lo) ((s2 *ℤ s2) *ℤ low) (along_place m p k S a b s.lo)) (negative4 (along_list m p k S s.lo) x y (omega arith) c both))) held.above)
    (λ c. ⊎_elim
    (λ c. apart_above (u *ℤ u) (((pos b *ℤ s.hi) *ℤ (pos b *ℤ s.hi)) *ℤ n)
    (positive_part (S * S * (S * S)) high (subst (λ v. pos 0 <ℤ v) (at4 (along_list m p k S s.hi) ((s2 *ℤ s2) *ℤ high) (along_place m p k S a b s.hi)) (positive4 (along_list m p k S s.hi) x y (omega arith) c both))) held.below)
    (λ c. apart_above (pos 4 *ℤ w) (((pos b *ℤ s.dia) *ℤ (pos b *ℤ s.dia)) *ℤ n)
    (positive_part (S * S * (S * S)) side (subst (λ v. pos 0 <ℤ v) (at4 (across_list m p k S s.dia) ((s2 *ℤ s2) *ℤ side) (across_place m p k S a b s.dia)) (positive4 (across_list m p k S s.dia) x y (omega arith) c both))) held.near)
    c)
    c)
    out

-- the same by the tests
pub excluded_holds_not : (s : SlabSize) (m : SweepOf) (p : List ℤ) (k S a b : ℕ) → is_excluded s m p k S ≡ true → IsInCell k S a b → holds_at s m p a b ≡ false
excluded_holds_not s m p k S a b out time =
    let P = offset_at m p (pos a) (pos b) in let A = axis_at m (pos a) (pos b) in
    says_no (HoldsAt s m p a b) (holds_at s m p a b) (decides_covers s (pos b) (dot P A) (dot A A) (spread P A)) (excluded_not_held s m p k S a b time ((decides_excluded s m p k S).0 out))

-- each time lies in some cell
cell_from : (a b S : ℕ) → 0 < b → (j : ℕ) → a * S ≤ j * b → 0 < j → (k : ℕ) × (k < j) × IsInCell k S a b
cell_from a b S g zero h l = absurd (omega arith)
cell_from a b S g (suc zero) h l = (0, omega arith, record { denominator = g; after = omega arith; before = omega arith })
cell_from a b S g (suc (suc j)) h l =
    ⊎_elim
    (λ g'. let f = cell_from a b S g (suc j) (omega arith) (omega arith) in (f.0, let q = f.1 in omega arith, f.2))
    (λ g'. (suc j, omega arith, record { denominator = g; after = g'; before = omega arith }))
    (cases_lt (a * S) (suc j * b))

pub cell_of : (a b S : ℕ) → IsTime a b → 0 < S → (k : ℕ) × (k < S) × IsInCell k S a b
cell_of a b S time l = cell_from a b S time.0 S (let t = mul-le-mul_left S time.1 in omega arith) l

-- slabs that are excluded on every cell hold the point at no rational time
pub excluded_never_held : (slabs : List SlabSize) (m : SweepOf) (p : List ℤ) (S : ℕ) → 0 < S → AllExcluded slabs m p S → NeverHeld slabs m p
excluded_never_held slabs m p S l out = never_held slabs m p (λ a b time held.
    let k = cell_of a b S time l in
    excluded_not_held held.slab m p k.0 S a b k.2 (out held.slab k.0 held.among k.1) held.holds)

-- the same by the test: slabs that are left on no cell
pub left_nowhere : (slabs : List SlabSize) (m : SweepOf) (p : List ℤ) (S : ℕ) → 0 < S → is_unexcluded_on_cell slabs m p S ≡ false → NeverHeld slabs m p
left_nowhere slabs m p S l none =
    excluded_never_held slabs m p S l (excluded_unless_left slabs m p S (not_from_Decides (is_unexcluded_on_cell slabs m p S) (decides_left slabs m p S) none))
