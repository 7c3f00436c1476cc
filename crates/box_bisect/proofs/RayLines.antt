-- The points of a ray follow each other at equal distances, so each is a weighted mean of any two that it lies between.
use Rattle.std.proofs.Common.{◌≡◌, false, ℕ, ◌+◌, ◌-◌, ◌*◌, ◌^◌, ◌≤◌, ◌<◌, [], ◌∷◌, List, ℤ, pos, ◌+ℤ◌, ◌*ℤ◌, arith, refl, subst, sym, ⊎_elim, ◌∙◌}
use Rattle.std.proofs.lemmas.Bool.{cases_lt}
use Rattle.space.specs.Sweeps.{SweepOf}
use Rattle.bern_form.specs.Between.{is_unexcluded_between}
use Rattle.bern_form.specs.Slab.{SlabSize}
use Rattle.box_bisect.specs.RayBoxes.{is_undecided}
use Rattle.ray_boxes.proofs.Mixed.{IsAlong}
use Rattle.ray_boxes.proofs.Excluded.{none_left}
use Rattle.ray_boxes.proofs.Lines.{IsLine}

-- the weights of an index between two
weights : (a v w : ℕ) → (w + v) * (a + v) ≡ w * a + v * (a + (v + w))
weights a v w = omega arith

-- where a box is decided no slab is left for its points
decided_apart : (slabs : List SlabSize) (m : SweepOf) (point : ℕ → List ℤ) (S n j a v w : ℕ) → IsLine point → 0 < v + w
    → is_undecided slabs m point S n j a (a + (v + w) + 1) ≡ false → is_unexcluded_between slabs m (point (a + v)) j (j + 2 ^ n) S ≡ false
decided_apart slabs m point S n j a v w line some h =
    let last : (a + (v + w) + 1) - 1 ≡ a + (v + w) = omega arith in
    none_left slabs m (point a) (point ((a + (v + w) + 1) - 1)) (point (a + v)) w v j (j + 2 ^ n) S
    (subst (λ q. IsAlong (point a) (point q) (point (a + v)) w v) (sym last) (line.each a (a + v) (a + (v + w)) w v some (weights a v w))) h

decided_alone : (slabs : List SlabSize) (m : SweepOf) (point : ℕ → List ℤ) (S n j a : ℕ) → IsLine point
    → is_undecided slabs m point S n j a (a + 1) ≡ false → is_unexcluded_between slabs m (point a) j (j + 2 ^ n) S ≡ false
decided_alone slabs m point S n j a line h =
    let last : (a + 1) - 1 ≡ a = omega arith in
    none_left slabs m (point a) (point ((a + 1) - 1)) (point a) 1 0 j (j + 2 ^ n) S
    (subst (λ q. IsAlong (point a) (point q) (point a) 1 0) (sym last) (line.each a a a 1 0 (omega arith) (omega arith))) h

pub decided_at : (slabs : List SlabSize) (m : SweepOf) (point : ℕ → List ℤ) (S n j a b l : ℕ) → IsLine point → a ≤ l → l < b
    → is_undecided slabs m point S n j a b ≡ false → is_unexcluded_between slabs m (point l) j (j + 2 ^ n) S ≡ false
decided_at slabs m point S n j a b l line after before h =
    let v = l - a in let w = (b - 1) - l in
    ⊎_elim
    (λ apart.
    let eb : b ≡ a + (v + w) + 1 = omega arith in let el : a + v ≡ l = omega arith in
    subst (λ i. is_unexcluded_between slabs m (point i) j (j + 2 ^ n) S ≡ false) el
    (decided_apart slabs m point S n j a v w line (omega arith) (subst (λ i. is_undecided slabs m point S n j a i ≡ false) eb h)))
    (λ alone.
    let eb : b ≡ a + 1 = omega arith in let el : a ≡ l = omega arith in
    subst (λ i. is_unexcluded_between slabs m (point i) j (j + 2 ^ n) S ≡ false) el
    (decided_alone slabs m point S n j a line (subst (λ i. is_undecided slabs m point S n j a i ≡ false) eb h)))
    (cases_lt 0 (v + w))
