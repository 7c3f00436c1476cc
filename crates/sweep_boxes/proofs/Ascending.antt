-- The slabs of a stack in front of a place are no wider than the last of them, and the others begin no lower than the first.
use Rattle.std.proofs.Common.{◌≡◌, ℕ, zero, suc, ◌-◌, ◌≤◌, ◌<◌, List, [], ◌∷◌, length, get_or, pos, ◌≤ℤ◌, inl, inr, ⊎_elim, arith, sym, subst}
use Rattle.std.proofs.lemmas.Int.{ints}
use Rattle.std.proofs.lemmas.Bool.{cases_lt}
use Rattle.bern_form.specs.Slab.{SlabSize}
use Rattle.cutter_slabs.specs.Rising.{IsRising}
use Rattle.sweep_boxes.specs.BandTerms.{IsStepAt}
use Rattle.sweep_boxes.specs.Intervals.{AreFrom}

-- a slab begins no lower than another, and is no narrower
record IsInOrder (upper lower : SlabSize) : Type 0 where
  pub thick : pos 0 ≤ℤ lower.dia
  pub low : lower.lo ≤ℤ upper.lo
  pub wider : lower.dia ≤ℤ upper.dia

above_first : (s : SlabSize) (rest : List SlabSize) (d : SlabSize) (j : ℕ) → IsRising (s ∷ rest) → j < length (s ∷ rest) → IsInOrder (get_or (s ∷ rest) j d) s
above_first s rest d zero rises l = record { thick = rises.0.thick; low = omega (arith, ints); wider = omega (arith, ints) }
above_first s [] d (suc j) rises l = absurd (omega (arith, l))
above_first s (t ∷ rest) d (suc j) rises l =
    let later = above_first t rest d j rises.1.1 (omega (arith, l)) in let lies = rises.1.0 in
    let low = later.low in let wider = later.wider in let higher = lies.higher in let wide = lies.wider in
    record { thick = rises.0.thick; low = omega (arith, ints, higher, low); wider = omega (arith, ints, wide, wider) }

in_order : (slabs : List SlabSize) (d e : SlabSize) (i j : ℕ) → IsRising slabs → i ≤ j → j < length slabs → IsInOrder (get_or slabs j d) (get_or slabs i e)
in_order [] d e i j rises h l = absurd (omega (arith, l))
in_order (s ∷ rest) d e zero j rises h l = above_first s rest d j rises l
in_order (s ∷ rest) d e (suc i) zero rises h l = absurd (omega (arith, h))
in_order (s ∷ rest) d e (suc i) (suc j) rises h l = in_order rest d e i j (later s rest rises) (omega (arith, h)) (omega (arith, l)) where
  later : (s : SlabSize) (rest : List SlabSize) → IsRising (s ∷ rest) → IsRising rest
  later s rest rises = rises.1.1

-- the slabs begin no lower than the first
pub from_first : (slabs : List SlabSize) (first : SlabSize) → IsRising slabs → 0 < length slabs → first ≡ get_or slabs 0 first → AreFrom first.lo slabs
from_first slabs first rises some is s among =
    let order : IsInOrder s first = subst (λ (x : SlabSize). IsInOrder s x) (sym is) (subst (λ (x : SlabSize). IsInOrder x (get_or slabs 0 first)) among.2
    (in_order slabs s first 0 among.0 rises (omega arith) among.1)) in
    order.low

pub step_of : (slabs : List SlabSize) (k : ℕ) (upper lower : SlabSize) → IsRising slabs → 0 < k → k < length slabs → upper ≡ get_or slabs k upper → lower ≡ get_or slabs (k - 1) lower
    → IsStepAt upper.lo lower.dia slabs
step_of slabs k upper lower rises after within upper_is lower_is s among =
    let i = among.0 in
    ⊎_elim
    (λ (less : i < k).
    let order : IsInOrder lower s = subst (λ (x : SlabSize). IsInOrder x s) (sym lower_is) (subst (λ (x : SlabSize). IsInOrder (get_or slabs (k - 1) lower) x) among.2
    (in_order slabs lower s i (k - 1) rises (omega (arith, less)) (omega (arith, within)))) in
    inr (order.thick, order.wider))
    (λ most.
    let order : IsInOrder s upper = subst (λ (x : SlabSize). IsInOrder s x) (sym upper_is) (subst (λ (x : SlabSize). IsInOrder x (get_or slabs k upper)) among.2
    (in_order slabs s upper k i rises most among.1)) in
    inl order.low)
    (cases_lt i k)
