-- The spare of an interval: how much a moment can change, with twice how far its way is bent. Its parts are lengths, as words.
use Rattle.std.proofs.Common.{◌≡◌, false, ◌≤◌, ◌<◌, ◌*◌, ◌^◌, ◌≤ℤ◌, ◌+◌, ◌+ℤ◌, ◌*ℤ◌, List, ℤ, pos, to_z, of_z, unsigned_abs, arith, ap, subst, ◌∙◌}
use Rattle.std.specs.Int.Signed.{lt_z}
use Rattle.std.proofs.lemmas.Int.{ints}
use lib.Signed.{mag}
use mir.Syntax.{w128}
use Rattle.space.specs.Vectors.{cross, dot, sum}
use Rattle.sweep_boxes.specs.Intervals.{IsNearer}
use Rattle.sweep_boxes.specs.declared.sweep_interval.SweepInterval.{SweepInterval}
use Rattle.space.proofs.Words.{kept_some, read_out, two_read}
use Rattle.sweep_boxes.proofs.Words.{small_up_to, summand, twice}

pub bent_parts : (bent : ℤ) → mag bent < 2 ^ 127 → unsigned_abs bent ≤ 10 ^ 18
    → record { a : unsigned_abs (to_z w128 (of_z w128 bent)) ≤ 10 ^ 37; b : unsigned_abs (to_z w128 (of_z w128 bent)) ≤ 10 ^ 37 }
bent_parts bent fits small = let part = summand bent fits small in record { a = part; b = part }

pub spare_parts : (change two bent : ℤ) → mag change < 2 ^ 127 → mag two < 2 ^ 127 → mag bent < 2 ^ 127
    → unsigned_abs change ≤ 10 ^ 18 → unsigned_abs bent ≤ 10 ^ 18
    → unsigned_abs two ≤ unsigned_abs (to_z w128 (of_z w128 bent)) + unsigned_abs (to_z w128 (of_z w128 bent))
    → record { a : unsigned_abs (to_z w128 (of_z w128 change)) ≤ 10 ^ 37; b : unsigned_abs (to_z w128 (of_z w128 two)) ≤ 10 ^ 37 }
spare_parts change two bent f g h small few sum = record { a = summand change f small; b = twice two bent g h sum few }

pub spare_is : (change bent two spare : ℤ) → mag change < 2 ^ 127 → mag bent < 2 ^ 127 → mag two < 2 ^ 127
    → two ≡ to_z w128 (of_z w128 bent) +ℤ to_z w128 (of_z w128 bent) → spare ≡ to_z w128 (of_z w128 change) +ℤ to_z w128 (of_z w128 two)
    → spare ≡ change +ℤ (bent +ℤ bent)
spare_is change bent two spare f g h two_is is =
    is ∙ two_read change two f h ∙ ap (λ (z : ℤ). change +ℤ z) (two_is ∙ two_read bent bent g g)

-- a spare that is not too great
sum_some : (spare change bent : ℤ) → spare ≡ change +ℤ (bent +ℤ bent) → pos 0 ≤ℤ change → pos 0 ≤ℤ bent → pos 0 ≤ℤ spare
sum_some spare change bent is h k = omega (arith, ints, is, h, k)

pub spare_few : (spare change bent : ℤ) → mag spare < 2 ^ 127 → spare ≡ change +ℤ (bent +ℤ bent) → pos 0 ≤ℤ change → pos 0 ≤ℤ bent
    → lt_z (pos (5 * 10 ^ 16)) (to_z w128 (of_z w128 spare)) ≡ false → unsigned_abs (to_z w128 (of_z w128 spare)) ≤ 5 * 10 ^ 16
spare_few spare change bent fits is h k few =
    small_up_to (to_z w128 (of_z w128 spare)) (5 * 10 ^ 16) (kept_some spare fits (sum_some spare change bent is h k)) few

-- a third of its square
pub spare_thirds : (spare whole third : ℤ) → mag spare < 2 ^ 127 → spare ≡ whole
    → (to_z w128 (of_z w128 spare) *ℤ to_z w128 (of_z w128 spare)) ≤ℤ (pos 3 *ℤ third) → (whole *ℤ whole) ≤ℤ (pos 3 *ℤ third)
spare_thirds spare whole third fits is h =
    subst (λ (z : ℤ). (z *ℤ z) ≤ℤ (pos 3 *ℤ third)) is (read_out (λ (z : ℤ). (z *ℤ z) ≤ℤ (pos 3 *ℤ third)) spare fits h)

-- what the change and the bent way bound
pub changes_of : (interval : SweepInterval) (far drift sizes : List ℤ) (change : ℤ) → drift ≡ cross interval.offset_change interval.axis
    → IsNearer interval.axis_change sizes
    → ((v e : List ℤ) → IsNearer v far → IsNearer e sizes → dot (sum drift (cross v e)) (sum drift (cross v e)) ≤ℤ (change *ℤ change))
    → (v : List ℤ) → IsNearer v far
    → dot (sum (cross interval.offset_change interval.axis) (cross v interval.axis_change)) (sum (cross interval.offset_change interval.axis) (cross v interval.axis_change))
    ≤ℤ (change *ℤ change)
changes_of interval far drift sizes change is turned below v near =
    subst (λ (d : List ℤ). dot (sum d (cross v interval.axis_change)) (sum d (cross v interval.axis_change)) ≤ℤ (change *ℤ change)) is
    (below v interval.axis_change near turned)

pub bends_of : (interval : SweepInterval) (bend : List ℤ) (bent : ℤ) → bend ≡ cross interval.offset_change interval.axis_change → dot bend bend ≤ℤ (bent *ℤ bent)
    → dot (cross interval.offset_change interval.axis_change) (cross interval.offset_change interval.axis_change) ≤ℤ (bent *ℤ bent)
bends_of interval bend bent is below = subst (λ (d : List ℤ). dot d d ≤ℤ (bent *ℤ bent)) is below
