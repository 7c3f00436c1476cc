-- The position and the distance of numbers that come back from their 32 bits, by how many there are.
use Rattle.std.proofs.Common.{◌≡◌, ◌≢◌, ℕ, ◌<◌, ◌≤◌, ℤ, pos, neg_ℤ, unsigned_abs, List, [], ◌∷◌, length, get_or, Ok, Err, None, arith, of_z, refl, subst, sym, to_z, w32}
use Rattle.std.proofs.lemmas.Int.{fits_signed_from_abs, ints, to_z-of_z}
use Rattle.space.specs.Ranges.{IsBetween, IsPoint, IsWithin, axis_unit, metre}
use Rattle.cl_lines.specs.declared.fault.ClWhy.TheVariants.{ParamCount}
use Rattle.cl_records.specs.Kinds.{delta_kinds, longest_distance, position_kinds}
use Rattle.cl_records.specs.Ranges.{AreKinds}
use Rattle.cl_records.specs.Records.{delta_of, position_of, with_axis}
use Rattle.cl_records.specs.declared.statement.Record.TheVariants.{Delta}

inside : (most : ℕ) (z : ℤ) → IsBetween (neg_ℤ (pos most)) (pos most) z → unsigned_abs z ≤ most
inside most z range = omega (arith, ints, range.from_least, range.to_most)

back : (most : ℕ) (z : ℤ) → most ≤ longest_distance → IsBetween (neg_ℤ (pos most)) (pos most) z → to_z w32 (of_z w32 z) ≡ z
back most z few range = to_z-of_z w32 z (fits_signed_from_abs w32 z (omega (arith, few, inside most z range)))

within_back : (most : ℕ) (z : ℤ) → most ≤ longest_distance → IsBetween (neg_ℤ (pos most)) (pos most) z → unsigned_abs (to_z w32 (of_z w32 z)) ≤ most
within_back most z few range = subst (λ n. unsigned_abs n ≤ most) (sym (back most z few range)) (inside most z range)

-- a component of three, as its bits give it
abbrev pub part : List ℤ → ℕ → ℤ
part values k = to_z w32 (of_z w32 (get_or values k (pos 0)))

pub three_are : (values : List ℤ) → 3 ≤ length values → length values < 4 → AreKinds position_kinds values
    → Ok (record { tip = part values 0 ∷ part values 1 ∷ part values 2 ∷ []; axis = None }) ≡ position_of values
three_are [] least under kinds = absurd (omega arith)
three_are (x ∷ []) least under kinds = absurd (omega arith)
three_are (x ∷ y ∷ []) least under kinds = absurd (omega arith)
three_are (x ∷ y ∷ z ∷ []) least under kinds =
    rw (back metre x (omega arith) kinds.0, back metre y (omega arith) kinds.1.0, back metre z (omega arith) kinds.1.1.0) refl
three_are (x ∷ y ∷ z ∷ more ∷ values) least under kinds = absurd (omega arith)

pub six_are : (values : List ℤ) → 6 ≤ length values → length values < 7 → AreKinds position_kinds values
    → with_axis (part values 0 ∷ part values 1 ∷ part values 2 ∷ []) (part values 3 ∷ part values 4 ∷ part values 5 ∷ []) ≡ position_of values
six_are [] least under kinds = absurd (omega arith)
six_are (x ∷ []) least under kinds = absurd (omega arith)
six_are (x ∷ y ∷ []) least under kinds = absurd (omega arith)
six_are (x ∷ y ∷ z ∷ []) least under kinds = absurd (omega arith)
six_are (x ∷ y ∷ z ∷ i ∷ []) least under kinds = absurd (omega arith)
six_are (x ∷ y ∷ z ∷ i ∷ j ∷ []) least under kinds = absurd (omega arith)
six_are (x ∷ y ∷ z ∷ i ∷ j ∷ k ∷ []) least under kinds =
    rw (back metre x (omega arith) kinds.0, back metre y (omega arith) kinds.1.0, back metre z (omega arith) kinds.1.1.0, back axis_unit i (omega arith) kinds.1.1.1.0, back axis_unit j (omega arith) kinds.1.1.1.1.0, back axis_unit k (omega arith) kinds.1.1.1.1.1.0) refl
six_are (x ∷ y ∷ z ∷ i ∷ j ∷ k ∷ more ∷ values) least under kinds = absurd (omega arith)

pub delta_is : (values : List ℤ) → 3 ≤ length values → length values < 4 → AreKinds delta_kinds values
    → Ok (Delta (part values 0 ∷ part values 1 ∷ part values 2 ∷ [])) ≡ delta_of values
delta_is [] least under kinds = absurd (omega arith)
delta_is (x ∷ []) least under kinds = absurd (omega arith)
delta_is (x ∷ y ∷ []) least under kinds = absurd (omega arith)
delta_is (x ∷ y ∷ z ∷ []) least under kinds =
    rw (back longest_distance x (omega arith) kinds.0, back longest_distance y (omega arith) kinds.1.0, back longest_distance z (omega arith) kinds.1.1.0) refl
delta_is (x ∷ y ∷ z ∷ more ∷ values) least under kinds = absurd (omega arith)

pub tip_within : (values : List ℤ) → 3 ≤ length values → AreKinds position_kinds values → IsPoint (part values 0 ∷ part values 1 ∷ part values 2 ∷ [])
tip_within [] least kinds = absurd (omega arith)
tip_within (x ∷ []) least kinds = absurd (omega arith)
tip_within (x ∷ y ∷ []) least kinds = absurd (omega arith)
tip_within (x ∷ y ∷ z ∷ more) least kinds =
    (within_back metre x (omega arith) kinds.0, within_back metre y (omega arith) kinds.1.0, within_back metre z (omega arith) kinds.1.1.0)

pub delta_within : (values : List ℤ) → 3 ≤ length values → length values < 4 → AreKinds delta_kinds values
    → IsWithin longest_distance (part values 0 ∷ part values 1 ∷ part values 2 ∷ [])
delta_within [] least under kinds = absurd (omega arith)
delta_within (x ∷ []) least under kinds = absurd (omega arith)
delta_within (x ∷ y ∷ []) least under kinds = absurd (omega arith)
delta_within (x ∷ y ∷ z ∷ []) least under kinds = (
  within_back longest_distance x (omega arith) kinds.0,
  within_back longest_distance y (omega arith) kinds.1.0,
  within_back longest_distance z (omega arith) kinds.1.1.0,
)
delta_within (x ∷ y ∷ z ∷ more ∷ values) least under kinds = absurd (omega arith)

pub axis_within : (values : List ℤ) → 6 ≤ length values → length values < 7 → AreKinds position_kinds values
    → IsWithin axis_unit (part values 3 ∷ part values 4 ∷ part values 5 ∷ [])
axis_within [] least under kinds = absurd (omega arith)
axis_within (x ∷ []) least under kinds = absurd (omega arith)
axis_within (x ∷ y ∷ []) least under kinds = absurd (omega arith)
axis_within (x ∷ y ∷ z ∷ []) least under kinds = absurd (omega arith)
axis_within (x ∷ y ∷ z ∷ i ∷ []) least under kinds = absurd (omega arith)
axis_within (x ∷ y ∷ z ∷ i ∷ j ∷ []) least under kinds = absurd (omega arith)
axis_within (x ∷ y ∷ z ∷ i ∷ j ∷ k ∷ []) least under kinds =
    (within_back axis_unit i (omega arith) kinds.1.1.1.0, within_back axis_unit j (omega arith) kinds.1.1.1.1.0, within_back axis_unit k (omega arith) kinds.1.1.1.1.1.0)
axis_within (x ∷ y ∷ z ∷ i ∷ j ∷ k ∷ more ∷ values) least under kinds = absurd (omega arith)

-- another count than these gives none
pub no_position : (values : List ℤ) → length values ≢ 3 → length values ≢ 6 → Err ParamCount ≡ position_of values
no_position [] three six = refl
no_position (x ∷ []) three six = refl
no_position (x ∷ y ∷ []) three six = refl
no_position (x ∷ y ∷ z ∷ []) three six = absurd (three refl)
no_position (x ∷ y ∷ z ∷ i ∷ []) three six = refl
no_position (x ∷ y ∷ z ∷ i ∷ j ∷ []) three six = refl
no_position (x ∷ y ∷ z ∷ i ∷ j ∷ k ∷ []) three six = absurd (six refl)
no_position (x ∷ y ∷ z ∷ i ∷ j ∷ k ∷ more ∷ values) three six = refl

pub no_delta : (values : List ℤ) → length values ≢ 3 → Err ParamCount ≡ delta_of values
no_delta [] three = refl
no_delta (x ∷ []) three = refl
no_delta (x ∷ y ∷ []) three = refl
no_delta (x ∷ y ∷ z ∷ []) three = absurd (three refl)
no_delta (x ∷ y ∷ z ∷ more ∷ values) three = refl
