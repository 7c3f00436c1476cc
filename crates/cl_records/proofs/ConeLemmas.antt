-- What is known of a cutter whose angles aren't refused.
use Rattle.std.proofs.Common.{◌≡◌, ◌≢◌, ℤ, pos, ◌*◌, ◌≤◌, unsigned_abs, Bool, true, false, not, ◌&&◌, ◌||◌, Option, Some, None, MatchOption, refl, ap}
use Rattle.std.specs.Option.{is_none}
use Rattle.std.specs.Ordering.{int_eq}
use Rattle.std.proofs.lemmas.Bool.{ltb-false}
use Rattle.std.proofs.lemmas.Bool.Decides.{Decides-int_eq}
use Rattle.space.specs.Flanks.{is_flank, top_of}
use Rattle.cl_records.specs.Cutters.{degrees_of, is_angle_refused, is_cone_open, is_cone_refused, is_cone_rounded, is_cone_wide, is_flank_odd, is_flank_refused, is_top_wide, leans}
use Rattle.cl_records.specs.Kinds.{widest}
use Rattle.cl_records.specs.Ranges.{IsCone}

neither : (a b : Bool) → (a || b) ≡ false → (a ≡ false) × (b ≡ false)
neither false b none = (refl, none)
neither true b none = absurd (cc)

both_held : (a b : Bool) → not (a && b) ≡ false → (a ≡ true) × (b ≡ true)
both_held true true held = (refl, refl)
both_held true false held = absurd (cc)
both_held false b held = absurd (cc)

-- the second of two tests fails where they don't hold together and the first holds
second_fails : (a b : Bool) → a ≡ true → (a && b) ≡ false → b ≡ false
second_fails true b held none = none
second_fails false b held none = absurd (cc)

held_not : (a : Bool) → not a ≡ false → a ≡ true
held_not true none = refl
held_not false none = absurd (cc)

-- an angle of some degrees isn't 0
leans-degrees : (b : ℤ) → degrees_of b ≢ 0 → leans b ≡ true
leans-degrees b some =
    elim (leans b) as (λ t. leans b ≡ t → leans b ≡ true) [
      | true ↦ λ is. is
      | false ↦ λ is. absurd (some (ap degrees_of ((Decides-int_eq b (pos 0)).0 (held_not (int_eq b (pos 0)) is))))
    ] refl

-- the flank angle is read
pub flank_read : (a b d r : ℤ) (h : Option ℤ) → is_angle_refused a b d r h ≡ false → is_flank (degrees_of b) ≡ true
flank_read a b d r h none =
    let flank = neither (is_flank_odd b) (is_cone_refused b d r h) (neither (leans a) (is_flank_refused b d r h) none).1 in
    (both_held (int_eq b (pos (100000 * degrees_of b))) (is_flank (degrees_of b)) flank.0).1

top_read : (b d : ℤ) (h : Option ℤ) → is_none h ≡ false → is_top_wide b d h ≡ false → MatchOption h ⊥ (λ h. top_of (unsigned_abs d) (unsigned_abs h) (degrees_of b) ≤ widest)
top_read b d None unknown wide = absurd (cc)
top_read b d (Some h) unknown wide = ltb-false widest (top_of (unsigned_abs d) (unsigned_abs h) (degrees_of b)) wide

-- a flank that leans makes a cone that is read
pub cone_read : (a b d r : ℤ) (h : Option ℤ) → is_angle_refused a b d r h ≡ false → degrees_of b ≢ 0
    → IsCone (record { d = d; r = r; h = h; flank = degrees_of b })
cone_read a b d r h none some =
    let held = leans-degrees b some in
    let cone = (neither (is_flank_odd b) (is_cone_refused b d r h) (neither (leans a) (is_flank_refused b d r h) none).1).1 in
    let rounded = neither (is_cone_rounded b r) (is_cone_open b h || is_cone_wide b d h) cone in
    let unknown = neither (is_cone_open b h) (is_cone_wide b d h) rounded.1 in
    record {
      sharp = (Decides-int_eq r (pos 0)).0 (held_not (int_eq r (pos 0)) (second_fails (leans b) (not (int_eq r (pos 0))) held rounded.0));
      top = top_read b d h (second_fails (leans b) (is_none h) held unknown.0) (second_fails (leans b) (is_top_wide b d h) held unknown.1);
    }
