-- The sizes that a CUTTER record gives, and whether they make a cutter that is read. Lengths are micrometres, angles 1/100,000 of
-- a degree. Sizes that should be the same may differ a little: sizes in inches with four decimals stay within that.
use Rattle.std.specs.Prelude.{ℕ, ℤ, pos, ◌+ℤ◌, ◌-ℤ◌, ◌*ℤ◌, ◌*◌, ◌/◌, int_div, int_lt, nat_lt, unsigned_abs, ◌||◌, ◌&&◌, not, Bool, false, List, Option, Some, None, Result, Ok, Err, slice_get, unwrap_or, if◌then◌else◌}
use Rattle.std.specs.Option.{is_none, option_map_or}
use Rattle.std.specs.Ordering.{int_eq}
use Rattle.space.specs.Flanks.{is_flank, top_of}
use Rattle.cl_lines.specs.Numbers.{parts}
use Rattle.cl_lines.specs.declared.fault.ClWhy.{ClWhy}
use Rattle.cl_lines.specs.declared.fault.ClWhy.TheVariants.{CutterShape}
use Rattle.cl_records.specs.Kinds.{widest}
use Rattle.cl_records.specs.declared.cutter.CutterText.{CutterText}

-- how far sizes that should be the same may differ
abbrev pub allowance : ℕ
allowance = 10

-- a size, or 0 where the record ends before it
abbrev pub size_or_zero : List ℤ → ℕ → ℤ
size_or_zero sizes place = unwrap_or (slice_get sizes place) (pos 0)

-- the corner radius that counts: half the diameter where twice the radius is above the diameter
abbrev pub counted_radius : ℤ → ℤ → ℤ
counted_radius d r = if int_lt d (pos 2 *ℤ r) then int_div d (pos 2) else r

-- twice the radius is above the diameter by more than the allowance
abbrev pub is_corner_large : ℤ → ℤ → Bool
is_corner_large r d = int_lt (d +ℤ pos allowance) (pos 2 *ℤ r)

-- two sizes differ by more than that
abbrev pub exceeds_allowance : ℤ → ℤ → Bool
exceeds_allowance a b = nat_lt allowance (unsigned_abs (a -ℤ b))

-- the corner's centre is given at another distance from the axis than half the flat bottom
abbrev pub is_off_axis : Option ℤ → ℤ → Bool
is_off_axis None flat = false
is_off_axis (Some e) flat = exceeds_allowance (pos 2 *ℤ e) flat

-- or at another height above the tip than the radius
abbrev pub is_off_tip : Option ℤ → ℤ → Bool
is_off_tip None r = false
is_off_tip (Some f) r = exceeds_allowance f r

abbrev pub is_centre_off : List ℤ → ℤ → ℤ → Bool
is_centre_off sizes d r = is_off_axis (slice_get sizes 2) (d -ℤ (pos 2 *ℤ r)) || is_off_tip (slice_get sizes 3) r

-- an angle is not 0
abbrev pub leans : ℤ → Bool
leans angle = not (int_eq angle (pos 0))

-- the whole degrees of an angle
abbrev pub degrees_of : ℤ → ℕ
degrees_of angle = unsigned_abs angle / parts

-- the flank angle is no whole number of degrees that is read
abbrev pub is_flank_odd : ℤ → Bool
is_flank_odd b = not (int_eq b (pos (parts * degrees_of b)) && is_flank (degrees_of b))

-- a flank that leans comes with a corner radius
abbrev pub is_cone_rounded : ℤ → ℤ → Bool
is_cone_rounded b r = leans b && not (int_eq r (pos 0))

-- or no height is given, so that the top isn't known
abbrev pub is_cone_open : ℤ → Option ℤ → Bool
is_cone_open b h = leans b && is_none h

-- or the top diameter is above the greatest
abbrev pub is_top_wide : ℤ → ℤ → Option ℤ → Bool
is_top_wide b d h = option_map_or (λ h. nat_lt widest (top_of (unsigned_abs d) (unsigned_abs h) (degrees_of b))) h false

abbrev pub is_cone_wide : ℤ → ℤ → Option ℤ → Bool
is_cone_wide b d h = leans b && is_top_wide b d h

-- any of these: a cone that isn't read
abbrev pub is_cone_refused : ℤ → ℤ → ℤ → Option ℤ → Bool
is_cone_refused b d r h = is_cone_rounded b r || (is_cone_open b h || is_cone_wide b d h)

-- the corner disagrees with the diameter, or its centre with the corner
abbrev pub is_corner_refused : List ℤ → ℤ → ℤ → Bool
is_corner_refused sizes d r = is_corner_large (size_or_zero sizes 1) d || is_centre_off sizes d r

-- the flank leans by an angle that isn't read, or makes a cone that isn't
abbrev pub is_flank_refused : ℤ → ℤ → ℤ → Option ℤ → Bool
is_flank_refused b d r h = is_flank_odd b || is_cone_refused b d r h

-- the bottom leans, or the flank is refused
abbrev pub is_angle_refused : ℤ → ℤ → ℤ → ℤ → Option ℤ → Bool
is_angle_refused a b d r h = leans a || is_flank_refused b d r h

-- the cutter of the sizes d, r, e, f, a, b, h, of which all but the first may be missing
abbrev pub cutter_of : List ℤ → Result CutterText ClWhy
cutter_of sizes =
    let d = size_or_zero sizes 0 in
    let r = counted_radius d (size_or_zero sizes 1) in
    let a = size_or_zero sizes 4 in
    let b = size_or_zero sizes 5 in
    let h = slice_get sizes 6 in
    if is_corner_refused sizes d r || is_angle_refused a b d r h
    then Err CutterShape
    else Ok (record { d = d; r = r; h = h; flank = degrees_of b })
