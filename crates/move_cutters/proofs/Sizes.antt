-- A cutter that was read, and that is no lower than its corner radius, has the sizes of a valid one.
use Rattle.std.proofs.Common.{◌≡◌, ◌≢◌, ℕ, zero, suc, ◌+◌, ◌*◌, ◌/◌, ◌≤◌, ◌⊎◌, ℤ, pos, negsuc, ◌*ℤ◌, ◌≤ℤ◌, int_lt, unsigned_abs, false, true, Option, Some, None, unwrap_or, IfSome, MatchOption, inl, inr, refl, ap, subst, to_z, of_z, arith}
use Rattle.std.proofs.lemmas.Int.{ints, fits_signed_from_abs, to_z-of_z}
use mir.Syntax.{w32}
use Rattle.space.specs.Flanks.{is_flank, top_of}
use Rattle.space.specs.Ranges.{IsBetween}
use Rattle.cl_records.specs.Kinds.{tallest, widest}
use Rattle.cl_records.specs.Ranges.{IsCutterText}
use Rattle.cl_records.specs.declared.cutter.CutterText.{CutterText}
use Rattle.cutter_slabs.specs.Cutter.{IsCutter}
use Rattle.move_cutters.specs.Cutters.{AreDefaults, height_of, is_low, size_of}
use Rattle.move_cutters.specs.declared.cutters.CutterDefaults.{CutterDefaults}

-- a height, or the usual one where there is none
height_within : (h : Option ℤ) (defaults : ℤ) → IfSome h (IsBetween (pos 1) (pos tallest)) → IsBetween (pos 1) (pos tallest) defaults → IsBetween (pos 1) (pos tallest) (unwrap_or h defaults)
height_within None defaults valid tall = tall
height_within (Some z) defaults valid tall = valid

-- an upright flank widens nothing
no_wider : (d x : ℕ) → x ≡ 0 → d ≤ widest → d + 2 * ((x + 999999) / 1000000) ≤ widest
no_wider d x none width = omega arith

upright_top : (d h : ℤ) → IsBetween (pos 1) (pos widest) d → top_of (unsigned_abs d) (unsigned_abs h) 0 ≤ widest
upright_top (negsuc d) h width = absurd width.from_least.le
upright_top (pos d) h width = no_wider d (unsigned_abs h * 0) (omega arith) (omega (arith, ints, width.to_most))

-- the flank, the corner radius and the top of a cutter with a height
pub record IsFlanked (d r h : ℤ) (flank : ℕ) : Type 0 where
  pub sharp : (flank ≡ 0) ⊎ (unsigned_abs r ≡ 0)
  pub top : top_of (unsigned_abs d) (unsigned_abs h) flank ≤ widest

-- a cutter with an upright flank is as wide at the top, and a cone has a height of its own
flanked : (d r : ℤ) (h : Option ℤ) (defaults : ℤ) (flank : ℕ) → IsBetween (pos 1) (pos widest) d
    → (flank ≢ 0 → (r ≡ pos 0) × MatchOption h ⊥ (λ z. top_of (unsigned_abs d) (unsigned_abs z) flank ≤ widest)) → IsFlanked d r (unwrap_or h defaults) flank
flanked d r h defaults zero width cone = record { sharp = inl refl; top = upright_top d (unwrap_or h defaults) width }
flanked d r None defaults (suc n) width cone = absurd (cone (λ e. omega arith)).1
flanked d r (Some z) defaults (suc n) width cone =
    let leaning = cone (λ e. omega arith) in record { sharp = inr (ap unsigned_abs leaning.0); top = leaning.1 }

sizes : (d r h : ℤ) (flank : ℕ) → IsBetween (pos 1) (pos widest) d → pos 0 ≤ℤ r → (pos 2 *ℤ r) ≤ℤ d → IsBetween (pos 1) (pos tallest) h → int_lt h r ≡ false
    → is_flank flank ≡ true → IsFlanked d r h flank → IsCutter record { d = unsigned_abs d; r = unsigned_abs r; h = unsigned_abs h; flank = flank; base = 0 }
sizes (negsuc d) r h flank width radius corner height rounded known flanks = absurd width.from_least.le
sizes (pos d) (negsuc r) h flank width radius corner height rounded known flanks = absurd radius.le
sizes (pos d) (pos r) (negsuc h) flank width radius corner height rounded known flanks = absurd height.from_least.le
sizes (pos d) (pos r) (pos h) flank width radius corner height rounded known flanks =
    let wide = width.from_least in let most = width.to_most in let low = height.from_least in let high = height.to_most in
    record {
      wide = omega (arith, ints, wide);
      width = omega (arith, ints, most);
      corner = omega (arith, ints, corner);
      high = omega (arith, ints, low);
      height = omega (arith, ints, high);
      rounded = grind (arith, ints, rounded);
      angle = known;
      sharp = flanks.sharp;
      top = flanks.top;
      hollow = omega (arith, ints, low);
      plain = inl refl;
    }

is_cutter : (defaults : CutterDefaults) (cutter : CutterText) → AreDefaults defaults → IsCutterText cutter → is_low defaults cutter ≡ false → IsCutter (size_of defaults cutter)
is_cutter defaults cutter all valid high =
    sizes cutter.d cutter.r (height_of defaults cutter) cutter.flank valid.width valid.radius valid.corner (height_within cutter.h defaults.height valid.height all.tall) high valid.flank
    (flanked cutter.d cutter.r cutter.h defaults.height cutter.flank valid.width (λ leaning. let cone = valid.cone leaning in (cone.sharp, cone.top)))

-- the bits of a size give it back
given_back : (z : ℤ) → pos 0 ≤ℤ z → z ≤ℤ pos tallest → to_z w32 (of_z w32 z) ≡ z
given_back (negsuc n) least most = absurd least.le
given_back (pos n) least most = to_z-of_z w32 (pos n) (fits_signed_from_abs w32 (pos n) (omega (arith, ints, most)))

-- what a cutter of 32-bit numbers has to be
pub record IsWritten (d r h : ℤ) (flank : ℕ) : Type 0 where
  pub wide : pos 0 ≤ℤ d
  pub round : pos 0 ≤ℤ r
  pub high : pos 0 ≤ℤ h
  pub sizes_are : IsCutter record { d = unsigned_abs d; r = unsigned_abs r; h = unsigned_abs h; flank = flank; base = 0 }

written : (d r h : ℤ) (flank : ℕ) → IsBetween (pos 1) (pos widest) d → pos 0 ≤ℤ r → (pos 2 *ℤ r) ≤ℤ d → IsBetween (pos 1) (pos tallest) h
    → IsCutter record { d = unsigned_abs d; r = unsigned_abs r; h = unsigned_abs h; flank = flank; base = 0 }
    → IsWritten (to_z w32 (of_z w32 d)) (to_z w32 (of_z w32 r)) (to_z w32 (of_z w32 h)) flank
written d r h flank width radius corner height valid =
    let wide = width.from_least in let most = width.to_most in let low = height.from_least in let tall = height.to_most in
    let wide_above : pos 0 ≤ℤ d = omega (arith, ints, wide) in let high_above : pos 0 ≤ℤ h = omega (arith, ints, low) in
    rw (given_back d wide_above (omega (arith, ints, most)), given_back r radius (omega (arith, ints, corner, most, radius)), given_back h high_above tall)
    record { wide = wide_above; round = radius; high = high_above; sizes_are = valid }

pub is_written : (defaults : CutterDefaults) (cutter : CutterText) (h : ℤ) → AreDefaults defaults → IsCutterText cutter → is_low defaults cutter ≡ false → height_of defaults cutter ≡ h
    → IsWritten (to_z w32 (of_z w32 cutter.d)) (to_z w32 (of_z w32 cutter.r)) (to_z w32 (of_z w32 h)) cutter.flank
is_written defaults cutter h all valid high same =
    subst (λ (z : ℤ). IsWritten (to_z w32 (of_z w32 cutter.d)) (to_z w32 (of_z w32 cutter.r)) (to_z w32 (of_z w32 z)) cutter.flank) same
    (written cutter.d cutter.r (height_of defaults cutter) cutter.flank valid.width valid.radius valid.corner
    (height_within cutter.h defaults.height valid.height all.tall) (is_cutter defaults cutter all valid high))
