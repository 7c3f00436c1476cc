-- A cutter by its numbers. Lengths are micrometres, the flank angle is in whole degrees from the axis.
use Rattle.std.specs.Prelude.{◌≡◌, ℕ, ◌*◌, ◌-◌, ◌≤◌, ◌<◌, ◌⊎◌, true}
use Rattle.space.specs.Flanks.{is_flank, top_of}

-- diameter at the tip, corner radius, height above the tip, flank angle, and base: under an angle above 0 it widens upwards, as a
-- cone, and the base is how high above the tip it begins
pub record CutterSize : Type 0 where
  pub d : ℕ
  pub r : ℕ
  pub h : ℕ
  pub flank : ℕ
  pub base : ℕ

-- the diameter of the flat bottom: E = d - 2 r
abbrev pub flat_of : CutterSize → ℕ
flat_of c = c.d - 2 * c.r

-- the diameter at the top, h above the tip
abbrev pub top_diameter : CutterSize → ℕ
top_diameter c = top_of c.d c.h c.flank

-- a valid cutter: 1 <= d <= 200,000, 0 <= 2 r <= d, 1 <= h <= 300,000 and r <= h, with a flank angle that is read, no rounded
-- corner under a leaning flank, and at most 200,000 wide at the top. It begins below its upper end, and only a plain cylinder begins
-- above the tip.
pub record IsCutter (c : CutterSize) : Type 0 where
  pub wide : 1 ≤ c.d
  pub width : c.d ≤ 200000
  pub corner : 2 * c.r ≤ c.d
  pub high : 1 ≤ c.h
  pub height : c.h ≤ 300000
  pub rounded : c.r ≤ c.h
  pub angle : is_flank c.flank ≡ true
  pub sharp : (c.flank ≡ 0) ⊎ (c.r ≡ 0)
  pub top : top_diameter c ≤ 200000
  pub hollow : c.base < c.h
  pub plain : (c.base ≡ 0) ⊎ ((c.r ≡ 0) × (c.flank ≡ 0))
