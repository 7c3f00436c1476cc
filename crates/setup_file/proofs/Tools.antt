-- A tool of numbers in their ranges is a valid cutter.
use Rattle.std.proofs.Common.{ℤ, pos, ◌*ℤ◌, ◌≤ℤ◌, unsigned_abs, refl, inl, arith}
use Rattle.std.proofs.lemmas.Int.{ints}
use Rattle.space.specs.Ranges.{IsBetween}
use Rattle.cutter_slabs.specs.Cutter.{IsCutter}
use Rattle.setup_file.specs.Limits.{most_tool_diameter, most_tool_height, most_tool_radius}
use borrow.Author.Differences.{abs_is as size_is}

pub tool_cutter : (d r h : ℤ) → IsBetween (pos 1) (pos most_tool_diameter) d → IsBetween (pos 0) (pos most_tool_radius) r → IsBetween (pos 1) (pos most_tool_height) h
    → (pos 2 *ℤ r) ≤ℤ d → r ≤ℤ h → IsCutter record { d = unsigned_abs d; r = unsigned_abs r; h = unsigned_abs h; flank = 0; base = 0 }
tool_cutter d r h diameter radius height corner rounded =
    let d_least : pos 1 ≤ℤ d = diameter.from_least in
    let d_most : d ≤ℤ pos most_tool_diameter = diameter.to_most in
    let r_least : pos 0 ≤ℤ r = radius.from_least in
    let h_least : pos 1 ≤ℤ h = height.from_least in
    let h_most : h ≤ℤ pos most_tool_height = height.to_most in
    let d_size = size_is d in
    let r_size = size_is r in
    let h_size = size_is h in
    record {
      wide = omega (arith, ints);
      width = omega (arith, ints);
      corner = omega (arith, ints);
      high = omega (arith, ints);
      height = omega (arith, ints);
      rounded = omega (arith, ints);
      angle = refl;
      sharp = inl refl;
      top = omega (arith, ints);
      hollow = omega (arith, ints);
      plain = inl refl;
    }
