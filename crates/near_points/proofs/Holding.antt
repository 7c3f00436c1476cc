-- Which points of a ray a cylinder holds.
use Rattle.std.proofs.Common.{◌≡◌, true, ℕ, ◌<◌, ℤ, pos, ◌-ℤ◌, ◌*ℤ◌, ◌≤ℤ◌, ◌<ℤ◌, unsigned_abs, arith, refl, sym, subst, ap, ◌∙◌}
use Rattle.std.proofs.lemmas.Int.{ints}
use Rattle.std.proofs.lemmas.List.Elements.{All-contains}
use borrow.Author.Differences.{abs_is}
use Rattle.space.specs.Vectors.{dot}
use Rattle.sweep_boxes.specs.declared.band.Band.{Band}
use Rattle.sweep_boxes.specs.Bands.{IsOnBand}
use Rattle.ray_grid.specs.Lattice.{point_of, points_of}
use Rattle.near_points.specs.declared.axis_offset.AxisOffset.{AxisOffset}
use Rattle.near_points.specs.declared.cylinder_test.CylinderTest.{CylinderTest}
use Rattle.near_points.specs.declared.ray_step.RayStep.{RayStep}
use Rattle.near_points.specs.Lines.{height_at, is_held_after, side_at, width_at}
use Rattle.near_points.specs.Trimmed.{IsLeftOut, is_within}
use Rattle.near_points.specs.Rays.{CylinderRayOf, IsHeldAt, IsKeptAt}
use Rattle.near_points.specs.Ready.{IsReadyRay, offset_of}
use Rattle.near_points.proofs.Told.{held_by_parts, held_parts}
use Rattle.near_points.proofs.Trimming.{within_by_parts}

at_most_by : (a b x y : ℤ) → a ≤ℤ b → a ≡ x → b ≡ y → x ≤ℤ y
at_most_by a b x y h e f = omega (arith, ints, h, e, f)

small_by : (x a c d : ℤ) → (pos 0 -ℤ a) ≤ℤ x → x ≤ℤ a → a ≡ c → x ≡ d → pos (unsigned_abs d) ≤ℤ c
small_by x a c d h k e f = subst (λ (z : ℤ). pos (unsigned_abs z) ≤ℤ c) f (omega (arith, ints, h, k, e, abs_is x))

least_by : (x a c d : ℤ) → pos (unsigned_abs d) ≤ℤ c → a ≡ c → x ≡ d → (pos 0 -ℤ a) ≤ℤ x
least_by x a c d h e f = omega (arith, ints, h, e, f, abs_is d)

most_by : (x a c d : ℤ) → pos (unsigned_abs d) ≤ℤ c → a ≡ c → x ≡ d → x ≤ℤ a
most_by x a c d h e f = omega (arith, ints, h, e, f, abs_is d)

pub holds_point : (first : AxisOffset) (step : RayStep) (test : CylinderTest) (r : CylinderRayOf) (l : ℕ) → IsReadyRay first step test r → l < points_of r.grid r.ray.family → is_held_after test first step (pos l) ≡ true → IsHeldAt r l
holds_point first step test r l ready within told =
    let parts = held_parts test first step (pos l) told in let amid = parts.1 in record {
      about = record {
        above = at_most_by test.least (height_at first step (pos l)) _ _ amid.low ready.test_is.least (ready.heights l within);
        below = at_most_by (height_at first step (pos l)) test.most _ _ amid.high (ready.heights l within) ready.test_is.most;
        beside = at_most_by (width_at first step (pos l)) test.square _ _ parts.0 (ready.widths l within) (test.square_is ∙ ap (λ z. z *ℤ z) ready.test_is.moment);
      };
      across = small_by (side_at first step (pos l)) test.across _ _ amid.left amid.right ready.test_is.across (ready.sides l within);
    }

-- a point that the cylinder holds at each band is left out by none
pub not_left_out : (first : AxisOffset) (step : RayStep) (test : CylinderTest) (r : CylinderRayOf) (l : ℕ) → IsReadyRay first step test r → l < points_of r.grid r.ray.family → IsKeptAt r l → IsLeftOut r.cylinder.bands first step (pos l) → ⊥
not_left_out first step test r l ready within kept out =
    let v = offset_of r.cylinder (point_of r.grid r.ray l) in let a = r.cylinder.axis in let x = out.band in let side = side_at first step (pos l) in
    let on : IsOnBand x r.cylinder.side v a = All-contains (λ (y : Band). IsOnBand y r.cylinder.side v a) r.cylinder.bands x kept.bands out.one in
    let below : dot v a <ℤ x.height = subst (λ (z : ℤ). z <ℤ x.height) (ready.heights l within) out.below in
    let about = at_most_by _ _ (width_at first step (pos l)) (x.moment *ℤ x.moment) (on.about below) (sym (ready.widths l within)) refl in
    let left = least_by side x.across _ _ (on.across below) refl (ready.sides l within) in
    let right = most_by side x.across _ _ (on.across below) refl (ready.sides l within) in
    let yes : is_within x side (width_at first step (pos l)) ≡ true = within_by_parts x side (width_at first step (pos l)) about left right in
    let no = out.beyond in cc

pub point_holds : (first : AxisOffset) (step : RayStep) (test : CylinderTest) (r : CylinderRayOf) (l : ℕ) → IsReadyRay first step test r → l < points_of r.grid r.ray.family → IsHeldAt r l → is_held_after test first step (pos l) ≡ true
point_holds first step test r l ready within held =
    let about = held.about in
    held_by_parts test first step (pos l)
    (at_most_by _ _ (width_at first step (pos l)) test.square about.beside (sym (ready.widths l within)) (sym (test.square_is ∙ ap (λ z. z *ℤ z) ready.test_is.moment)))
    record {
      low = at_most_by _ _ test.least (height_at first step (pos l)) about.above (sym ready.test_is.least) (sym (ready.heights l within));
      high = at_most_by _ _ (height_at first step (pos l)) test.most about.below (sym (ready.heights l within)) (sym ready.test_is.most);
      left = least_by (side_at first step (pos l)) test.across _ _ held.across ready.test_is.across (ready.sides l within);
      right = most_by (side_at first step (pos l)) test.across _ _ held.across ready.test_is.across (ready.sides l within);
    }
