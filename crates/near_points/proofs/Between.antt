-- Between two points of a ray that a cylinder holds it holds every point.
use Rattle.std.proofs.Common.{◌≡◌, ◌⊎◌, inl, inr, ⊎_elim, true, ℕ, ◌-◌, ◌≤◌, ℤ, pos, negsuc, ◌+ℤ◌, ◌*ℤ◌, ◌-ℤ◌, ◌≤ℤ◌, ◌<ℤ◌, arith, sym, subst}
use Rattle.std.proofs.lemmas.Int.{ints}
use Rattle.space.proofs.Tests.{decides_le}
use Rattle.near_points.specs.declared.axis_offset.AxisOffset.{AxisOffset}
use Rattle.near_points.specs.declared.cylinder_test.CylinderTest.{CylinderTest}
use Rattle.near_points.specs.declared.ray_step.RayStep.{RayStep}
use Rattle.near_points.specs.Lines.{is_amid_after, is_held_after, is_narrow_after, second_at, third_at, width_at}
use Rattle.near_points.proofs.Growing.{growth_at, grows_back, grows_on, less_between, more_between, two_squares}
use Rattle.near_points.proofs.Leaving.{on_to}
use Rattle.near_points.proofs.Told.{amid_parts, held_by_parts}

sign : (g : ℤ) → (pos 0 ≤ℤ g) ⊎ (g <ℤ pos 0)
sign (pos n) = inl (omega (arith, ints))
sign (negsuc n) = inr (omega (arith, ints))

pub no_more : (a b y : ℤ) → a ≤ℤ b → b ≤ℤ y → a ≤ℤ y
no_more a b y h k = omega (arith, ints, h, k)

-- where it falls it grows backwards
falls : (c g : ℤ) → pos 0 ≤ℤ c → (c +ℤ g) <ℤ pos 0 → pos 0 ≤ℤ (c -ℤ g)
falls c g h k = omega (arith, ints, h, k)

-- the square of the moment is not too large between two points where it isn't
narrow_between : (s : AxisOffset) (t : RayStep) (y : ℤ) (l x m : ℕ) → l ≤ x → x ≤ m → width_at s t (pos l) ≤ℤ y → width_at s t (pos m) ≤ℤ y → width_at s t (pos x) ≤ℤ y
narrow_between s t y l x m from to first last =
    let c = t.second *ℤ t.second +ℤ t.third *ℤ t.third in
    let slope = λ (z : ℤ). pos 2 *ℤ (second_at s t z *ℤ t.second +ℤ third_at s t z *ℤ t.third) in
    ⊎_elim
    (λ (growing : pos 0 ≤ℤ growth_at s t (pos x)).
    no_more (width_at s t (pos x)) (width_at s t (pos m)) y (subst (λ (z : ℤ). width_at s t (pos x) ≤ℤ width_at s t z) (on_to x m to) (grows_on s t x (m - x) growing)) last)
    (λ (falling : growth_at s t (pos x) <ℤ pos 0).
    let back = falls c (slope (pos x)) (two_squares t.second t.third) falling in
    no_more (width_at s t (pos x)) (width_at s t (pos l)) y
    (subst (λ (z : ℤ). width_at s t z ≤ℤ width_at s t (pos l)) (on_to l x from)
    (grows_back s t l (x - l) (subst (λ (z : ℤ). pos 0 ≤ℤ (c -ℤ slope z)) (sym (on_to l x from)) back))) first)
    (sign (growth_at s t (pos x)))

pub at_least_between : (h t y : ℤ) (l x m : ℕ) → l ≤ x → x ≤ m → y ≤ℤ (h +ℤ pos l *ℤ t) → y ≤ℤ (h +ℤ pos m *ℤ t) → y ≤ℤ (h +ℤ pos x *ℤ t)
at_least_between h t y l x m from to first last =
    let more = more_between h t (y -ℤ pos 1) l x m from to (omega (arith, ints, first)) (omega (arith, ints, last)) in omega (arith, ints, more)

pub at_most_between : (h t y : ℤ) (l x m : ℕ) → l ≤ x → x ≤ m → (h +ℤ pos l *ℤ t) ≤ℤ y → (h +ℤ pos m *ℤ t) ≤ℤ y → (h +ℤ pos x *ℤ t) ≤ℤ y
at_most_between h t y l x m from to first last =
    let less = less_between h t (y +ℤ pos 1) l x m from to (omega (arith, ints, first)) (omega (arith, ints, last)) in omega (arith, ints, less)

-- a point is held that lies between two that are amid, and between two moments that aren't too long
pub held_amid : (test : CylinderTest) (s : AxisOffset) (t : RayStep) (bottom from x to top : ℕ) → bottom ≤ from → from ≤ x → x ≤ to → to ≤ top → is_amid_after test s t (pos bottom) ≡ true → is_amid_after test s t (pos top) ≡ true
    → is_narrow_after test s t (pos from) ≡ true → is_narrow_after test s t (pos to) ≡ true → is_held_after test s t (pos x) ≡ true
held_amid test s t bottom from x to top first before behind last low high near far =
    let a = amid_parts test s t (pos bottom) low in let b = amid_parts test s t (pos top) high in
    let up : bottom ≤ x = omega (arith, first, before) in let down : x ≤ top = omega (arith, behind, last) in
    held_by_parts test s t (pos x)
    (narrow_between s t test.square from x to before behind ((decides_le (width_at s t (pos from)) test.square).0 near) ((decides_le (width_at s t (pos to)) test.square).0 far))
    record {
      low = at_least_between s.height t.height test.least bottom x top up down a.low b.low;
      high = at_most_between s.height t.height test.most bottom x top up down a.high b.high;
      left = at_least_between s.side t.side (pos 0 -ℤ test.across) bottom x top up down a.left b.left;
      right = at_most_between s.side t.side test.across bottom x top up down a.right b.right;
    }
