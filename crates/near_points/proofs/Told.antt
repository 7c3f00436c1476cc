-- What the tests of a point say.
use Rattle.std.proofs.Common.{◌≡◌, ◌⊎◌, inl, inr, Bool, true, false, ◌&&◌, ℕ, ◌≤◌, ℤ, pos, ◌+ℤ◌, ◌-ℤ◌, ◌*ℤ◌, ◌≤ℤ◌, ◌<ℤ◌, int_le, arith, refl, ap, subst, ◌∙◌}
use Rattle.std.proofs.lemmas.Int.{ints}
use Rattle.std.proofs.lemmas.Bool.{and_parts}
use Rattle.space.proofs.Tests.{decides_le}
use Rattle.near_points.specs.declared.axis_offset.AxisOffset.{AxisOffset}
use Rattle.near_points.specs.declared.cylinder_test.CylinderTest.{CylinderTest}
use Rattle.near_points.specs.declared.ray_step.RayStep.{RayStep}
use Rattle.near_points.specs.Lines.{AreBeyond, height_at, is_amid_after, is_beside_after, is_held_after, is_high_after, is_narrow_after, side_at, width_at}
use Rattle.near_points.proofs.Growing.{less_between, more_between}

pub above_false : (x y : ℤ) → y <ℤ x → int_le x y ≡ false
above_false x y h = grind (arith, ints)

pub below_if_not : (x y : ℤ) → int_le x y ≡ false → y <ℤ x
below_if_not x y h = grind (arith, ints)

pub first_false : (a b : Bool) → a ≡ false → (a && b) ≡ false
first_false a b h = ap (λ x. x && b) h

pub second_false : (a b : Bool) → b ≡ false → (a && b) ≡ false
second_false true b h = h
second_false false b h = refl

pub both_true : (a b : Bool) → a ≡ true → b ≡ true → (a && b) ≡ true
both_true a b h k = ap (λ x. x && b) h ∙ k

-- a point whose moment is too long, or that is too low, too high or too far to a side
pub unheld_wide : (test : CylinderTest) (s : AxisOffset) (t : RayStep) (l : ℤ) → is_narrow_after test s t l ≡ false → is_held_after test s t l ≡ false
unheld_wide test s t l h = first_false (is_narrow_after test s t l) (is_amid_after test s t l) h

pub unheld_beyond : (test : CylinderTest) (s : AxisOffset) (t : RayStep) (l : ℤ) → is_amid_after test s t l ≡ false → is_held_after test s t l ≡ false
unheld_beyond test s t l h = second_false (is_narrow_after test s t l) (is_amid_after test s t l) h

-- a number that is beyond one of two ends
beyond_one : (least most z : ℤ) → (z <ℤ least) ⊎ (most <ℤ z) → (int_le least z && int_le z most) ≡ false
beyond_one least most z (inl low) = first_false (int_le least z) (int_le z most) (above_false least z low)
beyond_one least most z (inr high) = second_false (int_le least z) (int_le z most) (above_false z most high)

beyond_between : (h t least most a b : ℤ) (l x m : ℕ) → AreBeyond least most a b → a ≡ h +ℤ pos l *ℤ t → b ≡ h +ℤ pos m *ℤ t → l ≤ x → x ≤ m
    → (int_le least (h +ℤ pos x *ℤ t) && int_le (h +ℤ pos x *ℤ t) most) ≡ false
beyond_between h t least most a b l x m (inl low) ea eb from to =
    beyond_one least most (h +ℤ pos x *ℤ t) (inl (less_between h t least l x m from to (subst (λ (z : ℤ). z <ℤ least) ea low.0) (subst (λ (z : ℤ). z <ℤ least) eb low.1)))
beyond_between h t least most a b l x m (inr high) ea eb from to =
    beyond_one least most (h +ℤ pos x *ℤ t) (inr (more_between h t most l x m from to (subst (λ (z : ℤ). most <ℤ z) ea high.0) (subst (λ (z : ℤ). most <ℤ z) eb high.1)))

pub beyond_by : (p q least most a b : ℤ) → p ≡ least → q ≡ most → AreBeyond p q a b → AreBeyond least most a b
beyond_by p q least most a b ep eq h = subst (λ (z : ℤ). AreBeyond least z a b) eq (subst (λ (z : ℤ). AreBeyond z q a b) ep h)

pub beyond_both : (test : CylinderTest) (s : AxisOffset) (t : RayStep) (a b : ℤ) (l x m : ℕ) → AreBeyond test.least test.most a b → a ≡ height_at s t (pos l) → b ≡ height_at s t (pos m) → l ≤ x → x ≤ m
    → is_held_after test s t (pos x) ≡ false
beyond_both test s t a b l x m apart ea eb from to =
    unheld_beyond test s t (pos x) (first_false (is_high_after test s t (pos x)) (is_beside_after test s t (pos x)) (beyond_between s.height t.height test.least test.most a b l x m apart ea eb from to))

pub beside_both : (test : CylinderTest) (s : AxisOffset) (t : RayStep) (a b : ℤ) (l x m : ℕ) → AreBeyond (pos 0 -ℤ test.across) test.across a b → a ≡ side_at s t (pos l) → b ≡ side_at s t (pos m) → l ≤ x → x ≤ m
    → is_held_after test s t (pos x) ≡ false
beside_both test s t a b l x m apart ea eb from to =
    unheld_beyond test s t (pos x) (second_false (is_high_after test s t (pos x)) (is_beside_after test s t (pos x)) (beyond_between s.side t.side (pos 0 -ℤ test.across) test.across a b l x m apart ea eb from to))

-- a test that is true, by its parts
pub record IsAmid (test : CylinderTest) (s : AxisOffset) (t : RayStep) (l : ℤ) : Type 0 where
  pub low : test.least ≤ℤ height_at s t l
  pub high : height_at s t l ≤ℤ test.most
  pub left : (pos 0 -ℤ test.across) ≤ℤ side_at s t l
  pub right : side_at s t l ≤ℤ test.across

pub amid_parts : (test : CylinderTest) (s : AxisOffset) (t : RayStep) (l : ℤ) → is_amid_after test s t l ≡ true → IsAmid test s t l
amid_parts test s t l h =
    let two = and_parts (is_high_after test s t l) (is_beside_after test s t l) h in
    let up = and_parts (int_le test.least (height_at s t l)) (int_le (height_at s t l) test.most) two.0 in
    let side = and_parts (int_le (pos 0 -ℤ test.across) (side_at s t l)) (int_le (side_at s t l) test.across) two.1 in
    record {
      low = (decides_le test.least (height_at s t l)).0 up.0;
      high = (decides_le (height_at s t l) test.most).0 up.1;
      left = (decides_le (pos 0 -ℤ test.across) (side_at s t l)).0 side.0;
      right = (decides_le (side_at s t l) test.across).0 side.1;
    }

pub held_parts : (test : CylinderTest) (s : AxisOffset) (t : RayStep) (l : ℤ) → is_held_after test s t l ≡ true → (width_at s t l ≤ℤ test.square) × IsAmid test s t l
held_parts test s t l h =
    let two = and_parts (is_narrow_after test s t l) (is_amid_after test s t l) h in ((decides_le (width_at s t l) test.square).0 two.0, amid_parts test s t l two.1)

pub held_by_parts : (test : CylinderTest) (s : AxisOffset) (t : RayStep) (l : ℤ) → width_at s t l ≤ℤ test.square → IsAmid test s t l → is_held_after test s t l ≡ true
held_by_parts test s t l w h =
    both_true (is_narrow_after test s t l) (is_amid_after test s t l) ((decides_le (width_at s t l) test.square).1 w)
    (both_true (is_high_after test s t l) (is_beside_after test s t l)
    (both_true (int_le test.least (height_at s t l)) (int_le (height_at s t l) test.most) ((decides_le test.least (height_at s t l)).1 h.low) ((decides_le (height_at s t l) test.most).1 h.high))
    (both_true (int_le (pos 0 -ℤ test.across) (side_at s t l)) (int_le (side_at s t l) test.across) ((decides_le (pos 0 -ℤ test.across) (side_at s t l)).1 h.left) ((decides_le (side_at s t l) test.across).1 h.right)))
