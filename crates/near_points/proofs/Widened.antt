-- The moments between two points are too long where the nearest that both allow is.
use Rattle.std.proofs.Common.{◌≡◌, inl, inr, [], ◌∷◌, Bool, true, false, not, cond, ℕ, ◌≤◌, ℤ, pos, ◌+ℤ◌, ◌-ℤ◌, ◌*ℤ◌, ◌≤ℤ◌, ◌<ℤ◌, int_lt, unsigned_abs, arith, refl, sym, ap, ap₂, subst, ◌∙◌}
use Rattle.std.specs.Int.{int_max, int_min}
use Rattle.std.proofs.lemmas.Int.{ints}
use borrow.Author.Differences.{abs_is}
use Rattle.space.proofs.Naturals.{square_not_negative}
use Rattle.space.proofs.Solver.{var, num, add, mul, ring}
use Rattle.space.proofs.Terms.{sub, square}
use Rattle.near_points.specs.declared.axis_offset.AxisOffset.{AxisOffset}
use Rattle.near_points.specs.declared.cylinder_test.CylinderTest.{CylinderTest}
use Rattle.near_points.specs.declared.ray_step.RayStep.{RayStep}
use Rattle.near_points.specs.Limits.{moment_limit}
use Rattle.near_points.specs.Lines.{IsLeastSize, is_narrow_after, second_at, third_at, width_at}
use Rattle.near_points.proofs.Between.{at_least_between, at_most_between, no_more}
use Rattle.near_points.proofs.Growing.{product_some}
use Rattle.near_points.proofs.Told.{above_false}

no_less : (d a b : ℤ) → d ≡ b -ℤ a → pos 0 ≤ℤ d → a ≤ℤ b
no_less d a b e h = omega (arith, ints, e, h)

squares_differ : (r y : ℤ) → (y -ℤ r) *ℤ (y +ℤ r) ≡ (y *ℤ y) -ℤ (r *ℤ r)
squares_differ r y =
    let R = var 0 in let Y = var 1 in
    ring (r ∷ y ∷ []) (mul (sub Y R) (add Y R)) (sub (square Y) (square R)) refl

-- a number that is no nearer to zero has no smaller square
square_above : (r y : ℤ) → pos 0 ≤ℤ r → r ≤ℤ y → (r *ℤ r) ≤ℤ (y *ℤ y)
square_above r y some h =
    no_less ((y -ℤ r) *ℤ (y +ℤ r)) (r *ℤ r) (y *ℤ y) (squares_differ r y)
    (product_some (y -ℤ r) (y +ℤ r) (omega (arith, ints, some, h)) (omega (arith, ints, some, h)))

opposite_square : (y : ℤ) → (pos 0 -ℤ y) *ℤ (pos 0 -ℤ y) ≡ y *ℤ y
opposite_square y = let Y = var 0 in ring (y ∷ []) (square (sub (num (pos 0)) Y)) (square Y) refl

square_below : (r y : ℤ) → pos 0 ≤ℤ r → y ≤ℤ (pos 0 -ℤ r) → (r *ℤ r) ≤ℤ (y *ℤ y)
square_below r y some h =
    subst (λ (z : ℤ). (r *ℤ r) ≤ℤ z) (opposite_square y) (square_above r (pos 0 -ℤ y) some (omega (arith, ints, some, h)))

-- of what is linear the square between two points
square_between : (h t r : ℤ) (l x m : ℕ) → l ≤ x → x ≤ m → IsLeastSize (h +ℤ pos l *ℤ t) (h +ℤ pos m *ℤ t) r
    → (r *ℤ r) ≤ℤ ((h +ℤ pos x *ℤ t) *ℤ (h +ℤ pos x *ℤ t))
square_between h t r l x m from to (some, inl none) =
    subst (λ (z : ℤ). (z *ℤ z) ≤ℤ ((h +ℤ pos x *ℤ t) *ℤ (h +ℤ pos x *ℤ t))) (sym none) (square_not_negative (h +ℤ pos x *ℤ t))
square_between h t r l x m from to (some, inr (inl above)) =
    square_above r (h +ℤ pos x *ℤ t) some (at_least_between h t r l x m from to above.0 above.1)
square_between h t r l x m from to (some, inr (inr below)) =
    square_below r (h +ℤ pos x *ℤ t) some (at_most_between h t (pos 0 -ℤ r) l x m from to below.0 below.1)

more_than : (s a p q x y : ℤ) → s <ℤ ((a +ℤ p) +ℤ q) → p ≤ℤ x → q ≤ℤ y → s <ℤ ((a +ℤ x) +ℤ y)
more_than s a p q x y h k l = omega (arith, ints, h, k, l)

pub wide_between : (test : CylinderTest) (s : AxisOffset) (t : RayStep) (second third : ℤ) (l x m : ℕ) → l ≤ x → x ≤ m
    → IsLeastSize (second_at s t (pos l)) (second_at s t (pos m)) second → IsLeastSize (third_at s t (pos l)) (third_at s t (pos m)) third
    → test.square <ℤ ((s.along *ℤ s.along +ℤ second *ℤ second) +ℤ third *ℤ third) → is_narrow_after test s t (pos x) ≡ false
wide_between test s t second third l x m from to p q wide =
    above_false (width_at s t (pos x)) test.square
    (more_than test.square (s.along *ℤ s.along) (second *ℤ second) (third *ℤ third) (second_at s t (pos x) *ℤ second_at s t (pos x))
    (third_at s t (pos x) *ℤ third_at s t (pos x)) wide (square_between s.second t.second second l x m from to p)
    (square_between s.third t.third third l x m from to q))

-- what the code finds, in machine words
pub least_by : (a b x y r : ℤ) → a ≡ x → b ≡ y → IsLeastSize a b r → IsLeastSize x y r
least_by a b x y r ea eb h = subst (λ (z : ℤ). IsLeastSize x z r) eb (subst (λ (z : ℤ). IsLeastSize z b r) ea h)

pub squares_by : (a b c x y z : ℤ) → a ≡ x → b ≡ y → c ≡ z → (a *ℤ a +ℤ b *ℤ b) +ℤ c *ℤ c ≡ (x *ℤ x +ℤ y *ℤ y) +ℤ z *ℤ z
squares_by a b c x y z ea eb ec = ap₂ (λ p q. (p *ℤ p +ℤ q *ℤ q) +ℤ c *ℤ c) ea eb ∙ ap (λ p. (x *ℤ x +ℤ y *ℤ y) +ℤ p *ℤ p) ec

pub not_so : (b : Bool) → not b ≡ true → b ≡ false
not_so true h = sym h
not_so false h = refl

sum_most : (a p q x y s : ℤ) → ((a +ℤ x) +ℤ y) ≤ℤ s → p ≤ℤ x → q ≤ℤ y → ((a +ℤ p) +ℤ q) ≤ℤ s
sum_most a p q x y s h k l = omega (arith, ints, h, k, l)

pub near_between : (a p q x y s : ℤ) → ((a *ℤ a +ℤ x *ℤ x) +ℤ y *ℤ y) ≤ℤ s → pos 0 ≤ℤ p → p ≤ℤ x → pos 0 ≤ℤ q → q ≤ℤ y
    → ((a *ℤ a +ℤ p *ℤ p) +ℤ q *ℤ q) ≤ℤ s
near_between a p q x y s h some k other l =
    sum_most (a *ℤ a) (p *ℤ p) (q *ℤ q) (x *ℤ x) (y *ℤ y) s h (square_above p x some k) (square_above q y other l)

pub not_not : (b : Bool) → not b ≡ false → b ≡ true
not_not true h = refl
not_not false h = sym h

-- how far from zero whatever lies between two numbers is at the least
pub record IsLeastOf (a b r : ℤ) : Type 0 where
  pub least : IsLeastSize a b r
  pub most : (q : ℤ) → IsLeastSize a b q → q ≤ℤ r
  pub small : unsigned_abs r ≤ moment_limit

-- as far as the lower one where both are positive
most_above : (low high q : ℤ) → pos 0 <ℤ low → IsLeastSize low high q → q ≤ℤ low
most_above low high q some (from, inl none) = omega (arith, ints, some, none)
most_above low high q some (from, inr (inl above)) = above.0
most_above low high q some (from, inr (inr below)) = let under = below.0 in absurd (omega (arith, ints, some, from, under))

pub least_above : (low high : ℤ) → low ≤ℤ high → pos 0 <ℤ low → unsigned_abs low ≤ moment_limit → IsLeastOf low high low
least_above low high order some small = record {
  least = (omega (arith, ints, some), inr (inl (omega (arith, ints), order)));
  most = λ q h. most_above low high q some h;
  small = small;
}

-- as far as the higher one where both are negative
most_below : (low high q : ℤ) → high <ℤ pos 0 → IsLeastSize low high q → q ≤ℤ (pos 0 -ℤ high)
most_below low high q none (from, inl zero) = omega (arith, ints, none, zero)
most_below low high q none (from, inr (inl above)) = let over = above.1 in absurd (omega (arith, ints, none, from, over))
most_below low high q none (from, inr (inr below)) = let under = below.1 in omega (arith, ints, under)

pub least_below : (low high : ℤ) → low ≤ℤ high → high <ℤ pos 0 → unsigned_abs high ≤ moment_limit → IsLeastOf low high (pos 0 -ℤ high)
least_below low high order none small = record {
  least = (omega (arith, ints, none), inr (inr (omega (arith, ints, order), omega (arith, ints))));
  most = λ q h. most_below low high q none h;
  small = omega (arith, ints, abs_is high, abs_is (pos 0 -ℤ high), small);
}

-- and else not at all
most_about : (low high q : ℤ) → low ≤ℤ pos 0 → pos 0 ≤ℤ high → IsLeastSize low high q → q ≤ℤ pos 0
most_about low high q under over (from, inl zero) = omega (arith, ints, zero)
most_about low high q under over (from, inr (inl above)) = let least = above.0 in omega (arith, ints, least, under)
most_about low high q under over (from, inr (inr below)) = let least = below.1 in omega (arith, ints, least, over)

pub least_about : (low high : ℤ) → low ≤ℤ pos 0 → pos 0 ≤ℤ high → IsLeastOf low high (pos 0)
least_about low high under over = record {
  least = (omega (arith, ints), inl refl);
  most = λ q h. most_about low high q under over h;
  small = omega arith;
}

-- the lower and the higher of two numbers
pub record AreEnds (a b low high : ℤ) : Type 0 where
  pub order : low ≤ℤ high
  pub low_small : unsigned_abs low ≤ moment_limit
  pub high_small : unsigned_abs high ≤ moment_limit
  pub least : (r : ℤ) → IsLeastOf low high r → IsLeastOf a b r

swapped : (a b r : ℤ) → IsLeastSize a b r → IsLeastSize b a r
swapped a b r (from, inl none) = (from, inl none)
swapped a b r (from, inr (inl above)) = (from, inr (inl (above.1, above.0)))
swapped a b r (from, inr (inr below)) = (from, inr (inr (below.1, below.0)))

ends_by : (t : Bool) (a b low high : ℤ) → unsigned_abs a ≤ moment_limit → unsigned_abs b ≤ moment_limit → low ≡ cond t b a → high ≡ cond t a b
    → low ≤ℤ high → AreEnds a b low high
ends_by true a b low high ha hb el eh order = record {
  order = order;
  low_small = subst (λ (z : ℤ). unsigned_abs z ≤ moment_limit) (sym el) hb;
  high_small = subst (λ (z : ℤ). unsigned_abs z ≤ moment_limit) (sym eh) ha;
  least = λ r is.
      let of = subst (λ (z : ℤ). IsLeastOf b z r) eh (subst (λ (z : ℤ). IsLeastOf z high r) el is) in
      record { least = swapped b a r of.least; most = λ q h. of.most q (swapped a b q h); small = of.small };
}
ends_by false a b low high ha hb el eh order = record {
  order = order;
  low_small = subst (λ (z : ℤ). unsigned_abs z ≤ moment_limit) (sym el) ha;
  high_small = subst (λ (z : ℤ). unsigned_abs z ≤ moment_limit) (sym eh) hb;
  least = λ r is. subst (λ (z : ℤ). IsLeastOf a z r) eh (subst (λ (z : ℤ). IsLeastOf z high r) el is);
}

pub ends : (a b x y low high : ℤ) → unsigned_abs a ≤ moment_limit → unsigned_abs b ≤ moment_limit → x ≡ a → y ≡ b → low ≡ int_min x y
    → high ≡ int_max x y → low ≤ℤ x → x ≤ℤ high → AreEnds a b low high
ends a b x y low high ha hb ex ey el eh under over =
    ends_by (int_lt b a) a b low high ha hb (el ∙ ap₂ int_min ex ey) (eh ∙ ap₂ int_max ex ey) (no_more low x high under over)
