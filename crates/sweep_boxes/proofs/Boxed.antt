-- The places of a point that is held, along each axis.
use Rattle.std.proofs.Common.{◌≡◌, true, ◌&&◌, ⊎_elim, ℕ, zero, suc, ◌*◌, ◌≤◌, ◌<◌, List, ℤ, pos, ◌+ℤ◌, ◌*ℤ◌, ◌-ℤ◌, ◌≤ℤ◌, unsigned_abs, arith, ap, refl, sym, subst, ◌∙◌}
use Rattle.std.proofs.lemmas.Int.{ints}
use Rattle.space.specs.Ranges.{IsBetween}
use Rattle.space.specs.Sweeps.{SweepOf}
use Rattle.space.specs.Vectors.{at, cross, dot}
use Rattle.std.proofs.lemmas.Bool.{and_parts}
use Rattle.space.specs.Reach.{is_in_reach, is_near}
use Rattle.space.proofs.Naturals.{square_not_negative}
use Rattle.space.proofs.ReachLemmas.{decides_near, near_either}
use Rattle.sweep_boxes.specs.Intervals.{IsAmong, IsBeside, IsHeldOn, middle_axis, middle_offset, offset_from}
use Rattle.sweep_boxes.specs.Made.{IsSweepInterval}
use Rattle.sweep_boxes.specs.declared.sweep_interval.SweepInterval.{SweepInterval}
use Rattle.sweep_boxes.proofs.Numbers.{product_mono}
use Rattle.sweep_boxes.proofs.Sides.{aside_below}
use Rattle.sweep_boxes.proofs.Triangle.{square_of_abs}

-- a component's square is no more than all
part_first : (x y z : ℤ) → (x *ℤ x) ≤ℤ ((x *ℤ x +ℤ y *ℤ y) +ℤ z *ℤ z)
part_first x y z = omega (arith, ints, square_not_negative y, square_not_negative z)

part_second : (x y z : ℤ) → (y *ℤ y) ≤ℤ ((x *ℤ x +ℤ y *ℤ y) +ℤ z *ℤ z)
part_second x y z = omega (arith, ints, square_not_negative x, square_not_negative z)

part_third : (x y z : ℤ) → (z *ℤ z) ≤ℤ ((x *ℤ x +ℤ y *ℤ y) +ℤ z *ℤ z)
part_third x y z = omega (arith, ints, square_not_negative x, square_not_negative y)

pub part_of : (a : List ℤ) (i : ℕ) (square : ℤ) → i < 3 → square ≡ dot a a → (at a i *ℤ at a i) ≤ℤ square
part_of a zero square l e = subst (λ (z : ℤ). (at a 0 *ℤ at a 0) ≤ℤ z) (sym e) (part_first (at a 0) (at a 1) (at a 2))
part_of a (suc zero) square l e = subst (λ (z : ℤ). (at a 1 *ℤ at a 1) ≤ℤ z) (sym e) (part_second (at a 0) (at a 1) (at a 2))
part_of a (suc (suc zero)) square l e = subst (λ (z : ℤ). (at a 2 *ℤ at a 2) ≤ℤ z) (sym e) (part_third (at a 0) (at a 1) (at a 2))
part_of a (suc (suc (suc k))) square l e = absurd (omega arith)

offset_component : (s : ℤ) (tip p : List ℤ) (i : ℕ) → i < 3 → at (offset_from s tip p) i ≡ s *ℤ at p i -ℤ at tip i
offset_component s tip p zero l = refl
offset_component s tip p (suc zero) l = refl
offset_component s tip p (suc (suc zero)) l = refl
offset_component s tip p (suc (suc (suc k))) l = absurd (omega arith)

-- no component is too small
pub component_small : (v : List ℤ) (i m : ℕ) → i < 3 → (unsigned_abs (at v 0) ≤ m) × (unsigned_abs (at v 1) ≤ m) × (unsigned_abs (at v 2) ≤ m) → unsigned_abs (at v i) ≤ m
component_small v zero m l h = h.0
component_small v (suc zero) m l h = h.1
component_small v (suc (suc zero)) m l h = h.2
component_small v (suc (suc (suc k))) m l h = absurd (omega arith)

pub near_of : (s moment square : ℤ) (tip p a : List ℤ) (i k : ℕ) → i < 3 → square ≡ dot a a
    → dot (cross (offset_from s tip p) a) (cross (offset_from s tip p) a) ≤ℤ (moment *ℤ moment) → (square -ℤ at a i *ℤ at a i) ≤ℤ pos (k * k)
    → unsigned_abs ((s *ℤ at p i -ℤ at tip i) *ℤ square -ℤ dot (offset_from s tip p) a *ℤ at a i) ≤ k * unsigned_abs moment
near_of s moment square tip p a i k l e beside narrow =
    let v = offset_from s tip p in
    subst (λ (z : ℤ). unsigned_abs ((s *ℤ at p i -ℤ at tip i) *ℤ z -ℤ dot v a *ℤ at a i) ≤ k * unsigned_abs moment) (sym e)
    (subst (λ (z : ℤ). unsigned_abs (z *ℤ dot a a -ℤ dot v a *ℤ at a i) ≤ k * unsigned_abs moment) (offset_component s tip p i l)
    (aside_below v a i k (unsigned_abs moment) l (subst (λ (z : ℤ). (z -ℤ at a i *ℤ at a i) ≤ℤ pos (k * k)) e narrow)
    (subst (λ (z : ℤ). dot (cross v a) (cross v a) ≤ℤ z) (sym (square_of_abs moment)) beside)))

-- offsets keep the order of places
offset_mono : (s t x y : ℤ) → pos 0 ≤ℤ s → x ≤ℤ y → (s *ℤ x -ℤ t) ≤ℤ (s *ℤ y -ℤ t)
offset_mono s t x y h l = omega (arith, ints, product_mono s x y h l, commuted s x, commuted s y) where
  commuted : (s x : ℤ) → s *ℤ x ≡ x *ℤ s
  commuted s x = omega (arith, ints)

pub offsets_among : (s : ℤ) (tip low high p : List ℤ) → pos 0 ≤ℤ s → IsAmong low high p → IsAmong (offset_from s tip low) (offset_from s tip high) (offset_from s tip p)
offsets_among s tip low high p some among = record {
  x = record { from_least = offset_mono s (at tip 0) (at low 0) (at p 0) some among.x.from_least; to_most = offset_mono s (at tip 0) (at p 0) (at high 0) some among.x.to_most };
  y = record { from_least = offset_mono s (at tip 1) (at low 1) (at p 1) some among.y.from_least; to_most = offset_mono s (at tip 1) (at p 1) (at high 1) some among.y.to_most };
  z = record { from_least = offset_mono s (at tip 2) (at low 2) (at p 2) some among.z.from_least; to_most = offset_mono s (at tip 2) (at p 2) (at high 2) some among.z.to_most };
}

-- a piece's own numbers give the offset from the tip in its middle
pub offset_is : (interval : SweepInterval) (m : SweepOf) (k S : ℕ) (p : List ℤ) → IsSweepInterval interval m k S → offset_from (pos interval.scale) interval.tip p ≡ middle_offset m p k S
offset_is interval m k S p of = ap (λ (s : ℕ). offset_from (pos s) interval.tip p) of.scale ∙ ap (λ (t : List ℤ). offset_from (pos (2 * S)) t p) of.tip

-- what an interval's bounds say of a point of its region
pub held_of : (interval : SweepInterval) (m : SweepOf) (k S : ℕ) (p : List ℤ) (least most moment : ℤ) → IsSweepInterval interval m k S → IsHeldOn least most moment (middle_offset m p k S) (middle_axis m k S)
    → IsHeldOn least most moment (offset_from (pos interval.scale) interval.tip p) interval.axis
held_of interval m k S p least most moment of held =
    subst (λ (v : List ℤ). IsHeldOn least most moment v interval.axis) (sym (offset_is interval m k S p of))
    (subst (λ (a : List ℤ). IsHeldOn least most moment (middle_offset m p k S) a) (sym of.axis) held)

pub beside_of : (interval : SweepInterval) (m : SweepOf) (k S : ℕ) (p side : List ℤ) (across : ℤ) → IsSweepInterval interval m k S → IsBeside side across (middle_offset m p k S) (middle_axis m k S)
    → IsBeside side across (offset_from (pos interval.scale) interval.tip p) interval.axis
beside_of interval m k S p side across of beside =
    subst (λ (v : List ℤ). IsBeside side across v interval.axis) (sym (offset_is interval m k S p of))
    (subst (λ (a : List ℤ). IsBeside side across (middle_offset m p k S) a) (sym of.axis) beside)

pub among_of : (interval : SweepInterval) (m : SweepOf) (k S : ℕ) (p low high from to : List ℤ) → IsSweepInterval interval m k S → from ≡ offset_from (pos interval.scale) interval.tip low → to ≡ offset_from (pos interval.scale) interval.tip high
    → IsAmong low high p → IsAmong from to (middle_offset m p k S)
among_of interval m k S p low high from to of from_is to_is among =
    subst (λ (v : List ℤ). IsAmong from to v) (offset_is interval m k S p of)
    (subst (λ (f : List ℤ). IsAmong f to (offset_from (pos interval.scale) interval.tip p)) (sym from_is)
    (subst (λ (t : List ℤ). IsAmong (offset_from (pos interval.scale) interval.tip low) t (offset_from (pos interval.scale) interval.tip p)) (sym to_is)
    (offsets_among (pos interval.scale) interval.tip low high p (omega (arith, ints)) among)))

-- a box with ends within those of another one lies in it
pub inner_range : (a b c d z : ℤ) → c ≤ℤ a → b ≤ℤ d → IsBetween a b z → IsBetween c d z
inner_range a b c d z h k l = let f = l.from_least in let t = l.to_most in record { from_least = omega (arith, ints, h, f); to_most = omega (arith, ints, k, t) }

-- what is in reach of two ends is in reach of what lies outside of both
pub near_start : (reach from to z first : ℤ) → first ≤ℤ from → first ≤ℤ to → is_near reach from to z ≡ true → (first -ℤ reach) ≤ℤ z
near_start reach from to z first a b h =
    ⊎_elim (λ l. omega (arith, ints, a, l)) (λ l. omega (arith, ints, b, l)) (near_either reach from to z ((decides_near reach from to z).0 h)).0

pub near_end : (reach from to z last : ℤ) → from ≤ℤ last → to ≤ℤ last → is_near reach from to z ≡ true → z ≤ℤ (last +ℤ reach)
near_end reach from to z last a b h =
    ⊎_elim (λ l. omega (arith, ints, a, l)) (λ l. omega (arith, ints, b, l)) (near_either reach from to z ((decides_near reach from to z).0 h)).1

-- reach is reach along each axis
pub reach_parts : (reach : ℤ) (from to p : List ℤ) → is_in_reach reach from to p ≡ true
    → (is_near reach (at from 0) (at to 0) (at p 0) ≡ true) × (is_near reach (at from 1) (at to 1) (at p 1) ≡ true) × (is_near reach (at from 2) (at to 2) (at p 2) ≡ true)
reach_parts reach from to p h =
    let x = is_near reach (at from 0) (at to 0) (at p 0) in let y = is_near reach (at from 1) (at to 1) (at p 1) in let z = is_near reach (at from 2) (at to 2) (at p 2) in
    let a = and_parts x (y && z) h in let b = and_parts y z a.1 in (a.0, b.0, b.1)
