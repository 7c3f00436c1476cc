use Rattle.std.proofs.Common.{◌≤◌, ◌<◌, ◌≤ℤ◌, ◌+◌, ◌-◌, ◌*◌, ◌/◌, ℕ, ℤ, pos, length, arith, rules, subst, sym}
use Rattle.std.proofs.lemmas.Int.{to_z-of_z}
use Rattle.std.proofs.Math.Nat.{mul-le-mul}
use mir.Syntax.{w64}
use Rattle.space.specs.Vectors.{dot}
use Rattle.sweep_boxes.specs.Intervals.{offset_from}
use Rattle.sweep_boxes.proofs.bands.band_of.Goals as goal

-- a place that is n eighths of the way through a stack
place_within : (n l : ℕ) → n < 8 → 2 ≤ l → 1 + n * (l - 1) / 8 < l
place_within n l few several =
    let some : n ≤ 7 = omega (arith, few) in let rest : l - 1 ≤ l - 1 = omega arith in
    let part : n * (l - 1) ≤ 7 * (l - 1) = mul-le-mul some rest in
    omega (arith, part, several)

seventh_part : (n l : ℕ) → n < 8 → n * (l - 1) ≤ 7 * (l - 1)
seventh_part n l few =
    let some : n ≤ 7 = omega (arith, few) in let rest : l - 1 ≤ l - 1 = omega arith in
    mul-le-mul some rest

pub step_at-requires : goal.step_at-requires
step_at-requires c = record {
  rising = c.requires.rising;
  after = after_some (c.args.number * (length c.args.slabs.now - 1) / 8);
  within = place_within c.args.number (length c.args.slabs.now) c.requires.number c.requires.several;
} where
  after_some : (n : ℕ) → 0 < 1 + n
  after_some n = omega arith

pub overflow_sub-place : goal.overflow_sub-place
overflow_sub-place c = some_of (length c.args.slabs.now) c.requires.several where
  some_of : (l : ℕ) → 2 ≤ l → 1 ≤ l
  some_of l h = omega (arith, h)

pub returns : goal.returns
returns c m k S side far p of band_terms near left above =
    c.band_at.ensures m k S c.args.slabs.now side far p of band_terms c.step_at.ensures near left
    (subst (λ (z : ℤ). z ≤ℤ dot (offset_from (pos c.args.interval.now.scale) c.args.interval.now.tip p) c.args.interval.now.axis) (sym (to_z-of_z w64 c.args.least c.ranges.least)) above)

pub overflow_mul-place : goal.overflow_mul-place
overflow_mul-place c =
    let part = seventh_part c.args.number (length c.args.slabs.now) c.requires.number in
    search rules

pub overflow_add-place : goal.overflow_add-place
overflow_add-place c =
    let within = place_within c.args.number (length c.args.slabs.now) c.requires.number c.requires.several in
    search rules
