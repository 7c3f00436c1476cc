use Rattle.std.proofs.Common.{◌≡◌, ◌≤◌, ◌≤ℤ◌, ◌<ℤ◌, ◌-ℤ◌, ◌*ℤ◌, ◌*◌, ◌^◌, ℤ, pos, to_z, of_z, unsigned_abs, FitsSigned, arith, rules, subst, sym, ◌∙◌}
use Rattle.std.proofs.lemmas.Int.{ints, to_z-of_z}
use mir.Syntax.{w64, w128}
use borrow.Author.Differences.{abs_is}
use Rattle.sweep_boxes.specs.Intervals.{offset_from}
use Rattle.sweep_boxes.proofs.Banded.{on_unused}
use Rattle.sweep_boxes.proofs.Stepped.{on_band}
use Rattle.space.proofs.Words.{fits_of, kept_small, kept_some}
use Rattle.sweep_boxes.proofs.Words.{not_below, same64, small_up_to}
use Rattle.sweep_boxes.proofs.bands.band_at.Goals as goal

twice_fits : (height_slack : ℤ) → unsigned_abs height_slack ≤ 3 * 10 ^ 18 → FitsSigned w128 (pos 2 *ℤ height_slack)
twice_fits height_slack h = omega (arith, ints, h, abs_is height_slack)

less_fits : (rise height_slack : ℤ) → unsigned_abs rise ≤ 10 ^ 18 → unsigned_abs height_slack ≤ 3 * 10 ^ 18 → FitsSigned w128 (rise -ℤ height_slack)
less_fits rise height_slack h k = omega (arith, ints, h, k, abs_is rise, abs_is height_slack)

moment_small : (z : ℤ) → unsigned_abs z ≤ 3 * 10 ^ 18 → unsigned_abs z ≤ 4 * 10 ^ 18
moment_small z h = omega (arith, h)

less_small : (rise height_slack : ℤ) → unsigned_abs rise ≤ 10 ^ 18 → unsigned_abs height_slack ≤ 3 * 10 ^ 18 → unsigned_abs (rise -ℤ height_slack) ≤ 4 * 10 ^ 18
less_small rise height_slack h k = omega (arith, ints, h, k, abs_is rise, abs_is height_slack, abs_is (rise -ℤ height_slack))

pub overflow_mul-band_terms : goal.overflow_mul-band_terms
overflow_mul-band_terms c =
    let l : FitsSigned w128 c.args.band_terms.now.height_slack = search rules in
    let fits = twice_fits c.args.band_terms.now.height_slack c.args.band_terms.now.height_slack_small in
    simp to_z-of_z fits

pub overflow_sub-rise : goal.overflow_sub-rise
overflow_sub-rise c =
    let rise = c.rise_of-rise in let band_terms = c.args.band_terms.now in
    let f = fits_of rise.result rise.type_inv in let l : FitsSigned w128 band_terms.height_slack = search rules in
    simp to_z-of_z (less_fits rise.result band_terms.height_slack rise.ensures.small band_terms.height_slack_small)

pub short-requires : goal.short-requires
short-requires c =
    let rise = c.rise_of-rise in let band_terms = c.args.band_terms.now in
    let f = fits_of rise.result rise.type_inv in let l : FitsSigned w128 band_terms.height_slack = search rules in
    let d = less_fits rise.result band_terms.height_slack rise.ensures.small band_terms.height_slack_small in
    simp to_z-of_z (less_small rise.result band_terms.height_slack rise.ensures.small band_terms.height_slack_small)

pub across_at-across-requires : goal.across_at-across-requires
across_at-across-requires c =
    let half = c.half_of-half in
    record {
      some = kept_some half.result half.type_inv half.ensures.some;
      small = not_below (pos (5 * 10 ^ 16)) (to_z w128 (of_z w128 half.result)) c.if-half-gt50000000000000000.false;
    }

pub moment_at-requires : goal.moment_at-requires
moment_at-requires c =
    let half = c.half_of-half in
    record {
      some = kept_some half.result half.type_inv half.ensures.some;
      small = not_below (pos (5 * 10 ^ 16)) (to_z w128 (of_z w128 half.result)) c.if-half-gt50000000000000000.false;
    }

pub short-requires-2 : goal.short-requires-2
short-requires-2 c = kept_small c.moment_at.result (4 * 10 ^ 18) c.moment_at.type_inv (moment_small c.moment_at.result c.moment_at.ensures.small)

pub short-requires-3 : goal.short-requires-3
short-requires-3 c =
    let across = c.across_at-across in
    small_up_to (to_z w128 (of_z w128 across.result)) (4 * 10 ^ 18) (kept_some across.result across.type_inv across.ensures.some) c.if-across-gt4000000000000000000.false

pub invariant_of-result : goal.invariant_of-result
invariant_of-result c =
    let moment = c.moment_at in let across = c.across_at-across in
    let m = same64 c.short-2.result moment.result c.short-2.type_inv moment.type_inv c.short-2.ensures in
    let a = same64 c.short-3.result across.result c.short-3.type_inv across.type_inv c.short-3.ensures in
    record {
      moment_some = subst (λ (z : ℤ). pos 0 ≤ℤ z) (sym m) moment.ensures.some;
      moment_small = subst (λ (z : ℤ). unsigned_abs z ≤ 3 * 10 ^ 18) (sym m) moment.ensures.small;
      across_some = subst (λ (z : ℤ). pos 0 ≤ℤ z) (sym a) across.ensures.some;
    }

pub returns : goal.returns
returns c m k S slabs side far p of band_terms step near left above =
    let interval = c.args.interval.now in let begin = c.args.step.now.begin in let widest = c.args.step.now.widest in let height_slack = c.args.band_terms.now.height_slack in
    let rise = c.rise_of-rise.result in let half = c.half_of-half.result in let moment = c.moment_at.result in let across = c.across_at-across.result in
    let f0 : FitsSigned w128 height_slack = search rules in
    let f1 : FitsSigned w128 rise = search rules in
    let f2 : FitsSigned w128 half = search rules in
    let f3 : FitsSigned w128 moment = search rules in
    let f4 : FitsSigned w128 across = search rules in
    let x : FitsSigned w64 c.short.result = search rules in
    let y : FitsSigned w64 c.short-2.result = search rules in
    let z : FitsSigned w64 c.short-3.result = search rules in
    let t = twice_fits height_slack c.args.band_terms.now.height_slack_small in
    let d = less_fits rise height_slack c.rise_of-rise.ensures.small c.args.band_terms.now.height_slack_small in
    let higher = simp to_z-of_z at c.if-rise-band_terms.false in
    let room : (pos 2 *ℤ height_slack) <ℤ rise = omega (arith, ints, higher) in
    let height : c.short.result ≡ rise -ℤ height_slack = simp to_z-of_z at c.short.ensures in
    let wide = c.half_of-half.ensures.value side far band_terms in
    let grown = (simp to_z-of_z at c.moment_at.ensures.value) interval widest side far band_terms wide in
    let spread = (simp to_z-of_z at c.across_at-across.ensures.value) interval widest side far band_terms wide in
    on_band interval m k S slabs p _ begin widest height_slack c.args.band_terms.now.shortest rise moment across side far of step left near band_terms.height_slack grown spread band_terms.shortest
    c.args.step.now.begin_some c.rise_of-rise.ensures.value room
    (to_z-of_z w64 c.short.result x ∙ height)
    (to_z-of_z w64 c.short-2.result y ∙ c.short-2.ensures ∙ to_z-of_z w128 moment f3)
    (to_z-of_z w64 c.short-3.result z ∙ c.short-3.ensures ∙ to_z-of_z w128 across f4)

-- one that isn't used
pub returns-then-rise-band_terms : goal.returns-then-rise-band_terms
returns-then-rise-band_terms c = λ m k S slabs side far p made band_terms step near left above.
    let interval = c.args.interval.now in
    on_unused c.unused.result c.args.least side (offset_from (pos interval.scale) interval.tip p) interval.axis
    (c.unused.ensures ∙ to_z-of_z w64 c.args.least c.ranges.least) above

pub returns-then-across-gt4000000000000000000 : goal.returns-then-across-gt4000000000000000000
returns-then-across-gt4000000000000000000 c = λ m k S slabs side far p made band_terms step near left above.
    let interval = c.args.interval.now in let unused = c.unused-then-across-gt4000000000000000000 in
    on_unused unused.result c.args.least side (offset_from (pos interval.scale) interval.tip p) interval.axis
    (unused.ensures ∙ to_z-of_z w64 c.args.least c.ranges.least) above
