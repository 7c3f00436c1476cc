use Rattle.std.proofs.Common.{◌≡◌, ◌<◌, ◌-ℤ◌, ℕ, ℤ, pos, true, int_le, arith, subst, ap, ◌∙◌}
use Rattle.near_points.specs.Lines.{is_narrow_after}
use Rattle.near_points.specs.Trimmed.{IsPassedAfter}
use Rattle.near_points.proofs.Bits.{moment_bits, tilt_bits}
use Rattle.near_points.proofs.Curving.{bend_reckoned, rise_off, rise_reckoned, width_begins, width_off}
use Rattle.near_points.proofs.Leaving.{back_after}
use Rattle.near_points.proofs.Passing.{passed_by}
use Rattle.near_points.proofs.Stepping.{height_back, side_back}
use Rattle.near_points.proofs.Walking.{one_more_behind}
use Rattle.near_points.proofs.walk.last_kept.Goals as goal

pub overflow_mul-bend : goal.overflow_mul-bend
overflow_mul-bend c = let t = c.args.step.now in (bend_reckoned t.curve t.curve_small).fits

pub overflow_sub-rise : goal.overflow_sub-rise
overflow_sub-rise c = let t = c.args.step.now in (rise_reckoned t.curve c.slope.result t.curve_small c.slope.ensures.small).fits

pub loop-at-init : goal.loop-at-init
loop-at-init c =
    let t = c.args.step.now in let first = c.args.first.now in let r = c.after-to.result in
    let m = pos c.args.m in let order = c.requires.order in
    record {
      from = order;
      to = omega arith;
      height_is = moment_bits r.height r.height_small ∙ c.after-to.ensures.height;
      side_is = tilt_bits r.side r.side_small ∙ c.after-to.ensures.side;
      width_is = width_begins r first t m c.width-width.result c.after-to.ensures c.width-width.ensures;
      rise_is = (rise_reckoned t.curve c.slope.result t.curve_small c.slope.ensures.small).value
          ∙ ap (λ z. t.curve -ℤ z) c.slope.ensures.value ∙ back_after r first t m c.after-to.ensures;
      behind = λ x from to. absurd (omega arith);
    }

pub overflow_add-width : goal.overflow_add-width
overflow_add-width c =
    let at = c.loop-at.at in let inv = c.loop-at.invariant in let some : 0 < at = omega (arith, c.loop-at-test.true) in
    (width_off c.args.first.now c.args.step.now _ _ at (c.requires.fits at inv.from inv.to) inv.width_is inv.rise_is some).fits

pub overflow_add-rise : goal.overflow_add-rise
overflow_add-rise c =
    let at = c.loop-at.at in let inv = c.loop-at.invariant in let some : 0 < at = omega (arith, c.loop-at-test.true) in
    (rise_off c.args.first.now c.args.step.now _ at (c.requires.fits at inv.from inv.to) inv.rise_is some).fits

pub overflow_sub-height : goal.overflow_sub-height
overflow_sub-height c =
    let at = c.loop-at.at in let inv = c.loop-at.invariant in let some : 0 < at = omega (arith, c.loop-at-test.true) in
    (height_back c.args.first.now c.args.step.now _ at (c.requires.fits at inv.from inv.to) inv.height_is some).fits

pub overflow_sub-side : goal.overflow_sub-side
overflow_sub-side c =
    let at = c.loop-at.at in let inv = c.loop-at.invariant in let some : 0 < at = omega (arith, c.loop-at-test.true) in
    (side_back c.args.first.now c.args.step.now _ at (c.requires.fits at inv.from inv.to) inv.side_is some).fits

pub after-to-requires : goal.after-to-requires
after-to-requires c = c.requires.fits c.args.m c.requires.order (omega arith)

pub returns-then-not-is_passed-clause-behind : goal.returns-then-not-is_passed-clause-behind
returns-then-not-is_passed-clause-behind c = c.loop-at.invariant.behind

pub returns-then-not-is_passed-clause-there : goal.returns-then-not-is_passed-clause-there
returns-then-not-is_passed-clause-there c =
    subst (λ (w : ℤ). int_le w c.args.test.now.square ≡ true) c.loop-at.invariant.width_is (c.is_passed.ensures.kept c.if-not-is_passed.true)

pub returns-clause-behind : goal.returns-clause-behind
returns-clause-behind c = c.loop-at.invariant.behind

pub returns-clause-there : goal.returns-clause-there
returns-clause-there c =
    let e : c.args.l ≡ c.loop-at.at = omega (arith, c.loop-at.invariant.from, c.loop-at-test.false) in
    subst (λ (x : ℕ). is_narrow_after c.args.test.now c.args.first.now c.args.step.now (pos x) ≡ true) e c.requires.narrow

pub loop-at-preserved : goal.loop-at-preserved
loop-at-preserved c =
    let t = c.args.step.now in let first = c.args.first.now in let test = c.args.test.now in let bands = c.args.bands.now in
    let at = c.loop-at.at in let inv = c.loop-at.invariant in let fits = c.requires.fits at inv.from inv.to in
    let some : 0 < at = omega (arith, c.loop-at-test.true) in
    let here = passed_by test bands first t (pos at) _ _ _ inv.height_is inv.side_is inv.width_is
    (c.is_passed.ensures.passed c.if-not-is_passed.false) in
    record {
      from = omega (arith, c.loop-at-test.true);
      to = omega (arith, inv.to);
      height_is = (height_back first t _ at fits inv.height_is some).value;
      side_is = (side_back first t _ at fits inv.side_is some).value;
      width_is = (width_off first t _ _ at fits inv.width_is inv.rise_is some).value;
      rise_is = (rise_off first t _ at fits inv.rise_is some).value;
      behind = one_more_behind (λ (x : ℕ). IsPassedAfter test bands first t (pos x)) at c.args.m inv.behind here;
    }
