use Rattle.std.proofs.Common.{◌≡◌, ◌≤◌, ◌<◌, ◌+ℤ◌, ◌≤ℤ◌, ◌<ℤ◌, ℕ, ℤ, pos, true, int_le, arith, ⊎_elim, subst, ap, ◌∙◌}
use Rattle.std.proofs.lemmas.Bool.{cases_lt}
use Rattle.near_points.specs.Trimmed.{IsPassedAfter}
use Rattle.near_points.proofs.Bits.{moment_bits, tilt_bits}
use Rattle.near_points.proofs.Curving.{bend_reckoned, growth_on, growth_reckoned, width_begins, width_on}
use Rattle.near_points.proofs.Leaving.{growth_after}
use Rattle.near_points.proofs.Passing.{passed_by, passed_on}
use Rattle.near_points.proofs.Stepping.{height_on, side_on}
use Rattle.near_points.proofs.Walking.{each_ahead}
use Rattle.near_points.proofs.walk.first_kept.Goals as goal

pub after-from-requires : goal.after-from-requires
after-from-requires c = c.requires.fits c.args.l (omega arith) c.requires.order

pub overflow_add-growth : goal.overflow_add-growth
overflow_add-growth c = let t = c.args.step.now in (growth_reckoned t.curve c.slope.result t.curve_small c.slope.ensures.small).fits

pub overflow_mul-bend : goal.overflow_mul-bend
overflow_mul-bend c = let t = c.args.step.now in (bend_reckoned t.curve t.curve_small).fits

pub loop-at-init : goal.loop-at-init
loop-at-init c =
    let t = c.args.step.now in let first = c.args.first.now in let r = c.after-from.result in
    let l = pos c.args.l in let order = c.requires.order in
    record {
      from = omega arith;
      to = omega (arith, order);
      height_is = moment_bits r.height r.height_small ∙ c.after-from.ensures.height;
      side_is = tilt_bits r.side r.side_small ∙ c.after-from.ensures.side;
      width_is = width_begins r first t l c.width-width.result c.after-from.ensures c.width-width.ensures;
      growth_is = (growth_reckoned t.curve c.slope.result t.curve_small c.slope.ensures.small).value
          ∙ ap (λ z. t.curve +ℤ z) c.slope.ensures.value ∙ growth_after r first t l c.after-from.ensures;
      ahead = λ x from to. absurd (omega arith);
    }

pub overflow_add-height : goal.overflow_add-height
overflow_add-height c =
    let at = c.loop-at.at in let inv = c.loop-at.invariant in
    (height_on c.args.first.now c.args.step.now _ at (c.requires.fits at inv.from c.loop-at-test.true) inv.height_is).fits

pub overflow_add-side : goal.overflow_add-side
overflow_add-side c =
    let at = c.loop-at.at in let inv = c.loop-at.invariant in
    (side_on c.args.first.now c.args.step.now _ at (c.requires.fits at inv.from c.loop-at-test.true) inv.side_is).fits

pub overflow_add-width : goal.overflow_add-width
overflow_add-width c =
    let at = c.loop-at.at in let inv = c.loop-at.invariant in let fits = c.requires.fits at inv.from c.loop-at-test.true in
    (width_on c.args.first.now c.args.step.now _ _ at fits inv.width_is inv.growth_is).fits

pub overflow_add-growth-in-loop-at : goal.overflow_add-growth-in-loop-at
overflow_add-growth-in-loop-at c =
    let at = c.loop-at.at in let inv = c.loop-at.invariant in let fits = c.requires.fits at inv.from c.loop-at-test.true in
    (growth_on c.args.first.now c.args.step.now _ at fits inv.growth_is).fits

pub returns-then-not-is_passed-clause-there : goal.returns-then-not-is_passed-clause-there
returns-then-not-is_passed-clause-there c = λ within.
    subst (λ (w : ℤ). int_le w c.args.test.now.square ≡ true) c.loop-at.invariant.width_is (c.is_passed.ensures.kept c.if-not-is_passed.true)

pub returns-clause-there : goal.returns-clause-there
returns-clause-there c = λ within. let after = c.loop-at-test.false in absurd (omega (arith, within, after))

pub returns-then-not-is_passed-clause-ahead : goal.returns-then-not-is_passed-clause-ahead
returns-then-not-is_passed-clause-ahead c = λ x from to less. c.loop-at.invariant.ahead x from less

pub returns-clause-ahead : goal.returns-clause-ahead
returns-clause-ahead c = λ x from to less. c.loop-at.invariant.ahead x from less

pub returns-then-is_leaving-clause-ahead : goal.returns-then-is_leaving-clause-ahead
returns-then-is_leaving-clause-ahead c = λ x from to less.
    let t = c.args.step.now in let first = c.args.first.now in let test = c.args.test.now in
    let at = c.loop-at.at in let inv = c.loop-at.invariant in
    let far = subst (λ (z : ℤ). test.square <ℤ z) inv.width_is (c.is_leaving.ensures.far c.if-is_leaving.true) in
    let growing = subst (λ (z : ℤ). pos 0 ≤ℤ z) inv.growth_is (c.is_leaving.ensures.growing c.if-is_leaving.true) in
    ⊎_elim (λ (before : x < at). inv.ahead x from before)
    (λ (on : at ≤ x). passed_on test c.args.bands.now first t at x on far growing) (cases_lt x at)

pub loop-at-preserved : goal.loop-at-preserved
loop-at-preserved c =
    let t = c.args.step.now in let first = c.args.first.now in let test = c.args.test.now in let bands = c.args.bands.now in
    let at = c.loop-at.at in let inv = c.loop-at.invariant in let fits = c.requires.fits at inv.from c.loop-at-test.true in
    let here = passed_by test bands first t (pos at) _ _ _ inv.height_is inv.side_is inv.width_is
    (c.is_passed.ensures.passed c.if-not-is_passed.false) in
    record {
      from = omega (arith, inv.from);
      to = omega (arith, c.loop-at-test.true);
      height_is = (height_on first t _ at fits inv.height_is).value;
      side_is = (side_on first t _ at fits inv.side_is).value;
      width_is = (width_on first t _ _ at fits inv.width_is inv.growth_is).value;
      growth_is = (growth_on first t _ at fits inv.growth_is).value;
      ahead = each_ahead (λ (x : ℕ). IsPassedAfter test bands first t (pos x)) c.args.l at inv.ahead here;
    }
