use Rattle.std.proofs.Common.{◌≡◌, ◌<◌, ℕ, pos, true, false, arith, subst, sym, ◌∙◌}
use Rattle.near_points.specs.Lines.{is_amid_after}
use Rattle.near_points.proofs.Moving.{step_moves}
use Rattle.near_points.proofs.Stepping.{amid_by, height_back, side_back}
use Rattle.near_points.proofs.Walking.{one_behind}
use Rattle.near_points.proofs.scan.last_amid.Goals as goal

pub moved-height-requires : goal.moved-height-requires
moved-height-requires c =
    let m = c.args.m in let fits = c.requires.fits m c.requires.order (omega arith) in
    (step_moves c.args.first.now c.args.step.now (pos m) fits).height.passed

pub tilted-side-requires : goal.tilted-side-requires
tilted-side-requires c =
    let m = c.args.m in let fits = c.requires.fits m c.requires.order (omega arith) in
    (step_moves c.args.first.now c.args.step.now (pos m) fits).side.passed

pub loop-at-init : goal.loop-at-init
loop-at-init c =
    let m = c.args.m in let fits = c.requires.fits m c.requires.order (omega arith) in
    let moves = step_moves c.args.first.now c.args.step.now (pos m) fits in record {
      from = c.requires.order;
      to = omega arith;
      height_is = moves.height.value c.moved-height.result c.moved-height.ensures;
      side_is = moves.side.value c.tilted-side.result c.tilted-side.ensures;
      behind = λ x from to. absurd (omega (arith, from, to));
    }

pub overflow_sub-height : goal.overflow_sub-height
overflow_sub-height c =
    let at = c.loop-at.at in let inv = c.loop-at.invariant in let some : 0 < at = omega (arith, c.loop-at-test.true) in
    (height_back c.args.first.now c.args.step.now _ at (c.requires.fits at inv.from inv.to) inv.height_is some).fits

pub overflow_sub-side : goal.overflow_sub-side
overflow_sub-side c =
    let at = c.loop-at.at in let inv = c.loop-at.invariant in let some : 0 < at = omega (arith, c.loop-at-test.true) in
    (side_back c.args.first.now c.args.step.now _ at (c.requires.fits at inv.from inv.to) inv.side_is some).fits

pub loop-at-preserved : goal.loop-at-preserved
loop-at-preserved c =
    let t = c.args.step.now in let first = c.args.first.now in let test = c.args.test.now in
    let at = c.loop-at.at in let inv = c.loop-at.invariant in let fits = c.requires.fits at inv.from inv.to in
    let some : 0 < at = omega (arith, c.loop-at-test.true) in
    let here : is_amid_after test first t (pos at) ≡ false =
    sym (amid_by test first t (pos at) _ _ c.has_place.result c.has_place.ensures inv.height_is inv.side_is) ∙ c.if-has_place.false in
    record {
      from = omega (arith, c.loop-at-test.true);
      to = omega (arith, inv.to);
      height_is = (height_back first t _ at fits inv.height_is some).value;
      side_is = (side_back first t _ at fits inv.side_is some).value;
      behind = one_behind (λ (x : ℕ). is_amid_after test first t (pos x)) at c.args.m inv.behind here;
    }

pub returns-clause-there : goal.returns-clause-there
returns-clause-there c =
    let e : c.args.l ≡ c.loop-at.at = omega (arith, c.loop-at.invariant.from, c.loop-at-test.false) in
    subst (λ (x : ℕ). is_amid_after c.args.test.now c.args.first.now c.args.step.now (pos x) ≡ true) e c.requires.amid

pub returns-then-has_place-clause-there : goal.returns-then-has_place-clause-there
returns-then-has_place-clause-there c =
    let inv = c.loop-at.invariant in
    sym (amid_by c.args.test.now c.args.first.now c.args.step.now (pos c.loop-at.at) _ _ c.has_place.result c.has_place.ensures inv.height_is inv.side_is)
    ∙ c.if-has_place.true
