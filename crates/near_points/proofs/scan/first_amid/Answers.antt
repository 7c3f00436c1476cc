use Rattle.std.proofs.Common.{◌≡◌, ℕ, pos, false, arith, sym, ◌∙◌}
use Rattle.near_points.specs.Lines.{is_amid_after}
use Rattle.near_points.proofs.Moving.{step_moves}
use Rattle.near_points.proofs.Stepping.{amid_by, height_on, side_on}
use Rattle.near_points.proofs.Walking.{one_ahead}
use Rattle.near_points.proofs.scan.first_amid.Goals as goal

pub moved-height-requires : goal.moved-height-requires
moved-height-requires c =
    let l = c.args.l in let fits = c.requires.fits l (omega arith) c.requires.order in
    (step_moves c.args.first.now c.args.step.now (pos l) fits).height.passed

pub tilted-side-requires : goal.tilted-side-requires
tilted-side-requires c =
    let l = c.args.l in let fits = c.requires.fits l (omega arith) c.requires.order in
    (step_moves c.args.first.now c.args.step.now (pos l) fits).side.passed

pub loop-at-init : goal.loop-at-init
loop-at-init c =
    let l = c.args.l in let fits = c.requires.fits l (omega arith) c.requires.order in
    let moves = step_moves c.args.first.now c.args.step.now (pos l) fits in record {
      from = omega arith;
      to = let order = c.requires.order in omega (arith, order);
      height_is = moves.height.value c.moved-height.result c.moved-height.ensures;
      side_is = moves.side.value c.tilted-side.result c.tilted-side.ensures;
      ahead = λ x from to. absurd (omega (arith, from, to));
    }

pub overflow_add-height : goal.overflow_add-height
overflow_add-height c =
    let at = c.loop-at.at in let inv = c.loop-at.invariant in
    (height_on c.args.first.now c.args.step.now _ at (c.requires.fits at inv.from c.loop-at-test.true) inv.height_is).fits

pub overflow_add-side : goal.overflow_add-side
overflow_add-side c =
    let at = c.loop-at.at in let inv = c.loop-at.invariant in
    (side_on c.args.first.now c.args.step.now _ at (c.requires.fits at inv.from c.loop-at-test.true) inv.side_is).fits

pub loop-at-preserved : goal.loop-at-preserved
loop-at-preserved c =
    let t = c.args.step.now in let first = c.args.first.now in let test = c.args.test.now in
    let at = c.loop-at.at in let inv = c.loop-at.invariant in let fits = c.requires.fits at inv.from c.loop-at-test.true in
    let here : is_amid_after test first t (pos at) ≡ false =
    sym (amid_by test first t (pos at) _ _ c.has_place.result c.has_place.ensures inv.height_is inv.side_is) ∙ c.if-has_place.false in
    record {
      from = omega (arith, inv.from);
      to = omega (arith, c.loop-at-test.true);
      height_is = (height_on first t _ at fits inv.height_is).value;
      side_is = (side_on first t _ at fits inv.side_is).value;
      ahead = one_ahead (λ (x : ℕ). is_amid_after test first t (pos x)) c.args.l at inv.ahead here;
    }

pub returns-then-has_place-clause-there : goal.returns-then-has_place-clause-there
returns-then-has_place-clause-there c = λ within.
    let inv = c.loop-at.invariant in
    sym (amid_by c.args.test.now c.args.first.now c.args.step.now (pos c.loop-at.at) _ _ c.has_place.result c.has_place.ensures inv.height_is inv.side_is)
    ∙ c.if-has_place.true
