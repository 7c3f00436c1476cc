use Rattle.std.proofs.Common.{FitsSigned, pos, rules}
use Rattle.std.proofs.lemmas.Int.{to_z-of_z}
use mir.Syntax.{w64}
use Rattle.near_points.proofs.Bits.{opposite_reckoned}
use Rattle.near_points.proofs.Moving.{step_moves}
use Rattle.near_points.proofs.Told.{beside_both, beyond_both, beyond_by}
use Rattle.near_points.proofs.scan.are_all_beyond.Goals as goal

pub moved-low-requires : goal.moved-low-requires
moved-low-requires c = (step_moves c.args.first.now c.args.step.now (pos c.args.l) c.requires.from).height.passed

pub moved-high-requires : goal.moved-high-requires
moved-high-requires c = (step_moves c.args.first.now c.args.step.now (pos c.args.m) c.requires.to).height.passed

pub tilted-left-requires : goal.tilted-left-requires
tilted-left-requires c = (step_moves c.args.first.now c.args.step.now (pos c.args.l) c.requires.from).side.passed

pub tilted-right-requires : goal.tilted-right-requires
tilted-right-requires c = (step_moves c.args.first.now c.args.step.now (pos c.args.m) c.requires.to).side.passed

pub overflow_sub-test : goal.overflow_sub-test
overflow_sub-test c =
    let test = c.args.test.now in let fc : FitsSigned w64 test.across = search rules in
    (opposite_reckoned test.across fc test.across_some).fits

pub returns-then-are_beyond : goal.returns-then-are_beyond
returns-then-are_beyond c = λ yes x from to.
    let test = c.args.test.now in let first = c.args.first.now in let step = c.args.step.now in
    let l = c.args.l in let m = c.args.m in
    let low = (step_moves first step (pos l) c.requires.from).height.value c.moved-low.result c.moved-low.ensures in
    let high = (step_moves first step (pos m) c.requires.to).height.value c.moved-high.result c.moved-high.ensures in
    let fl : FitsSigned w64 test.least = search rules in let fm : FitsSigned w64 test.most = search rules in
    let least = to_z-of_z w64 test.least fl in let most = to_z-of_z w64 test.most fm in
    beyond_both test first step _ _ l x m (beyond_by _ _ _ _ _ _ least most (c.are_beyond.ensures c.if-are_beyond.true)) low high from to

pub returns : goal.returns
returns c = λ yes x from to.
    let test = c.args.test.now in let first = c.args.first.now in let step = c.args.step.now in
    let l = c.args.l in let m = c.args.m in
    let left = (step_moves first step (pos l) c.requires.from).side.value c.tilted-left.result c.tilted-left.ensures in
    let right = (step_moves first step (pos m) c.requires.to).side.value c.tilted-right.result c.tilted-right.ensures in
    let fc : FitsSigned w64 test.across = search rules in
    let least = (opposite_reckoned test.across fc test.across_some).value in let most = to_z-of_z w64 test.across fc in
    beside_both test first step _ _ l x m (beyond_by _ _ _ _ _ _ least most (c.are_beyond-2.ensures yes)) left right from to
