use Rattle.std.proofs.Common.{◌≡◌, ◌*◌, ◌/◌, ◌<◌, ⊎_elim, arith, length}
use Rattle.std.proofs.lemmas.Bool.{cases_lt}
use Rattle.strip_plan.proofs.Grouped.{one_alone}
use Rattle.strip_plan.proofs.untouched.count_untouched.Goals as goal

pub loop-at-preserved-then-is_group_untouched : goal.loop-at-preserved-then-is_group_untouched
loop-at-preserved-then-is_group_untouched c =
    let at = c.loop-at.at in
    let inv = c.loop-at.invariant in
    let after = inv.after in
    let even = c.if-at-eq0.true in
    let room = c.if-to-at-ge-GROUP.true in
    let before = inv.before in
    let first : 8 * (at / 8) ≡ at = omega (arith, even) in
    let eight = c.is_group_untouched.ensures c.args.hulls.now c.args.edits.now c.requires.groups c.if-is_group_untouched.true in
    record {
      after = omega (arith, after);
      before = omega (arith, room, before);
      alone = λ k d ge lt.
          ⊎_elim (λ less. inv.alone k d ge less) (λ most. eight k d (omega (arith, first, most)) (omega (arith, first, lt))) (cases_lt k at);
    }

pub loop-at-init : goal.loop-at-init
loop-at-init c = record { after = omega arith; before = c.requires.order; alone = λ k d ge lt. absurd (omega (arith, ge, lt)) }

pub loop-at-preserved : goal.loop-at-preserved
loop-at-preserved c =
    let at = c.loop-at.at in
    let inv = c.loop-at.invariant in
    let after = inv.after in
    let low = c.loop-at-test.true in
    let end = c.requires.within in
    let within : at < length c.args.edits.now = omega (arith, low, end) in
    record {
      after = omega (arith, after);
      before = omega (arith, low);
      alone = one_alone c.args.hulls.now c.args.edits.now c.args.family c.args.i c.args.from at _ inv.alone within (c.is_untouched.ensures c.if-is_untouched.true);
    }

pub returns-clause-alone : goal.returns-clause-alone
returns-clause-alone c k d ge lt = let after = c.loop-at.invariant.after in c.loop-at.invariant.alone k d ge (omega (arith, lt, after))
