use Rattle.std.proofs.Common.{◌+◌, ◌*◌, ◌≤◌, length, arith, rules, subst, sym}
use Rattle.std.specs.List.{AllWithin}
use Rattle.std.specs.Option.{IfSome}
use Rattle.strip_plan.specs.Untouched.{AreGroups, IsAppliedIn}
use Rattle.strip_plan.proofs.Grouped.{group_more, in_place}
use Rattle.strip_plan.proofs.untouched.groups_of.Goals as goal

pub loop-number-preserved : goal.loop-number-preserved
loop-number-preserved c =
    let hulls = c.args.hulls.now in
    let edits = c.args.edits.now in
    let groups = c.loop-number.groups.items in
    let n = c.loop-number.number in
    let next = c.group_of.result in
    let low = c.loop-number-test.true in
    let within : n * 8 + 8 ≤ length edits = omega (arith, low) in
    let here = subst (λ i. IfSome next (λ group. AllWithin (IsAppliedIn hulls group) edits (8 * i) (8 * i + 8))) (sym c.loop-number.invariant.many)
    (in_place hulls edits next n within c.group_of.ensures) in
    let more = group_more hulls edits groups next c.loop-number.invariant.groups here in
    record {
      many = search rules;
      groups = subst (AreGroups hulls edits) (sym c.in_ok-push.ensures.items) more;
    }
