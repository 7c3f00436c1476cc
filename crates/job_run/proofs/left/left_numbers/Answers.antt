use Rattle.std.proofs.Common.{◌≤◌, All, length, arith, sym, ap, ◌∙◌, subst}
use Rattle.std.proofs.lemmas.List.{take_all}
use Rattle.std.proofs.lemmas.List.Elements.{All-more}
use Rattle.std.proofs.lemmas.Option.{get_or_from_slice_get, slice_get_within}
use Rattle.edit_plan.specs.Edits.{AppliesBelow, MoveLists, lists_after}
use Rattle.job_report.specs.Tasks.{IsBelow}
use Rattle.job_run.specs.Left.{lists_with}
use Rattle.job_report.proofs.Named.{left_named, lists_more}
use Rattle.job_run.proofs.left.left_numbers.Goals as goal

pub loop-version-preserved : goal.loop-version-preserved
loop-version-preserved c =
    let edits = c.args.plan.now.edits in
    let moves = length c.args.plan.now.moves in
    let v = c.loop-version.version in
    let edit = c.edit.result in
    let at = c.edit.ensures.edit in
    let named = subst (AppliesBelow moves) (sym (get_or_from_slice_get edits v edit edit at)) c.edit.ensures.named in (
      lists_more edits v edit (lists_with c.loop-version.left.items c.loop-version.dropped.items)
          (lists_with c.take_edit.new.left.items c.take_edit.new.dropped.items) at c.loop-version.invariant.0 c.in_ok-take_edit.ensures,
      All-more (AppliesBelow moves) edits v edit (slice_get_within edits v edit at) c.loop-version.invariant.1 named,
    )

pub returns-clause-named : goal.returns-clause-named
returns-clause-named c =
    let edits = c.args.plan.now.edits in
    let moves = length c.args.plan.now.moves in
    let count = c.edits-version-end.ensures.count in
    let all : length edits ≤ c.loop-version.version = omega (arith, count) in
    let whole = take_all c.loop-version.version edits all in
    let left = ap (λ (l : MoveLists). l.left) (c.loop-version.invariant.0 ∙ ap lists_after whole) in
    subst (All (IsBelow moves)) (sym left) (left_named moves edits (subst (All (AppliesBelow moves)) whole c.loop-version.invariant.1))

pub returns-clause-left : goal.returns-clause-left
returns-clause-left c =
    let edits = c.args.plan.now.edits in
    let count = c.edits-version-end.ensures.count in
    let all : length edits ≤ c.loop-version.version = omega (arith, count) in
    ap (λ (l : MoveLists). l.left) (c.loop-version.invariant.0 ∙ ap lists_after (take_all c.loop-version.version edits all))
