use Rattle.std.proofs.Common.{arith, ap, subst, ◌∙◌, ◌+◌, ℕ, length, ◌≡◌}
use Rattle.std.specs.Option.{IfSome}
use Rattle.std.proofs.lemmas.List.Elements.{All-pop}
use Rattle.std.proofs.lemmas.Grind.{common_steps}
use Rattle.strip_turns.specs.Passes.{card}
use Rattle.worker_gate.specs.Workers.{IsDone}
use Rattle.worker_gate.specs.Crew.{Merged}
use Rattle.worker_gate.proofs.Merging.{merged_none, merged_more}
use Rattle.worker_gate.proofs.Teams.{pop_len, team_pop, team_none}
use Rattle.worker_gate.proofs.team.merge_all.Goals as goal

pub loop-worker-init : goal.loop-worker-init
loop-worker-init c =
    let none = merged_none (card c.args.board.now) c.args.pass.now.seat.me.0 in
    (c.requires.pass, c.requires.first, c.requires.done, c.requires.team, (0, omega arith, none))

pub merge-requires-clause-other : goal.merge-requires-clause-other
merge-requires-clause-other c =
    let b = c.args.board.now in
    let popped = All-pop (IsDone b) _ _ _ c.pop.ensures.items c.loop-worker.invariant.2.each in
    let done : IsDone b c.in-Some.worker = subst (λ x. IfSome x (IsDone b)) c.in-Some.is popped.1 in done.pass

pub loop-worker-preserved : goal.loop-worker-preserved
loop-worker-preserved c =
    let b = c.args.board.now in
    let inv = c.loop-worker.invariant in
    let popped = All-pop (IsDone b) _ _ _ c.pop.ensures.items inv.2.each in
    let done : IsDone b c.in-Some.worker = subst (λ x. IfSome x (IsDone b)) c.in-Some.is popped.1 in
    let m = inv.4 in
    let one_less = pop_len _ _ _ c.in-Some.worker c.pop.ensures.items c.in-Some.is in
    let merged = merged_more b m.0 c.loop-worker.short c.any_short-short.result _ _ _ c.in-Some.worker m.2 done
    c.merge.ensures.joined c.any_short-short.ensures in (
      c.merge.ensures.pass,
      ap (λ z. z.first) c.merge.ensures.joined ∙ inv.1,
      record { each = popped.0 },
      team_pop _ _ _ _ _ c.in-Some.worker inv.3 c.pop.ensures.items c.in-Some.is c.merge.ensures.joined,
      (m.0 + 1, omega (arith, m.1, one_less), merged),
    )

pub returns-clause-out : goal.returns-clause-out
returns-clause-out c =
    let none_left : length c.loop-worker.team.items ≡ 0 = grind (arith, common_steps, c.in_default.ensures.cases, c.pop.ensures.cases) in
    team_none c.loop-worker.pass.seat.me.0 c.loop-worker.team.items c.loop-worker.invariant.3 none_left

pub returns-clause-pass : goal.returns-clause-pass
returns-clause-pass c = c.loop-worker.invariant.0

pub returns-clause-merged : goal.returns-clause-merged
returns-clause-merged c =
    let none_left : length c.loop-worker.team.items ≡ 0 = grind (arith, common_steps, c.in_default.ensures.cases, c.pop.ensures.cases) in
    let m = c.loop-worker.invariant.4 in
    let all : m.0 ≡ length c.args.team.items = omega (arith, m.1, none_left) in
    subst (λ (n : ℕ). Merged (card c.args.board.now) n c.loop-worker.short c.args.pass.now.seat.me.0 c.loop-worker.pass.seat.me.0) all m.2
