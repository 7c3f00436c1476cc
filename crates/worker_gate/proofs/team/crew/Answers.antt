use Rattle.std.proofs.Common.{ap, length, Ok, ◌∙◌}
use Rattle.ray_grid.specs.Strips.{strips_of}
use Rattle.strip_turns.specs.Cards.{last}
use Rattle.strip_turns.specs.Passes.{card}
use Rattle.worker_gate.proofs.Crewing.{crewed_by, crews_alone, stopped_by, stopped_late, stopped_none}
use Rattle.worker_gate.proofs.team.crew.Goals as goal

pub returns-in_default-clause-told : goal.returns-in_default-clause-told
returns-in_default-clause-told g c =
    stopped_none c.args.workers c.args.pass.now.seat.me.0 c.hire.new.pass.seat.me.0 (ap (λ p. p.seat.me.0) c.in_default.ensures.kept)

pub returns-then-short-clause-told : goal.returns-then-short-clause-told
returns-then-short-clause-told g c =
    let e = c.ask_beside-answers.ensures in
    stopped_by (card c.args.board.now) c.args.queries.now c.ask_beside-answers.result.0 c.args.workers _ c.merge_all-short.result
    c.args.pass.now.seat.me.0 c.hire.new.pass.seat.me.0 c.ask_beside-answers.new.pass.seat.me.0 c.merge_all-short.new.pass.seat.me.0
    c.in-Ok.ensures.split e.told c.merge_all-short.ensures.merged (e.worked.many ∙ c.in-Ok.ensures.fresh.1)
    c.merge_all-short.ensures.out c.requires.ready.alone.out

pub returns-in_default-finish-clause-told : goal.returns-in_default-finish-clause-told
returns-in_default-finish-clause-told g c =
    let b = c.args.board.now in
    let e = c.ask_beside-answers.ensures in
    let before = stopped_by (card b) c.args.queries.now c.ask_beside-answers.result.0 c.args.workers _ c.merge_all-short.result
    c.args.pass.now.seat.me.0 c.hire.new.pass.seat.me.0 c.ask_beside-answers.new.pass.seat.me.0 c.merge_all-short.new.pass.seat.me.0
    c.in-Ok.ensures.split e.told c.merge_all-short.ensures.merged (e.worked.many ∙ c.in-Ok.ensures.fresh.1)
    c.merge_all-short.ensures.out c.requires.ready.alone.out in
    stopped_late (card b) c.args.workers (last (card b)) 0 (length (strips_of (card b).plan.grid)) _ _ _ before
    c.in_default-finish.ensures.told

pub returns-clause-told : goal.returns-clause-told
returns-clause-told g c =
    let e = c.ask_beside-answers.ensures in
    crewed_by (card c.args.board.now) c.args.queries.now c.ask_beside-answers.result.0 c.in-Ok-answers.answers c.args.workers _
    c.merge_all-short.result c.args.pass.now.seat.me.0 c.hire.new.pass.seat.me.0 c.ask_beside-answers.new.pass.seat.me.0
    c.merge_all-short.new.pass.seat.me.0 c.finish.new.pass.seat.me.0 c.requires.workers.0 c.requires.ready.alone
    c.in-Ok.ensures.split e.told c.in-Ok-answers.is c.merge_all-short.ensures.merged (e.worked.many ∙ c.in-Ok.ensures.fresh.1)
    c.if-short.false c.merge_all-short.ensures.out c.in-Ok-finish.ensures.told

pub returns-clause-alone : goal.returns-clause-alone
returns-clause-alone g c =
    crews_alone (card c.args.board.now) c.args.queries.now c.args.workers (Ok c.in-Ok-answers.answers) _ _ (returns-clause-told g c) c.requires.ready.alone

pub merge_all-short-requires-clause-pass : goal.merge_all-short-requires-clause-pass
merge_all-short-requires-clause-pass g c = c.ask_beside-answers.ensures.pass

pub finish-requires : goal.finish-requires
finish-requires g c = record { pass = c.merge_all-short.ensures.pass }

pub returns-in_default-answers-clause-told : goal.returns-in_default-answers-clause-told
returns-in_default-answers-clause-told g c =
    let e = c.ask_beside-answers.ensures in
    stopped_by (card c.args.board.now) c.args.queries.now c.ask_beside-answers.result.0 c.args.workers _ c.merge_all-short.result
    c.args.pass.now.seat.me.0 c.hire.new.pass.seat.me.0 c.ask_beside-answers.new.pass.seat.me.0 c.merge_all-short.new.pass.seat.me.0
    c.in-Ok.ensures.split e.told c.merge_all-short.ensures.merged (e.worked.many ∙ c.in-Ok.ensures.fresh.1)
    c.merge_all-short.ensures.out c.requires.ready.alone.out
