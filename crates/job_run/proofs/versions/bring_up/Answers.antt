use Rattle.std.proofs.Common.{length, sym, ap, subst}
use Rattle.std.specs.List.{All}
use Rattle.edit_plan.specs.Queries.{IsQuery}
use Rattle.job_model.specs.Tasks.{PlanOf}
use Rattle.turn_core.specs.World.{AreStrips}
use Rattle.strip_turns.specs.Passes.{card}
use Rattle.strip_turns.specs.declared.view.BoardStart.{BoardStart}
use Rattle.job_run.proofs.Brought.{brought_up, of_plan}
use Rattle.job_run.proofs.versions.bring_up.Goals as goal

pub new-requires : goal.new-requires
new-requires g c = of_plan c.args.plan c.requires.strips.job c.args.strips.items c.requires.strips.so

pub crew-requires-clause-queries : goal.crew-requires-clause-queries
crew-requires-clause-queries g c κs within =
    subst (λ (p : PlanOf). All (IsQuery p.grid (length p.edits)) c.args.queries.now) (sym c.in_ok-board.ensures.plan) c.requires.queries

pub returns-clause-strips : goal.returns-clause-strips
returns-clause-strips g c = λ job are.
    let board = c.in_ok-board.board in
    let named = c.in_ok-board.ensures.named in
    let put_in = subst (λ (k : BoardStart). AreStrips job k.strips) (sym named) are.strips_are in
    brought_up c.args.plan job (card board) c.crew.new.pass.seat.me.0 c.args.strips.items c.in_ok-strips.strips.items are
    (c.in_ok-strips.ensures.job job put_in) c.in_ok-strips.ensures.strips (ap (λ (k : BoardStart). k.plan) named)
    c.in_ok-answers.ensures.told.crew.seen

pub returns-clause-answers : goal.returns-clause-answers
returns-clause-answers g c = λ job are.
    c.in_ok-answers.ensures.told.answer job (subst (λ (k : BoardStart). AreStrips job k.strips) (sym c.in_ok-board.ensures.named) are.strips_are)
