-- What is done in the slot is what a turn does on the strip that lies there.
use Rattle.std.proofs.Common.{ℕ, ◌≡◌, ◌+◌, length, min, Result, Ok, Err, IfOk, IfErr, rules}
use Rattle.job_model.specs.Tasks.{PlanOf}
use Rattle.strip_journal.specs.Strips.{StripOf}
use Rattle.turn_core.specs.Turns.{IsRaised, IsStopped}
use Rattle.strip_turns.specs.Passes.{Worked}
use Rattle.strip_turns.proofs.turn.turn_slot.Goals as goal

-- a turn's two answers say how far it came
worked : (plan : PlanOf) (before after : StripOf) (result : Result (ℕ × ℕ) (ℕ × ℕ))
    → IfOk result (λ turn. (turn.0 ≡ before.done) × (turn.1 ≡ after.done) × IsRaised before after (min (before.done + 8) (length plan.edits)))
    → IfErr result (λ turn. (turn.0 ≡ before.done) × (turn.1 ≡ after.done) × IsStopped before after (min (before.done + 8) (length plan.edits)))
    → Worked plan before after result
worked plan before after (Ok turn) ok err = ok
worked plan before after (Err turn) ok err = err

pub returns : goal.returns
returns c = rw c.in-Some.is (search (rules, worked))
