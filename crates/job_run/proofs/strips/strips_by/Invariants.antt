use Rattle.job_run.specs.Strips.{AreFrom}
use Rattle.job_run.proofs.strips.strips_by.Given as goal

abbrev pub invariant-loop-number : goal.invariant-loop-number
invariant-loop-number g l =
    AreFrom record { plan = l.plan; stock = l.stock.solid.value; part = l.part.solid.value; fixture = l.fixture.solid.value } 0 l.from l.number l.strips.items
