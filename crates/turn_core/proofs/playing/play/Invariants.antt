use Rattle.std.proofs.Common.{◌≡◌, take}
use Rattle.job_model.specs.Tasks.{Job}
use Rattle.turn_core.specs.World.{AreOfPlan, AreStrips, AreStripsAt, after_steps, answers_to, versions_of}
use Rattle.turn_core.proofs.playing.play.Given as goal

abbrev pub invariant-loop-step : goal.invariant-loop-step
invariant-loop-step l = record {
  plan : AreOfPlan l.plan l.strips;
  strips : (job : Job) → AreStrips job l.initial.strips
      → AreStripsAt job l.strips (after_steps l.plan l.queries (versions_of l.initial.strips) (take l.step-index l.steps));
  answers : (job : Job) → AreStrips job l.initial.strips → l.answers.items ≡ answers_to job l.queries (take l.step-index l.steps);
}
