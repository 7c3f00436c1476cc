use Rattle.std.proofs.Common.{arith, false, [], None}
use Rattle.std.proofs.lemmas.Grind.{common_steps}
use Rattle.job_inputs.specs.Tasks.{tool_defaults}
use Rattle.move_cutters.proofs.Highs.{high_behind}
use Rattle.job_run.proofs.Highs.{high_here}
use Rattle.job_run.proofs.ready.plan_moves.Goals as goal

pub loop-next-preserved : goal.loop-next-preserved
loop-next-preserved c = record {
  made = grind (arith, common_steps);
  high = high_behind (tool_defaults c.args.tool.now) c.args.moves.now c.loop-next.next-index record { line = 0; rapid = false; from = []; to = []; axis_from = []; axis_to = []; cutter = None } c.loop-next-test.true c.loop-next.invariant.high;
}

pub plan_move-requires-clause-tool : goal.plan_move-requires-clause-tool
plan_move-requires-clause-tool c = c.requires.tool

pub plan_move-requires-clause-valid : goal.plan_move-requires-clause-valid
plan_move-requires-clause-valid c = c.requires.valid c.loop-next.next-index record { line = 0; rapid = false; from = []; to = []; axis_from = []; axis_to = []; cutter = None } c.loop-next-test.true

pub plan_move-requires-clause-high : goal.plan_move-requires-clause-high
plan_move-requires-clause-high c = high_here (tool_defaults c.args.tool.now) c.args.moves.now c.loop-next.next-index record { line = 0; rapid = false; from = []; to = []; axis_from = []; axis_to = []; cutter = None } c.loop-next-test.true c.loop-next.invariant.high

pub loop-next-init : goal.loop-next-init
loop-next-init c = record { made = c.in_ok-made.ensures.items; high = c.requires.high }
