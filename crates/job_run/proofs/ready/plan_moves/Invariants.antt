use Rattle.std.proofs.Common.{◌≡◌, take, drop, map, None}
use Rattle.move_cutters.specs.Cutters.{first_low}
use Rattle.job_inputs.specs.Tasks.{job_move, tool_defaults}
use Rattle.job_run.proofs.ready.plan_moves.Given as goal

abbrev pub invariant-loop-next : goal.invariant-loop-next
invariant-loop-next l = record {
  made : l.made.items ≡ map (job_move l.tool) (take l.next-index l.moves);
  high : first_low (tool_defaults l.tool) (drop l.next-index l.moves) ≡ None;
}
