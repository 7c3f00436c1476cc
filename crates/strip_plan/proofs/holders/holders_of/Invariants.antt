use Rattle.std.proofs.Common.{◌≡◌, map, take}
use Rattle.job_model.specs.Holders.{holder_move}
use Rattle.strip_plan.proofs.holders.holders_of.Given as goal

abbrev pub invariant-loop-n : goal.invariant-loop-n
invariant-loop-n l = l.made.items ≡ map (holder_move l.holder) (take l.n l.moves)
