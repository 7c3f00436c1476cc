use Rattle.std.proofs.Common.{◌≡◌, drop}
use Rattle.move_cutters.specs.Cutters.{first_low}
use Rattle.move_cutters.proofs.cutters.low_cutter.Given as goal

abbrev pub invariant-loop-next : goal.invariant-loop-next
invariant-loop-next l = first_low l.defaults (drop l.next-index l.moves) ≡ first_low l.defaults l.moves
