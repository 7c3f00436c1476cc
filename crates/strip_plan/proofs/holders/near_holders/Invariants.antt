use Rattle.strip_plan.specs.Holders.{AreNear}
use Rattle.strip_plan.proofs.holders.near_holders.Given as goal

abbrev pub invariant-loop-n : goal.invariant-loop-n
invariant-loop-n l = AreNear l.moves l.hulls l.near.moves.items l.near.places.items l.n
