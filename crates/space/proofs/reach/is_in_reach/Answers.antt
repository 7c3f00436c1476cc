use Rattle.std.proofs.Common.{rules}
use Rattle.space.proofs.reach.is_in_reach.Goals as goal
use Rattle.space.proofs.reach.is_in_reach.Goals.{then-is_near, else-is_near}

pub returns-then-is_near-2 : goal.returns-then-is_near-2
returns-then-is_near-2 c = elim c.if-is_near.branch [ then-is_near w ↦ search rules | else-is_near w ↦ search rules ]

pub returns-else-is_near-2 : goal.returns-else-is_near-2
returns-else-is_near-2 c = elim c.if-is_near.branch [ then-is_near w ↦ search rules | else-is_near w ↦ search rules ]
