use Rattle.std.proofs.Common.{inl, refl}
use Rattle.strip_plan.proofs.holders.take_in.Goals as goal

pub returns-then-is_empty : goal.returns-then-is_empty
returns-then-is_empty c = inl (c.in_ok-push.ensures.items, refl, c.is_empty.ensures c.if-is_empty.true)
