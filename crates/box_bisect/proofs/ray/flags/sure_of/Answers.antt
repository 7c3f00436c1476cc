use Rattle.box_bisect.specs.Between.{is_removed_mark}
use Rattle.box_bisect.proofs.RayFlags.{flags_above}
use Rattle.box_bisect.proofs.ray.flags.sure_of.Goals as goal

pub push-requires-clause-above : goal.push-requires-clause-above
push-requires-clause-above c = flags_above is_removed_mark c.args.marks.now c.loop-l.set c.loop-l.l c.loop-l.invariant
