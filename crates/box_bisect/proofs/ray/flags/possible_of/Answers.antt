use Rattle.box_bisect.specs.RayMarks.{is_possible_mark}
use Rattle.box_bisect.proofs.RayFlags.{flags_above}
use Rattle.box_bisect.proofs.ray.flags.possible_of.Goals as goal

pub push-requires-clause-above : goal.push-requires-clause-above
push-requires-clause-above c = flags_above is_possible_mark c.args.marks.now c.loop-l.set c.loop-l.l c.loop-l.invariant
