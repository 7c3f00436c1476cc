use Rattle.strip_plan.specs.Boxed.{HasBoxes}
use Rattle.strip_plan.proofs.boxes.boxes_of.Given as goal

abbrev pub invariant-loop-n : goal.invariant-loop-n
invariant-loop-n l = HasBoxes l.grid l.cutters.slabs l.depth l.moves l.made.hulls.items l.made.boxes.items l.made.starts.items l.n
