use Rattle.box_bisect.specs.declared.compare.Side.TheVariants.{Above}
use Rattle.width_bisect.proofs.Sides.{AreOn}
use Rattle.width_bisect.proofs.compare.all_above.Given as goal

abbrev pub invariant-loop-i : goal.invariant-loop-i
invariant-loop-i l = AreOn Above l.form l.limit l.raised l.i
