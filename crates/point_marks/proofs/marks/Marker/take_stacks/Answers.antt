-- The stacks that are kept are of the cutter whose numbers theirs equal.
use Rattle.std.proofs.Common.{◌≡◌, true, pos, ◌&&◌, eqb, rules, sym, ◌∙◌}
use Rattle.std.specs.Ordering.{int_eq}
use Rattle.cutter_slabs.specs.Cutter.{CutterSize}
use Rattle.point_marks.proofs.marks.Marker.take_stacks.Goals as goal

same_size : (a b : CutterSize)
    → (int_eq (pos a.d) (pos b.d) && (int_eq (pos a.r) (pos b.r) && (int_eq (pos a.h) (pos b.h) && (eqb a.flank b.flank && int_eq (pos a.base) (pos b.base))))) ≡ true → a ≡ b
same_size a b same = search rules

pub returns-clause-cutter : goal.returns-clause-cutter
returns-clause-cutter c =
    sym c.cutter.ensures ∙ same_size c.cutter.result c.args.cutter (sym c.eq.ensures ∙ c.if-eq.true)
