use Rattle.std.proofs.Common.{◌+◌, subst, sym}
use Rattle.cl_records.proofs.FieldLemmas.{Commas, Commas-comma, Commas-other}
use Rattle.cl_records.proofs.field.count_fields.Goals as goal
use Rattle.cl_records.proofs.field.count_fields.Goals.{then-b-eq44, else-b-eq44}

pub loop-b-preserved : goal.loop-b-preserved
loop-b-preserved c =
    let text = c.args.text.now in
    let i = c.loop-b.b-index in
    elim c.if-b-eq44.branch [
      | then-b-eq44 w ↦ subst (Commas text (i + 1)) (sym w.commas-is) (Commas-comma text i c.loop-b.commas c.loop-b-test.true w.if-b-eq44.true c.loop-b.invariant)
      | else-b-eq44 w ↦ subst (Commas text (i + 1)) (sym w.commas-is) (Commas-other text i c.loop-b.commas c.loop-b-test.true w.if-b-eq44.false c.loop-b.invariant)
    ]
