use Rattle.std.proofs.Common.{ℕ, ◌<◌, List, [], ◌∷◌, length, arith, ap, ◌∙◌}
use Rattle.std.proofs.lemmas.Option.{slice_get-get_or}
use Rattle.edit_plan.specs.Edits.{left_of}
use Rattle.job_report.specs.declared.facts.Found.{Found}
use Rattle.job_run.proofs.Listed.{rows_more, told_row}
use Rattle.job_run.proofs.facts.rows.Goals as goal

pub loop-j-preserved : goal.loop-j-preserved
loop-j-preserved c = λ plan told.
    let left = c.args.left.now in
    let counts = c.args.counts.now in
    let numbers : List ℕ = left_of plan.edits in
    let j = c.loop-j.j in
    let lt : j < length left = omega arith in
    let row = ap (λ (r : Found). r ∷ []) c.found_of.ensures ∙ told_row plan left j _ _ told (slice_get-get_or left j _ lt) in
    rows_more plan numbers counts j 0 _ c.found_of.result c.loop-j.found.items c.push.new.self.items (c.requires.many ∙ told.all.many)
    (omega (arith, told.all.many)) (c.loop-j.invariant plan told) row c.in_ok-push.ensures.items
