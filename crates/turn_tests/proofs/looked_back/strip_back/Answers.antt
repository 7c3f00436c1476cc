-- The strip is of the plan: as it is made, after the edits, and on the way back.
use Rattle.std.proofs.Common.{◌≡◌, ◌<◌, List, Some, length, arith, sym, ap, ◌∙◌}
use Rattle.std.specs.Prelude.{slice_get}
use Rattle.std.proofs.lemmas.Option.{slice_get-get_or}
use Rattle.strip_journal.specs.LookedBack.{LookedBackOf}
use Rattle.turn_tests.proofs.looked_back.strip_back.Goals as goal

pub raise-requires-clause-plan : goal.raise-requires-clause-plan
raise-requires-clause-plan c =
    let made = c.in_ok-made.made.items in
    let low : c.args.number < length made = omega (arith, c.requires, c.in_ok-made.ensures.many) in
    c.in_ok-made.ensures.plans c.args.number c.swap_remove-strip.result
    (slice_get-get_or made c.args.number c.swap_remove-strip.result low ∙ ap Some (sym c.swap_remove-strip.ensures.value))

pub returns : goal.returns
returns c =
    let made = c.in_ok-made.made.items in
    let low : c.args.number < length made = omega (arith, c.requires, c.in_ok-made.ensures.many) in
    let before = c.in_ok-made.ensures.plans c.args.number c.swap_remove-strip.result
    (slice_get-get_or made c.args.number c.swap_remove-strip.result low ∙ ap Some (sym c.swap_remove-strip.ensures.value)) in
    ap (λ (b : LookedBackOf). b.job.plan) c.look_back.ensures ∙ ap (λ j. j.plan) c.in_ok-raise.ensures.ok.job ∙ before
