use Rattle.std.proofs.Common.{◌≡◌, ◌++◌, ◌-◌, List, arith, ap, ◌∙◌}
use Rattle.edit_plan.specs.Edits.{applied_moves, left_of, no_lists}
use Rattle.edit_plan.specs.declared.edit.Edit.{Edit}
use Rattle.edit_plan.proofs.ListLemmas.{left-applied}
use Rattle.edit_plan.proofs.SoundLemmas.{whole-sound}
use Rattle.edit_plan.proofs.script.whole_script.Goals as goal

pub returns-clause-sound : goal.returns-clause-sound
returns-clause-sound c =
    let none : c.args.moves - 0 ≡ c.args.moves = omega arith in
    let pushed : c.push_moves.new.self ≡ applied_moves 0 c.args.moves =
    c.in_ok-push_moves.ensures.ok ∙ ap (λ (edits : List Edit). edits ++ applied_moves 0 (c.args.moves - 0)) c.new-edits.ensures ∙ ap (λ count. applied_moves 0 count) none in
    λ grid. rw (pushed, c.new.ensures) (whole-sound c.args.moves grid (omega (arith, c.requires)))

pub returns-clause-left : goal.returns-clause-left
returns-clause-left c =
    let none : c.args.moves - 0 ≡ c.args.moves = omega arith in
    let pushed : c.push_moves.new.self ≡ applied_moves 0 c.args.moves =
    c.in_ok-push_moves.ensures.ok ∙ ap (λ (edits : List Edit). edits ++ applied_moves 0 (c.args.moves - 0)) c.new-edits.ensures ∙ ap (λ count. applied_moves 0 count) none in
    ap left_of pushed ∙ left-applied no_lists 0 c.args.moves
