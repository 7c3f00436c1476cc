-- The moves that are left are moves of the plan, where each edit applies one of its moves.
use Rattle.std.proofs.Common.{◌≡◌, ℕ, ◌+◌, ◌-◌, All, List, [], ◌∷◌, Some, length, take, sym, ap, ◌∙◌}
use Rattle.std.specs.List.{fold, slice_get}
use Rattle.std.proofs.lemmas.List.Elements.{All-append, All-drop, All-head, All-nil, All-push, All-tail, All-take}
use Rattle.std.proofs.lemmas.List.Sums.{fold_more}
use Rattle.std.proofs.lemmas.Option.{get_or_from_slice_get, slice_get_within}
use Rattle.edit_plan.specs.declared.edit.Edit.{Edit}
use Rattle.edit_plan.specs.declared.edit.Edit.TheVariants.{Apply, Undo, Redo}
use Rattle.edit_plan.specs.Edits.{AppliesBelow, MoveLists, after_edit, last_alone, left_of, lists_after, no_lists}
use Rattle.job_report.specs.Tasks.{IsBelow}

-- each number of both lists is below this one
record AreNamed (moves : ℕ) (lists : MoveLists) : Type 0 where
  left : All (IsBelow moves) lists.left
  dropped : All (IsBelow moves) lists.dropped

step : (moves : ℕ) (lists : MoveLists) (edit : Edit) → AppliesBelow moves edit → AreNamed moves lists
    → AreNamed moves (after_edit lists edit)
step moves lists (Apply number) below named = record {
  left = All-push (IsBelow moves) lists.left number named.left below;
  dropped = All-nil (IsBelow moves);
}
step moves lists Undo below named = record {
  left = All-take (IsBelow moves) (length lists.left - 1) lists.left named.left;
  dropped = All-append (IsBelow moves) lists.dropped (last_alone lists.left) named.dropped
      (All-drop (IsBelow moves) (length lists.left - 1) lists.left named.left);
}
step moves lists Redo below named = record {
  left = All-append (IsBelow moves) lists.left (last_alone lists.dropped) named.left
      (All-drop (IsBelow moves) (length lists.dropped - 1) lists.dropped named.dropped);
  dropped = All-take (IsBelow moves) (length lists.dropped - 1) lists.dropped named.dropped;
}

steps : (moves : ℕ) (lists : MoveLists) (edits : List Edit) → All (AppliesBelow moves) edits → AreNamed moves lists
    → AreNamed moves (fold after_edit lists edits)
steps moves lists [] below named = named
steps moves lists (edit ∷ edits) below named =
    steps moves (after_edit lists edit) edits (All-tail (AppliesBelow moves) edit edits below)
    (step moves lists edit (All-head (AppliesBelow moves) edit edits below) named)

pub left_named : (moves : ℕ) (edits : List Edit) → All (AppliesBelow moves) edits → All (IsBelow moves) (left_of edits)
left_named moves edits below =
    (steps moves no_lists edits below (record { left = All-nil (IsBelow moves); dropped = All-nil (IsBelow moves) })).left

-- the lists after one edit more
pub lists_more : (edits : List Edit) (version : ℕ) (edit : Edit) (before after : MoveLists) → slice_get edits version ≡ Some edit
    → before ≡ lists_after (take version edits) → after ≡ after_edit before edit → after ≡ lists_after (take (version + 1) edits)
lists_more edits version edit before after at is next =
    let lt = slice_get_within edits version edit at in
    next ∙ ap (λ (l : MoveLists). after_edit l edit) is
    ∙ ap (after_edit (lists_after (take version edits))) (sym (get_or_from_slice_get edits version edit edit at))
    ∙ sym (fold_more after_edit no_lists edits version edit lt)
