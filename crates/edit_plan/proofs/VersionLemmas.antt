-- From one version to the next: for the crates above, which keep what one edit changes.
use Rattle.std.proofs.Common.{◌≡◌, ℕ, zero, suc, ◌+◌, ◌<◌, List, [], ◌∷◌, true, length, take, get_or, add-one, arith, refl}
use Rattle.std.specs.List.{fold}
use Rattle.edit_plan.specs.Edits.{MoveLists, after_edit, all_find, are_sound, finds, lists_after, no_lists}
use Rattle.edit_plan.specs.declared.edit.Edit.{Edit}
use Rattle.edit_plan.proofs.ListLemmas.{both_true}

fold-next : (lists : MoveLists) (edits : List Edit) (version : ℕ) (none : Edit) → version < length edits
    → fold after_edit lists (take (suc version) edits) ≡ after_edit (fold after_edit lists (take version edits)) (get_or edits version none)
fold-next lists [] version none within = absurd (omega (arith, within))
fold-next lists (edit ∷ edits) zero none within = refl
fold-next lists (edit ∷ edits) (suc version) none within = fold-next (after_edit lists edit) edits version none (omega (arith, within))

-- the lists of a version are those of the one before after its edit
pub lists_after-next : (edits : List Edit) (version : ℕ) (none : Edit) → version < length edits
    → lists_after (take (version + 1) edits) ≡ after_edit (lists_after (take version edits)) (get_or edits version none)
lists_after-next edits version none within = rw add-one (fold-next no_lists edits version none within)

find_at : (lists : MoveLists) (edits : List Edit) (version : ℕ) (none : Edit) → version < length edits → all_find lists edits ≡ true
    → finds (fold after_edit lists (take version edits)) (get_or edits version none) ≡ true
find_at lists [] version none within find = absurd (omega (arith, within))
find_at lists (edit ∷ edits) zero none within find = (both_true (finds lists edit) (all_find (after_edit lists edit) edits) find).0
find_at lists (edit ∷ edits) (suc version) none within find =
    find_at (after_edit lists edit) edits version none (omega (arith, within)) (both_true (finds lists edit) (all_find (after_edit lists edit) edits) find).1

-- each edit of sound edits finds what it takes at its version
pub finds-version : (edits : List Edit) (version : ℕ) (none : Edit) → version < length edits → are_sound edits ≡ true
    → finds (lists_after (take version edits)) (get_or edits version none) ≡ true
finds-version edits version none within sound = find_at no_lists edits version none within sound
