-- The lists of moves that are left and dropped, as edits come.
use Rattle.std.proofs.Common.{◌≡◌, ℕ, zero, suc, ◌+◌, ◌-◌, ◌<◌, ◌≤◌, ◌&&◌, nat_lt, List, [], ◌∷◌, ◌++◌, Bool, true, false, length, replicate, append_assoc, append-nil, length-append, length-take, length-drop, arith, refl, sym, ap, ◌∙◌}
use Rattle.std.specs.List.{fold, range_with_len}
use Rattle.std.proofs.lemmas.Bool.{lt-ltb}
use Rattle.std.proofs.lemmas.List.FromFn.{length-map-range_with_len, map-range_with_len_more}
use Rattle.std.proofs.lemmas.List.Sums.{fold-append}
use Rattle.edit_plan.specs.declared.edit.Edit.{Edit}
use Rattle.edit_plan.specs.declared.edit.Edit.TheVariants.{Apply, Undo, Redo}
use Rattle.edit_plan.specs.Edits.{MoveLists, after_edit, all_but_last, all_find, applied_moves, are_sound, dropped_of, finds, last_alone, left_of, lists_after, no_lists}

-- both tests hold where one and the other does
pub both_true : (a b : Bool) → (a && b) ≡ true → (a ≡ true) × (b ≡ true)
both_true true true e = (refl, refl)
both_true true false e = cc
both_true false b e = cc

-- the moves up to the next one
pub applied_more : (first number : ℕ) → first ≤ number → applied_moves first (number + 1 - first) ≡ applied_moves first (number - first) ++ Apply number ∷ []
applied_more first number above =
    let one : number + 1 - first ≡ (number - first) + 1 = omega arith in
    ap (λ count. applied_moves first count) one ∙ map-range_with_len_more (λ n. Apply n) first (number - first) number (omega arith)

pub length-applied : (first count : ℕ) → length (applied_moves first count) ≡ count
length-applied first count = length-map-range_with_len (λ n. Apply n) first count

-- both lists after more edits
pub lists_after-append : (edits more : List Edit) → lists_after (edits ++ more) ≡ fold after_edit (lists_after edits) more
lists_after-append edits more = fold-append after_edit no_lists edits more

find_both : (a b c : Bool) → a ≡ true → (b && c) ≡ ((a && b) && c)
find_both a b c e = rw e refl

all_find-append : (lists : MoveLists) (edits more : List Edit) → all_find lists (edits ++ more) ≡ (all_find lists edits && all_find (fold after_edit lists edits) more)
all_find-append lists [] more = refl
all_find-append lists (edit ∷ edits) more =
    elim (finds lists edit) as (λ t. (t && all_find (after_edit lists edit) (edits ++ more)) ≡ ((t && all_find (after_edit lists edit) edits) && all_find (fold after_edit (after_edit lists edit) edits) more)) [
      | true ↦ all_find-append (after_edit lists edit) edits more
      | false ↦ refl
    ]

-- edits stay sound where more edits find what they take
pub are_sound-append : (edits more : List Edit) → are_sound edits ≡ true → all_find (lists_after edits) more ≡ true → are_sound (edits ++ more) ≡ true
are_sound-append edits more sound find = all_find-append no_lists edits more ∙ rw (sound, find) refl

-- Apply finds what it takes
pub all_find-applied : (lists : MoveLists) (first count : ℕ) → all_find lists (applied_moves first count) ≡ true
all_find-applied lists first zero = refl
all_find-applied lists first (suc count) = all_find-applied (after_edit lists (Apply first)) (first + 1) count

-- the moves that are left are those that were applied after those that were left
pub left-applied : (lists : MoveLists) (first count : ℕ) → (fold after_edit lists (applied_moves first count)).left ≡ lists.left ++ range_with_len first count
left-applied lists first zero = sym (append-nil lists.left)
left-applied lists first (suc count) =
    left-applied (after_edit lists (Apply first)) (first + 1) count ∙ append_assoc lists.left (first ∷ []) (range_with_len (first + 1) count)

dropped-none : (lists : MoveLists) (first count : ℕ) → lists.dropped ≡ [] → (fold after_edit lists (applied_moves first count)).dropped ≡ []
dropped-none lists first zero none = none
dropped-none lists first (suc count) none = dropped-none (after_edit lists (Apply first)) (first + 1) count refl

-- none is dropped any more
pub dropped-applied : (lists : MoveLists) (first count : ℕ) → 0 < count → (fold after_edit lists (applied_moves first count)).dropped ≡ []
dropped-applied lists first zero some = absurd (omega (arith, some))
dropped-applied lists first (suc count) some = dropped-none (after_edit lists (Apply first)) (first + 1) count refl

length-last : (xs : List ℕ) → 0 < length xs → length (last_alone xs) ≡ 1
length-last xs some = simp length-drop (omega arith)

length-but_last : (xs : List ℕ) → 0 < length xs → length (all_but_last xs) + 1 ≡ length xs
length-but_last xs some = omega (arith, length-take (length xs - 1) xs)

-- one more move is undone
undo_one : (lists : MoveLists) → 0 < length lists.left → (length (after_edit lists Undo).left + 1 ≡ length lists.left) × (length (after_edit lists Undo).dropped ≡ length lists.dropped + 1)
undo_one lists some =
    (length-but_last lists.left some, length-append lists.dropped (last_alone lists.left) ∙ ap (λ n. length lists.dropped + n) (length-last lists.left some))

redo_one : (lists : MoveLists) → 0 < length lists.dropped → (length (after_edit lists Redo).dropped + 1 ≡ length lists.dropped) × (length (after_edit lists Redo).left ≡ length lists.left + 1)
redo_one lists some =
    (length-but_last lists.dropped some, length-append lists.left (last_alone lists.dropped) ∙ ap (λ n. length lists.left + n) (length-last lists.dropped some))

-- `times` moves were undone: what was found, and how many are left and dropped
pub record Undone (lists after : MoveLists) (times : ℕ) (found : Bool) : Type 0 where
  pub found_all : found ≡ true
  pub left_count : length after.left + times ≡ length lists.left
  pub dropped_count : length after.dropped ≡ length lists.dropped + times

pub undone : (lists : MoveLists) (times : ℕ) → times ≤ length lists.left → Undone lists (fold after_edit lists (replicate times Undo)) times (all_find lists (replicate times Undo))
undone lists zero few = record { found_all = refl; left_count = omega arith; dropped_count = omega arith }
undone lists (suc times) few =
    let one = undo_one lists (omega (arith, few)) in
    let later = undone (after_edit lists Undo) times (omega (arith, few, one.0)) in
    let some : nat_lt 0 (length lists.left) ≡ true = lt-ltb 0 (length lists.left) (omega (arith, few)) in
    record {
      found_all = rw some later.found_all;
      left_count = omega (arith, later.left_count, one.0);
      dropped_count = omega (arith, later.dropped_count, one.1);
    }

-- `times` were taken back
pub record Redone (lists after : MoveLists) (times : ℕ) (found : Bool) : Type 0 where
  pub found_all : found ≡ true
  pub left_count : length after.left ≡ length lists.left + times
  pub dropped_count : length after.dropped + times ≡ length lists.dropped

pub redone : (lists : MoveLists) (times : ℕ) → times ≤ length lists.dropped → Redone lists (fold after_edit lists (replicate times Redo)) times (all_find lists (replicate times Redo))
redone lists zero few = record { found_all = refl; left_count = omega arith; dropped_count = omega arith }
redone lists (suc times) few =
    let one = redo_one lists (omega (arith, few)) in
    let later = redone (after_edit lists Redo) times (omega (arith, few, one.0)) in
    let some : nat_lt 0 (length lists.dropped) ≡ true = lt-ltb 0 (length lists.dropped) (omega (arith, few)) in
    record {
      found_all = rw some later.found_all;
      left_count = omega (arith, later.left_count, one.1);
      dropped_count = omega (arith, later.dropped_count, one.0);
    }

-- an edit adds one move to both lists together, or none
lists_grow : (lists : MoveLists) (edit : Edit) → length (after_edit lists edit).left + length (after_edit lists edit).dropped ≤ length lists.left + length lists.dropped + 1
lists_grow lists (Apply number) = omega (arith, length-append lists.left (number ∷ []))
lists_grow lists Undo =
    omega (arith, length-take (length lists.left - 1) lists.left, length-append lists.dropped (last_alone lists.left), length-drop (length lists.left - 1) lists.left)
lists_grow lists Redo =
    omega (arith, length-take (length lists.dropped - 1) lists.dropped, length-append lists.left (last_alone lists.dropped), length-drop (length lists.dropped - 1) lists.dropped)

lists_within : (lists : MoveLists) (edits : List Edit) → length (fold after_edit lists edits).left + length (fold after_edit lists edits).dropped ≤ length lists.left + length lists.dropped + length edits
lists_within lists [] = omega arith
lists_within lists (edit ∷ edits) = omega (arith, lists_within (after_edit lists edit) edits, lists_grow lists edit)

-- no more moves are left and dropped than there are edits
pub lists_few : (edits : List Edit) → length (left_of edits) + length (dropped_of edits) ≤ length edits
lists_few edits =
    let within : length (left_of edits) + length (dropped_of edits) ≤ 0 + 0 + length edits = lists_within no_lists edits in omega (arith, within)
