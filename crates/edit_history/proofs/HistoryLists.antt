-- The line says the same as the two lists of moves.
use Rattle.std.proofs.Common.{◌≡◌, ℕ, zero, suc, ◌+◌, ◌-◌, ◌<◌, ◌≤◌, List, [], ◌∷◌, ◌++◌, length, map, reverse, take, drop, get_or, slice_get, Option, None, Some, append-nil, drop-cons, arith, refl, sym, ap, ◌∙◌}
use Rattle.std.specs.List.{fold}
use Rattle.std.proofs.lemmas.Grind.{reverse_onto}
use Rattle.std.proofs.lemmas.List.{length_push, map_more, map_push, take_all, take_at}
use Rattle.std.proofs.Math.ListN.{drop_of_length-le}
use Rattle.std.proofs.Math.Seq.{drop-append_seam}
use native.Mathlib.Decide.{dec_le}
use mathlib.Core.Logic.{dite}
use Rattle.edit_plan.specs.declared.edit.Edit.{Edit}
use Rattle.edit_plan.specs.declared.edit.Edit.TheVariants.{Apply, Undo, Redo}
use Rattle.edit_plan.specs.Edits.{MoveLists, after_edit, all_but_last, dropped_of, last_alone, left_at, lists_after, no_lists}
use Rattle.edit_history.specs.Histories.{History, applied_by, history_at, move_of, step}
use Rattle.edit_history.proofs.HistoryOrder.{at_within, length_pushed, redo_forth, redo_none}

-- both lists after an edit, if there is one
abbrev pub after_option : MoveLists → Option Edit → MoveLists
after_option lists None = lists
after_option lists (Some edit) = after_edit lists edit

fold_step : (lists : MoveLists) (edits : List Edit) (v : ℕ)
    → fold after_edit lists (take (suc v) edits) ≡ after_option (fold after_edit lists (take v edits)) (slice_get edits v)
fold_step lists [] zero = refl
fold_step lists [] (suc v) = refl
fold_step lists (edit ∷ edits) zero = refl
fold_step lists (edit ∷ edits) (suc v) = fold_step (after_edit lists edit) edits v

-- a list that has one item more at its end
last_of_push : (xs : List ℕ) (x : ℕ) → last_alone (xs ++ x ∷ []) ≡ x ∷ []
last_of_push xs x =
    let size : length (xs ++ x ∷ []) - 1 ≡ length xs = omega (arith, length_push xs x) in
    ap (λ n. drop n (xs ++ x ∷ [])) size ∙ drop-append_seam xs (x ∷ [])

but_last_of_push : (xs : List ℕ) (x : ℕ) → all_but_last (xs ++ x ∷ []) ≡ xs
but_last_of_push xs x = take_at xs (x ∷ []) (length (xs ++ x ∷ []) - 1) (omega (arith, length_push xs x))

-- the moves of the line from number k on, last first, have that of number k at the end
dropped_more : (move : ℕ → ℕ) (numbers : List ℕ) (k : ℕ) → k < length numbers
    → reverse (map move (drop k numbers)) ≡ reverse (map move (drop (k + 1) numbers)) ++ move (get_or numbers k 0) ∷ []
dropped_more move numbers k low =
    ap (λ (l : List ℕ). reverse (map move l)) (drop-cons numbers k 0 low)
    ∙ reverse_onto (map move (drop (suc k) numbers)) (move (get_or numbers k 0)) []
    ∙ ap (λ n. reverse (map move (drop n numbers)) ++ move (get_or numbers k 0) ∷ []) (let same : suc k ≡ k + 1 = omega arith in same)

-- the lists have what the line has: those left in order, those dropped last first
pub record Agrees (move : ℕ → ℕ) (history : History) (lists : MoveLists) : Type 0 where
  pub left_same : lists.left ≡ map move (take history.at history.numbers)
  pub dropped_same : lists.dropped ≡ reverse (map move (drop history.at history.numbers))

agrees_applied : (move : ℕ → ℕ) (v i : ℕ) (history : History) (lists : MoveLists) → history.at ≤ length history.numbers
    → move v ≡ i → Agrees move history lists
    → Agrees move (step v (Some (Apply i)) history) (after_edit lists (Apply i))
agrees_applied move v i history lists within is agrees =
    let size = length_pushed history.numbers history.at v within in
    let none : drop (history.at + 1) (take history.at history.numbers ++ v ∷ []) ≡ [] =
    drop_of_length-le (take history.at history.numbers ++ v ∷ []) (omega (arith, size)) in
    record {
      left_same =
          ap (λ (l : List ℕ). l ++ i ∷ []) agrees.left_same
          ∙ ap (λ n. map move (take history.at history.numbers) ++ n ∷ []) (sym is)
          ∙ sym (map_push move (take history.at history.numbers) v)
          ∙ ap (map move) (sym (take_all (history.at + 1) (take history.at history.numbers ++ v ∷ []) (omega (arith, size))));
      dropped_same = ap (λ (l : List ℕ). reverse (map move l)) (sym none);
    }

-- one goes back, from k + 1 of the line to k
agrees_back : (move : ℕ → ℕ) (numbers : List ℕ) (k : ℕ) (lists : MoveLists) → k < length numbers
    → Agrees move record { numbers = numbers; at = k + 1 } lists
    → Agrees move record { numbers = numbers; at = k } (after_edit lists Undo)
agrees_back move numbers k lists low agrees =
    let left = agrees.left_same ∙ map_more move numbers k 0 low in
    record {
      left_same = ap all_but_last left ∙ but_last_of_push (map move (take k numbers)) (move (get_or numbers k 0));
      dropped_same =
          ap (λ (l : List ℕ). lists.dropped ++ last_alone l) left
          ∙ ap (λ (l : List ℕ). lists.dropped ++ l) (last_of_push (map move (take k numbers)) (move (get_or numbers k 0)))
          ∙ ap (λ (l : List ℕ). l ++ move (get_or numbers k 0) ∷ []) agrees.dropped_same
          ∙ sym (dropped_more move numbers k low);
    }

-- one goes forward, from k of the line to k + 1
agrees_forth : (move : ℕ → ℕ) (numbers : List ℕ) (k : ℕ) (lists : MoveLists) → k < length numbers
    → Agrees move record { numbers = numbers; at = k } lists
    → Agrees move record { numbers = numbers; at = k + 1 } (after_edit lists Redo)
agrees_forth move numbers k lists low agrees =
    let dropped = agrees.dropped_same ∙ dropped_more move numbers k low in
    record {
      left_same =
          ap (λ (l : List ℕ). lists.left ++ last_alone l) dropped
          ∙ ap (λ (l : List ℕ). lists.left ++ l) (last_of_push (reverse (map move (drop (k + 1) numbers))) (move (get_or numbers k 0)))
          ∙ ap (λ (l : List ℕ). l ++ move (get_or numbers k 0) ∷ []) agrees.left_same
          ∙ sym (map_more move numbers k 0 low);
      dropped_same = ap all_but_last dropped ∙ but_last_of_push (reverse (map move (drop (k + 1) numbers))) (move (get_or numbers k 0));
    }

agrees_undone : (move : ℕ → ℕ) (numbers : List ℕ) (at : ℕ) (lists : MoveLists) → at ≤ length numbers
    → Agrees move record { numbers = numbers; at = at } lists
    → Agrees move record { numbers = numbers; at = at - 1 } (after_edit lists Undo)
agrees_undone move numbers zero lists within agrees = record {
  left_same = ap all_but_last agrees.left_same;
  dropped_same = ap (λ (l : List ℕ). lists.dropped ++ last_alone l) agrees.left_same ∙ append-nil lists.dropped ∙ agrees.dropped_same;
}
agrees_undone move numbers (suc k) lists within agrees =
    let one : suc k ≡ k + 1 = omega arith in
    let less : suc k - 1 ≡ k = omega arith in
    rw less (agrees_back move numbers k lists (omega (arith, within)) (rw one at agrees))

agrees_still : (move : ℕ → ℕ) (history : History) (lists : MoveLists) → length history.numbers ≤ history.at → Agrees move history lists
    → Agrees move history (after_edit lists Redo)
agrees_still move history lists none agrees =
    let over = drop_of_length-le history.numbers none in
    let empty : lists.dropped ≡ [] = agrees.dropped_same ∙ ap (λ (l : List ℕ). reverse (map move l)) over in
    record {
      left_same = ap (λ (l : List ℕ). lists.left ++ last_alone l) empty ∙ append-nil lists.left ∙ agrees.left_same;
      dropped_same = ap all_but_last empty ∙ sym empty ∙ agrees.dropped_same;
    }

agrees_step : (move : ℕ → ℕ) (v : ℕ) (o : Option Edit) (history : History) (lists : MoveLists) → history.at ≤ length history.numbers
    → move v ≡ applied_by o → Agrees move history lists
    → Agrees move (step v o history) (after_option lists o)
agrees_step move v None history lists within is agrees = agrees
agrees_step move v (Some (Apply i)) history lists within is agrees = agrees_applied move v i history lists within is agrees
agrees_step move v (Some Undo) history lists within is agrees = agrees_undone move history.numbers history.at lists within agrees
agrees_step move v (Some Redo) history lists within is agrees =
    dite (dec_le (length history.numbers) history.at)
    (λ none. rw (redo_none v history none) (agrees_still move history lists none agrees))
    (λ some.
    let low : history.at < length history.numbers = omega (arith, some) in
    rw (redo_forth v history low) (agrees_forth move history.numbers history.at lists low agrees))

-- the two lists and the line agree after any number of edits
pub history_agrees : (edits : List Edit) (v : ℕ) → Agrees (move_of edits) (history_at edits v) (lists_after (take v edits))
history_agrees edits zero = record { left_same = refl; dropped_same = refl }
history_agrees edits (suc v) =
    let lists = lists_after (take v edits) in
    rw (fold_step no_lists edits v)
    (agrees_step (move_of edits) v (slice_get edits v) (history_at edits v) lists (at_within edits v) refl (history_agrees edits v))

-- both lists after one edit more
pub lists_next : (edits : List Edit) (v : ℕ)
    → lists_after (take (v + 1) edits) ≡ after_option (lists_after (take v edits)) (slice_get edits v)
lists_next edits v = ap (λ n. lists_after (take n edits)) (let more : v + 1 ≡ suc v = omega arith in more) ∙ fold_step no_lists edits v

-- the moves left are those of the edits left in the line
pub left_is_history : (edits : List Edit) (v : ℕ) → left_at edits v ≡ map (move_of edits) (take (history_at edits v).at (history_at edits v).numbers)
left_is_history edits v = (history_agrees edits v).left_same

-- the moves dropped are those of the edits dropped in the line, last first
pub dropped_is_history : (edits : List Edit) (v : ℕ)
    → dropped_of (take v edits) ≡ reverse (map (move_of edits) (drop (history_at edits v).at (history_at edits v).numbers))
dropped_is_history edits v = (history_agrees edits v).dropped_same
