-- Each edit in the line applied a move, and the edits left before it are those that come before it in the line.
use Rattle.std.proofs.Common.{◌≡◌, ℕ, zero, suc, ◌+◌, ◌<◌, ◌≤◌, List, [], ◌∷◌, ◌++◌, length, map, take, get_or, slice_get, slice_index, Option, None, Some, arith, refl, sym, ap, ◌∙◌}
use Rattle.std.proofs.lemmas.List.{length-take-le, map_more, take-append-le, take-take, take_at}
use Rattle.std.proofs.lemmas.Option.{slice_get_within}
use native.Mathlib.Decide.{dec_le}
use mathlib.Core.Logic.{dite}
use Rattle.edit_plan.specs.declared.edit.Edit.{Edit}
use Rattle.edit_plan.specs.declared.edit.Edit.TheVariants.{Apply, Undo, Redo}
use Rattle.edit_plan.specs.Edits.{MoveLists, left_at}
use Rattle.edit_history.specs.Histories.{History, applied_by, history_at, move_of, step}
use Rattle.edit_history.proofs.HistoryLists.{after_option, left_is_history, lists_next}
use Rattle.edit_history.proofs.HistoryOrder.{added_pushed, at_within, kept_pushed, length_pushed}

-- edit number u applied a move, and k were left before it: these
pub record Stands (edits : List Edit) (u k : ℕ) (ahead : List ℕ) : Type 0 where
  pub applied : slice_get edits u ≡ Some (Apply (move_of edits u))
  pub depth : (history_at edits u).at ≡ k
  pub before : take (history_at edits u).at (history_at edits u).numbers ≡ ahead

-- an Apply is at the end of what was left
stands_last : (edits : List Edit) (v i : ℕ) → slice_get edits v ≡ Some (Apply i)
    → Stands edits v (history_at edits v).at (take (history_at edits v).at (history_at edits v).numbers)
stands_last edits v i e = record {
  applied = e ∙ ap (λ (o : Option Edit). Some (Apply (applied_by o))) (sym e);
  depth = refl;
  before = refl;
}

stands_pushed : (edits : List Edit) (v k : ℕ) (history : History) → history.at ≤ length history.numbers
    → Stands edits v history.at (take history.at history.numbers)
    → ((m : ℕ) → m < length history.numbers → Stands edits (get_or history.numbers m 0) m (take m history.numbers)) → k < history.at + 1
    → Stands edits (get_or (take history.at history.numbers ++ v ∷ []) k 0) k (take k (take history.at history.numbers ++ v ∷ []))
stands_pushed edits v k history within new old low =
    dite (dec_le history.at k)
    (λ last.
    let same : k ≡ history.at = omega (arith, last, low) in
    let all = take_at (take history.at history.numbers) (v ∷ []) history.at (length-take-le history.at history.numbers within) in
    rw (added_pushed history.numbers history.at v k within (sym same), same, all) new)
    (λ early.
    let few : k ≤ length (take history.at history.numbers) = omega (arith, early, length-take-le history.at history.numbers within) in
    let ahead = take-append-le k (take history.at history.numbers) (v ∷ []) few in
    rw (kept_pushed history.numbers history.at v k within (omega (arith, early)), ahead, take-take k history.at history.numbers (omega (arith, early)))
    (old k (omega (arith, early, within))))

stands_step : (edits : List Edit) (v : ℕ) (o : Option Edit) (history : History) → slice_get edits v ≡ o → history_at edits v ≡ history
    → history.at ≤ length history.numbers
    → ((m : ℕ) → m < length history.numbers → Stands edits (get_or history.numbers m 0) m (take m history.numbers))
    → (k : ℕ) → k < length (step v o history).numbers → Stands edits (get_or (step v o history).numbers k 0) k (take k (step v o history).numbers)
stands_step edits v None history e is within old k low = old k low
stands_step edits v (Some (Apply i)) history e is within old k low =
    let new : Stands edits v history.at (take history.at history.numbers) = rw (← is) (stands_last edits v i e) in
    stands_pushed edits v k history within new old (omega (arith, low, length_pushed history.numbers history.at v within))
stands_step edits v (Some Undo) history e is within old k low = old k low
stands_step edits v (Some Redo) history e is within old k low = old k low

-- each edit of the line is at its place, whether it is left or dropped
pub history_stands : (edits : List Edit) (v k : ℕ) → k < length (history_at edits v).numbers
    → Stands edits (get_or (history_at edits v).numbers k 0) k (take k (history_at edits v).numbers)
history_stands edits zero k low = absurd (omega (arith, low))
history_stands edits (suc v) k low =
    stands_step edits v (slice_get edits v) (history_at edits v) refl refl (at_within edits v) (history_stands edits v) k low

-- each edit of the line applied a move
pub history_applies : (edits : List Edit) (v k : ℕ) → k < length (history_at edits v).numbers
    → slice_get edits (slice_index (history_at edits v).numbers k) ≡ Some (Apply (move_of edits (slice_index (history_at edits v).numbers k)))
history_applies edits v k low = (history_stands edits v k low).applied

-- so it is one of the edits
pub numbers_within : (edits : List Edit) (v k : ℕ) → k < length (history_at edits v).numbers
    → slice_index (history_at edits v).numbers k < length edits
numbers_within edits v k low =
    let u = slice_index (history_at edits v).numbers k in slice_get_within edits u (Apply (move_of edits u)) (history_applies edits v k low)

-- before it as many were left as come before it in the line, and those
pub at_before : (edits : List Edit) (v k : ℕ) → k < length (history_at edits v).numbers
    → (history_at edits (slice_index (history_at edits v).numbers k)).at ≡ k
at_before edits v k low = (history_stands edits v k low).depth

pub numbers_before : (edits : List Edit) (v k : ℕ) → k < length (history_at edits v).numbers
    → take (history_at edits (slice_index (history_at edits v).numbers k)).at (history_at edits (slice_index (history_at edits v).numbers k)).numbers
    ≡ take k (history_at edits v).numbers
numbers_before edits v k low = (history_stands edits v k low).before

-- the moves left before an edit of the line are those before it in the line
pub left_before : (edits : List Edit) (v k : ℕ) → k < length (history_at edits v).numbers
    → left_at edits (slice_index (history_at edits v).numbers k) ≡ map (move_of edits) (take k (history_at edits v).numbers)
left_before edits v k low =
    left_is_history edits (slice_index (history_at edits v).numbers k) ∙ ap (map (move_of edits)) (numbers_before edits v k low)

-- an Apply adds its move to those left
pub left_applied : (edits : List Edit) (v i : ℕ) → slice_get edits v ≡ Some (Apply i) → left_at edits (v + 1) ≡ left_at edits v ++ i ∷ []
left_applied edits v i e = ap (λ (lists : MoveLists). lists.left) (lists_next edits v ∙ ap (after_option _) e)

-- an edit of the line added its move to those left
pub left_more : (edits : List Edit) (v k : ℕ) → k < length (history_at edits v).numbers
    → left_at edits (slice_index (history_at edits v).numbers k + 1)
    ≡ left_at edits (slice_index (history_at edits v).numbers k) ++ move_of edits (slice_index (history_at edits v).numbers k) ∷ []
left_more edits v k low =
    let u = slice_index (history_at edits v).numbers k in left_applied edits u (move_of edits u) (history_applies edits v k low)

-- the moves left after an edit of the line are those up to it
pub left_behind : (edits : List Edit) (v k : ℕ) → k < length (history_at edits v).numbers
    → left_at edits (slice_index (history_at edits v).numbers k + 1) ≡ map (move_of edits) (take (k + 1) (history_at edits v).numbers)
left_behind edits v k low =
    left_more edits v k low
    ∙ ap (λ (l : List ℕ). l ++ move_of edits (slice_index (history_at edits v).numbers k) ∷ []) (left_before edits v k low)
    ∙ sym (map_more (move_of edits) (history_at edits v).numbers k 0 low)
