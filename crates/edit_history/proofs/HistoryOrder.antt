-- The line is in order: what is left of it is within it, and the numbers of its edits ascend below that of the next.
use Rattle.std.proofs.Common.{◌≡◌, ℕ, zero, suc, ◌+◌, ◌-◌, ◌<◌, ◌≤◌, nat_lt, if◌then◌else◌, List, [], ◌∷◌, ◌++◌, length, take, get_or, slice_get, slice_index, Option, None, Some, arith, refl, ap, ◌∙◌}
use Rattle.std.proofs.lemmas.Bool.{lt-ltb, le-ltb}
use Rattle.std.proofs.lemmas.List.{get_or_append_left, get_or_push, get_or-take, length_push, length-take-le}
use native.Mathlib.Decide.{dec_le}
use mathlib.Core.Logic.{dite}
use Rattle.edit_plan.specs.declared.edit.Edit.{Edit}
use Rattle.edit_plan.specs.declared.edit.Edit.TheVariants.{Apply, Undo, Redo}
use Rattle.edit_history.specs.Histories.{History, history_at, step}

-- the line after one edit more
pub history_next : (edits : List Edit) (v : ℕ) → history_at edits (v + 1) ≡ step v (slice_get edits v) (history_at edits v)
history_next edits v = ap (history_at edits) (let more : v + 1 ≡ suc v = omega arith in more)

-- a Redo goes one forward where something is dropped, and changes nothing where nothing is
pub redo_forth : (v : ℕ) (history : History) → history.at < length history.numbers
    → step v (Some Redo) history ≡ record { numbers = history.numbers; at = history.at + 1 }
redo_forth v history some = rw (lt-ltb history.at (length history.numbers) some) refl

pub redo_none : (v : ℕ) (history : History) → length history.numbers ≤ history.at → step v (Some Redo) history ≡ history
redo_none v history none = rw (le-ltb history.at (length history.numbers) none) refl

-- an Undo where nothing is left changes nothing
pub undo_none : (v : ℕ) (history : History) → history.at ≡ 0 → step v (Some Undo) history ≡ history
undo_none v history none =
    let same : history.at - 1 ≡ history.at = omega (arith, none) in ap (λ (n : ℕ). record { numbers = history.numbers; at = n }) same

-- where an Apply has added its number the line is one longer than what was left
pub length_pushed : (numbers : List ℕ) (at v : ℕ) → at ≤ length numbers → length (take at numbers ++ v ∷ []) ≡ at + 1
length_pushed numbers at v within = length_push (take at numbers) v ∙ ap (λ n. n + 1) (length-take-le at numbers within)

-- what was left stays in its place, and the number comes after it
pub kept_pushed : (numbers : List ℕ) (at v k : ℕ) → at ≤ length numbers → k < at
    → get_or (take at numbers ++ v ∷ []) k 0 ≡ get_or numbers k 0
kept_pushed numbers at v k within low =
    get_or_append_left (take at numbers) (v ∷ []) 0 k (omega (arith, low, length-take-le at numbers within))
    ∙ get_or-take at numbers k 0 low

pub added_pushed : (numbers : List ℕ) (at v k : ℕ) → at ≤ length numbers → at ≡ k → get_or (take at numbers ++ v ∷ []) k 0 ≡ v
added_pushed numbers at v k within same = get_or_push (take at numbers) v 0 k (length-take-le at numbers within ∙ same)

-- a line in order after the first v edits
pub record InOrder (v : ℕ) (history : History) : Type 0 where
  pub within : history.at ≤ length history.numbers
  pub short : length history.numbers ≤ v
  pub below : (k : ℕ) → k < length history.numbers → get_or history.numbers k 0 < v
  pub ascend : (k m : ℕ) → k < m → m < length history.numbers → get_or history.numbers k 0 < get_or history.numbers m 0

below_pushed : (v : ℕ) (history : History) → InOrder v history → (k : ℕ) → k < history.at + 1 → get_or (take history.at history.numbers ++ v ∷ []) k 0 < suc v
below_pushed v history order k low =
    dite (dec_le history.at k)
    (λ last. let here = added_pushed history.numbers history.at v k order.within (omega (arith, last, low)) in omega (arith, here))
    (λ early.
    let here = kept_pushed history.numbers history.at v k order.within (omega (arith, early)) in
    let old = order.below k (omega (arith, early, order.within)) in omega (arith, here, old))

ascend_pushed : (v : ℕ) (history : History) → InOrder v history → (k m : ℕ) → k < m → m < history.at + 1
    → get_or (take history.at history.numbers ++ v ∷ []) k 0 < get_or (take history.at history.numbers ++ v ∷ []) m 0
ascend_pushed v history order k m before low =
    let first = kept_pushed history.numbers history.at v k order.within (omega (arith, before, low)) in
    dite (dec_le history.at m)
    (λ last.
    let here = added_pushed history.numbers history.at v m order.within (omega (arith, last, low)) in
    let old = order.below k (omega (arith, before, low, order.within)) in omega (arith, first, here, old))
    (λ early.
    let here = kept_pushed history.numbers history.at v m order.within (omega (arith, early)) in
    let old = order.ascend k m before (omega (arith, early, order.within)) in omega (arith, first, here, old))

-- numbers that don't change are in order after one edit more
order_still : (v : ℕ) (history : History) (at : ℕ) → at ≤ length history.numbers → InOrder v history
    → InOrder (suc v) record { numbers = history.numbers; at = at }
order_still v history at within order = record {
  within = within;
  short = omega (arith, order.short);
  below = λ k low. let old = order.below k low in omega (arith, old);
  ascend = order.ascend;
}

redo_within : (at size : ℕ) → at ≤ size → (if nat_lt at size then at + 1 else at) ≤ size
redo_within at size within =
    dite (dec_le size at)
    (λ none. rw (le-ltb at size none) within)
    (λ some. rw (lt-ltb at size (omega (arith, some))) (omega (arith, some)))

order_step : (v : ℕ) (o : Option Edit) (history : History) → InOrder v history → InOrder (suc v) (step v o history)
order_step v None history order = order_still v history history.at order.within order
order_step v (Some (Apply i)) history order =
    let size = length_pushed history.numbers history.at v order.within in
    record {
      within = omega (arith, size);
      short = omega (arith, size, order.within, order.short);
      below = λ k low. below_pushed v history order k (omega (arith, low, size));
      ascend = λ k m before low. ascend_pushed v history order k m before (omega (arith, low, size));
    }
order_step v (Some Undo) history order = order_still v history (history.at - 1) (omega (arith, order.within)) order
order_step v (Some Redo) history order =
    let size = length history.numbers in
    order_still v history (if nat_lt history.at size then history.at + 1 else history.at) (redo_within history.at size order.within) order

-- the line is in order after any number of edits
pub history_ordered : (edits : List Edit) (v : ℕ) → InOrder v (history_at edits v)
history_ordered edits zero = record {
  within = omega arith;
  short = omega arith;
  below = λ k low. absurd (omega (arith, low));
  ascend = λ k m before low. absurd (omega (arith, low));
}
history_ordered edits (suc v) = order_step v (slice_get edits v) (history_at edits v) (history_ordered edits v)

-- no more are left than the line has
pub at_within : (edits : List Edit) (v : ℕ) → (history_at edits v).at ≤ length (history_at edits v).numbers
at_within edits v = (history_ordered edits v).within

-- the line is no longer than the edits so far
pub history_short : (edits : List Edit) (v : ℕ) → length (history_at edits v).numbers ≤ v
history_short edits v = (history_ordered edits v).short

-- each edit of the line is one of those so far
pub numbers_below : (edits : List Edit) (v k : ℕ) → k < length (history_at edits v).numbers → slice_index (history_at edits v).numbers k < v
numbers_below edits v k low = (history_ordered edits v).below k low

-- the edits of the line are in the order in which they came
pub numbers_ascend : (edits : List Edit) (v k m : ℕ) → k < m → m < length (history_at edits v).numbers
    → slice_index (history_at edits v).numbers k < slice_index (history_at edits v).numbers m
numbers_ascend edits v k m before low = (history_ordered edits v).ascend k m before low
