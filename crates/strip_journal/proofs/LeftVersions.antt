-- The moves that are left at the versions of the places of a line are the first of those that are left in the end.
use Rattle.std.proofs.Common.{◌≡◌, ℕ, zero, suc, ◌+◌, ◌<◌, ◌≤◌, nat_lt, if◌then◌else◌, Bool, List, length, map, take, slice_index, arith, sym, ap, ◌∙◌, subst}
use Rattle.std.proofs.lemmas.Bool.{cond-false, cond-true, le-ltb, lt-ltb}
use Rattle.std.proofs.lemmas.List.{take_all, take-map, take-take}
use native.Mathlib.Decide.{dec_le}
use mathlib.Core.Logic.{dite}
use Rattle.edit_plan.specs.declared.edit.Edit.{Edit}
use Rattle.edit_plan.specs.Edits.{left_at}
use Rattle.edit_history.specs.Histories.{History, history_at, move_of}
use Rattle.edit_history.proofs.HistoryChain.{left_behind}
use Rattle.edit_history.proofs.HistoryLists.{left_is_history}
use Rattle.edit_history.proofs.HistoryOrder.{at_within, numbers_ascend}
use Rattle.job_model.specs.Tasks.{Job}
use Rattle.strip_marks.specs.declared.change.WordChange.{WordChange}
use Rattle.strip_journal.specs.Entries.{HasNo}
use Rattle.strip_journal.specs.Journals.{MatchesEntries}
use Rattle.strip_journal.proofs.KeptParts.{IsHeld, Parts}
use Rattle.strip_journal.proofs.NextEdit.{line_early}
use Rattle.strip_journal.proofs.ToldFound.{left_as, left_many}
use Rattle.strip_journal.proofs.Turned.{left_within}

-- the version of a place: that before the edit there, and past the last move that is left the newest
abbrev pub version_in : Parts → ℕ → ℕ
version_in p k = if nat_lt k p.at then slice_index p.line k else p.done

pub version_left : (p : Parts) (k : ℕ) → k < p.at → version_in p k ≡ slice_index p.line k
version_left p k low = cond-true _ (slice_index p.line k) p.done (lt-ltb k p.at low)

pub version_past : (p : Parts) (k : ℕ) → p.at ≤ k → version_in p k ≡ p.done
version_past p k past = cond-false _ (slice_index p.line k) p.done (le-ltb k p.at past)

-- the edits of a line ascend
pub line_up : (job : Job) (p : Parts) → IsHeld job p → (k m : ℕ) → k < m → m < length p.line
    → slice_index p.line k < slice_index p.line m
line_up job p h =
    subst
    (λ (line : History). (k m : ℕ) → k < m → m < length line.numbers → slice_index line.numbers k < slice_index line.numbers m)
    (sym h.line) (numbers_ascend job.plan.edits p.done)

-- after an edit of those that are left the moves up to its own are left
after_as : (edits : List Edit) (v k : ℕ) → k < (history_at edits v).at
    → left_at edits (slice_index (history_at edits v).numbers k + 1) ≡ take (k + 1) (left_at edits v)
after_as edits v k low =
    let line = history_at edits v in
    let within = at_within edits v in
    left_behind edits v k (omega (arith, low, within))
    ∙ sym
    (ap (take (k + 1)) (left_is_history edits v)
    ∙ take-map (move_of edits) (k + 1) (take line.at line.numbers)
    ∙ ap (map (move_of edits)) (take-take (k + 1) line.at line.numbers (omega (arith, low))))

pub left_through : (job : Job) (p : Parts) (k : ℕ) → IsHeld job p → k < p.at
    → left_at job.plan.edits (slice_index p.line k + 1) ≡ take (k + 1) (left_at job.plan.edits p.done)
left_through job p k h low =
    let edits = job.plan.edits in
    subst (λ (line : History). k < line.at → left_at edits (slice_index line.numbers k + 1) ≡ take (k + 1) (left_at edits p.done))
    (sym h.line) (after_as edits p.done k) low

-- at the version of a place the first moves are left, as many as come before the place
pub left_up : (job : Job) (p : Parts) (k : ℕ) → IsHeld job p → k ≤ p.at
    → left_at job.plan.edits (version_in p k) ≡ take k (left_at job.plan.edits p.done)
left_up job p k h within =
    let edits = job.plan.edits in
    dite (dec_le p.at k)
    (λ past.
    let all : p.at ≡ length (left_at edits p.done) = ap (λ (line : History). line.at) h.line ∙ sym (left_many edits p.done) in
    ap (left_at edits) (version_past p k past) ∙ sym (take_all k (left_at edits p.done) (omega (arith, all, past))))
    (λ some.
    let low : k < p.at = omega (arith, some) in
    ap (left_at edits) (version_left p k low)
    ∙ subst (λ (line : History). k < line.at → left_at edits (slice_index line.numbers k) ≡ take k (left_at edits p.done))
    (sym h.line) (λ few. (left_as edits p.done k few).ahead) low)

-- a set whose members at a version follow from the moves that are left there
abbrev pub FollowsLeft : Job → (ℕ → Bool) → Type 0
FollowsLeft job f = (v w : ℕ) → left_at job.plan.edits v ≡ left_at job.plan.edits w → f v ≡ f w

-- at the version of the next place it has what it has after the edit at a place
pub version_next : (job : Job) (p : Parts) (f : ℕ → Bool) (k : ℕ) → IsHeld job p → FollowsLeft job f → k < p.at
    → f (version_in p (k + 1)) ≡ f (slice_index p.line k + 1)
version_next job p f k h same low =
    same (version_in p (k + 1)) (slice_index p.line k + 1)
    (left_up job p (k + 1) h (omega (arith, low)) ∙ sym (left_through job p k h low))

-- between places of whose edits none has an entry nothing changes
pub run_still : (job : Job) (p : Parts) (of : ℕ → ℕ → ℕ → Bool) (pick : WordChange → ℕ) (rays : ℕ) (points : ℕ → ℕ) (a d n l : ℕ)
    → IsHeld job p → MatchesEntries of pick rays points p.changes p.entries p.done → FollowsLeft job (λ v. of v n l) → a + d ≤ p.at
    → ((i : ℕ) → a ≤ i → i < a + d → HasNo p.entries (slice_index p.line i)) → n < rays → l < points n
    → of (version_in p (a + d)) n l ≡ of (version_in p a) n l
run_still job p of pick rays points a zero n l h tracked same within none ray point =
    let is : a + zero ≡ a = omega arith in ap (λ (k : ℕ). of (version_in p k) n l) is
run_still job p of pick rays points a (suc d) n l h tracked same within none ray point =
    let is : a + suc d ≡ a + d + 1 = omega arith in
    let low : a + d < p.at = omega (arith, within) in
    let stands : a + d < length p.line = let all = left_within job p h in omega (arith, low, all) in
    ap (λ (k : ℕ). of (version_in p k) n l) is
    ∙ version_next job p (λ v. of v n l) (a + d) h same low
    ∙ sym (tracked.steady (slice_index p.line (a + d)) n l (line_early job p h (a + d) stands) (none (a + d) (omega arith) (omega arith)) ray
    point)
    ∙ sym (ap (λ (v : ℕ). of v n l) (version_left p (a + d) low))
    ∙ run_still job p of pick rays points a d n l h tracked same (omega (arith, within)) (λ i from few. none i from (omega (arith, few))) ray
    point
