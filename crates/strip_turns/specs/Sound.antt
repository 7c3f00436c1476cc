-- The rule of a board: what holds between any two steps.
use Rattle.std.specs.Prelude.{◌≡◌, ℕ, ◌+◌, ◌*◌, ◌^◌, ◌<◌, ◌≤◌, ◌==◌, ◌⊎◌, List, [], ◌∷◌, length, slice_index, if◌then◌else◌, nat_lt}
use Rattle.std.specs.Prelude.{Bool, true, false, Option, Some, None}
use mathlib.Core.Option.{some, none}
use lib.ListN.{get_elem?}
use Rattle.atomic_table.specs.Table.{State}
use Rattle.strip_journal.specs.Strips.{StripOf}
use Rattle.strip_turns.specs.declared.view.View.{View}
use Rattle.strip_turns.specs.declared.view.BoardStart.{BoardStart}
use Rattle.strip_turns.specs.declared.view.HeldStrip.{HeldStrip}
use Rattle.strip_turns.specs.Log.{tally, drew, missed, missed_at, did, strayed, once_between, met_at}
use Rattle.strip_turns.specs.Cards.{start_version, last, IsCase}
use Rattle.strip_turns.specs.Views.{spent}

-- f of each pass, added up
abbrev pub total : (View → ℕ) → List View → ℕ
total f [] = 0
total f (v ∷ vs) = f v + total f vs

-- 1 where x < n
abbrev pub once_below : ℕ → ℕ → ℕ
once_below n x = if nat_lt x n then 1 else 0

-- 1 for the strip k that is out
abbrev pub held_in : ℕ → Option HeldStrip → ℕ
held_in k None = 0
held_in k (Some h) = if h.strip == k then 1 else 0

-- the version at which the strip k was taken
abbrev pub taken_at : ℕ → Option HeldStrip → ℕ
taken_at k None = 0
taken_at k (Some h) = if h.strip == k then h.at else 0

-- 1 for a pass other than the first that has the number n and was not merged
abbrev pub beside : ℕ → Option BoardStart → Bool → ℕ → ℕ
beside n None first number = 0
beside n (Some c) true number = 0
beside n (Some c) false number = if number == n then 1 else 0

-- how often n is in a list
abbrev pub times : ℕ → List ℕ → ℕ
times n [] = 0
times n (x ∷ xs) = (if x == n then 1 else 0) + times n xs

-- The words are so far apart that no two share a line of the cache, or a pair of lines: the ticket word first, then each strip's.
abbrev pub strip_word : ℕ → ℕ
strip_word k = 16 * (k + 1)

-- 1. Of the first pass: it has the first seat, and was split once for each other seat. Besides it there is exactly one pass for each
-- number that it has out.
pub record IsFirst (views : List View) (seat : ℕ) (v : View) : Type 0 where
  pub front : seat ≡ 0
  pub splits : v.splits ≤ 64
  pub passes : length views ≡ v.splits + 1
  pub out : (n : ℕ) → total (λ u. beside n u.card u.first u.number) views ≡ times n v.out
  pub once : (n : ℕ) → times n v.out ≤ 1
  pub known : (n : ℕ) → 0 < times n v.out → n ≤ v.splits

-- 5. What a pass drew and missed is bounded.
pub record IsFew (v : View) : Type 0 where
  pub drawn : v.drawn ≤ 2 ^ 32
  pub missed : v.missed ≤ 2 ^ 32

-- 1. Of all passes: those that were not merged name one card.
pub record IsRoster (card : BoardStart) (views : List View) : Type 0 where
  pub cards : (seat : ℕ) (v : View) → get_elem? views seat ≡ some v → (v.card ≡ Some card) ⊎ (v ≡ spent)
  pub few : (seat : ℕ) (v : View) → get_elem? views seat ≡ some v → IsFew v
  pub first : (seat : ℕ) (v : View) → get_elem? views seat ≡ some v → v.first ≡ true → IsFirst views seat v
  pub passes : length views ≤ 65

-- 4. Each number below the ticket word is in exactly one draw of all logs, and no other number is.
-- 5. There are no more tickets than the passes drew, and merged ones may have drawn.
pub record IsDrawn (ticket : ℕ) (views : List View) : Type 0 where
  pub once : (x : ℕ) → total (λ u. tally (drew x) u.log) views ≡ once_below ticket x
  pub bounded : ticket ≤ total (λ u. u.drawn) views

-- Of the strip k, that is at v, or was taken there.
-- 2. `passes` passes hold it, which took it at this version.
-- 3. Each edit from its start up to v lies in exactly one trip of all logs, and no trip goes below the start, past v or back.
-- 6. Its misses in all logs are m more than were met.
pub record IsLogged (card : BoardStart) (views : List View) (k v passes taken m : ℕ) : Type 0 where
  pub started : start_version card k ≤ v
  pub within : v ≤ last card
  pub did : (x : ℕ) → total (λ u. tally (did k x) u.log) views ≡ once_between (start_version card k) v x
  pub strayed : total (λ u. tally (strayed k (start_version card k) v) u.log) views ≡ 0
  pub held : total (λ u. held_in k u.held) views ≡ passes
  pub at : total (λ u. taken_at k u.held) views ≡ taken
  pub misses : total (λ u. tally (missed_at k) u.log) views ≡ total (λ u. met_at k u.met) views + m

-- 2. The strip k is home: its slot has it, no pass holds it, and its word says its version.
pub record IsHome (card : BoardStart) (s : State (Option StripOf) View) (k : ℕ) (strip : StripOf) : Type 0 where
  pub there : get_elem? s.homes k ≡ some (some (Some strip))
  pub of_case : IsCase card k strip.done strip
  pub word : slice_index s.words (strip_word k) ≡ (strip.done + 1) * 2 ^ 40
  pub logged : IsLogged card s.views k strip.done 0 0 0

-- 2. The strip k is out with exactly one pass, which took it at v. 6. Its word counts the m misses since.
pub record IsStripOut (card : BoardStart) (s : State (Option StripOf) View) (k v m : ℕ) : Type 0 where
  pub gone : get_elem? s.homes k ≡ some none
  pub word : slice_index s.words (strip_word k) ≡ (v + 1) * 2 ^ 40 + 1 + m
  pub logged : IsLogged card s.views k v 1 v m

abbrev pub Place : BoardStart → State (Option StripOf) View → ℕ → Type 0
Place card s k = ((strip : StripOf) × IsHome card s k strip) ⊎ ((v : ℕ) × (m : ℕ) × IsStripOut card s k v m)

-- The whole rule. 5. There are no more misses in all logs than the passes had, and merged ones may have had.
pub record IsSound (card : BoardStart) (s : State (Option StripOf) View) : Type 0 where
  pub words : length s.words ≡ strip_word (length s.homes)
  pub strips : length s.homes ≡ length card.strips
  pub roster : IsRoster card s.views
  pub drawn : IsDrawn (slice_index s.words 0) s.views
  pub missed : total (λ u. tally missed u.log) s.views ≤ total (λ u. u.missed) s.views
  pub places : (k : ℕ) → k < length s.homes → Place card s k
