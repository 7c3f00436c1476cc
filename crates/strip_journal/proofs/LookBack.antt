-- Looking back from the newest sets, from entry to entry, to the sets of a version.
use Rattle.std.proofs.Common.{◌≡◌, ℕ, zero, suc, ◌+◌, ◌-◌, ◌<◌, ◌≤◌, Bool, true, false, not, ◌&&◌, if◌then◌else◌, List, length, arith, refl, sym, ap, ◌∙◌}
use Rattle.std.proofs.lemmas.Bool.{cond-false, cond-true, le-ltb, lt-ltb}
use native.Mathlib.Decide.{dec_le}
use mathlib.Core.Logic.{dite}
use Rattle.vf_spans.specs.Members.{has}
use Rattle.job_counts.specs.declared.totals.PointState.TheVariants.{Absent, Kept, Possible, Removed}
use Rattle.job_model.specs.Points.{left_moves, state_after}
use Rattle.strip_marks.specs.declared.change.WordChange.{WordChange}
use Rattle.strip_marks.specs.Marks.{among, point_at, points_at, possible_of, sets_of, sure_of}
use Rattle.strip_journal.specs.declared.entry.Entry.{Entry}
use Rattle.strip_journal.specs.declared.journal.Journal.{Journal}
use Rattle.strip_journal.specs.Entries.{AreAscending, AreEntries, changes_of, edit_at, entry_at, was}
use Rattle.strip_journal.specs.Journals.{IsJournal, MatchesEntries, job_of, possible_at, stock_at, sure_at}
use Rattle.strip_journal.specs.Looking.{IsLookingBack, version_at}
use Rattle.strip_journal.proofs.Tracking.{gap}

-- the version at a place: the edit of the entry there, and the newest past the last
pub version_here : (entries : List Entry) (done place : ℕ) → place < length entries → version_at entries done place ≡ edit_at entries place
version_here entries done place low = cond-true _ (edit_at entries place) done (lt-ltb place (length entries) low)

pub version_last : (entries : List Entry) (done place : ℕ) → length entries ≤ place → version_at entries done place ≡ done
version_last entries done place past = cond-false _ (edit_at entries place) done (le-ltb place (length entries) past)

-- it is one of the versions so far
pub version_reached : (entries : List Entry) (many done place : ℕ) → AreEntries entries many done → version_at entries done place ≤ done
version_reached entries many done place h =
    dite (dec_le (length entries) place)
    (λ past. let last = version_last entries done place past in omega (arith, last))
    (λ some.
    let low : place < length entries = omega (arith, some) in
    let here = version_here entries done place low in
    let early = h.early place low in omega (arith, here, early))

-- each entry from a place on has an edit at its version or after it
pub version_behind : (entries : List Entry) (done place i : ℕ) → AreAscending entries → place ≤ i → i < length entries
    → version_at entries done place ≤ edit_at entries i
version_behind entries done place i ascend from few =
    let here = version_here entries done place (omega (arith, from, few)) in
    dite (dec_le i place)
    (λ same.
    let is : edit_at entries place ≡ edit_at entries i = let e : place ≡ i = omega (arith, from, same) in ap (edit_at entries) e in
    omega (arith, here, is))
    (λ later. let order = ascend.each place i (omega (arith, later)) few in omega (arith, here, order))

-- the versions ascend with the places
pub look_cost_step : (entries : List Entry) (many done place : ℕ) → AreEntries entries many done → place < length entries
    → version_at entries done place < version_at entries done (place + 1)
look_cost_step entries many done place h low =
    let here = version_here entries done place low in
    dite (dec_le (length entries) (place + 1))
    (λ past.
    let next = version_last entries done (place + 1) past in
    let early = h.early place low in omega (arith, here, next, early))
    (λ some.
    let more : place + 1 < length entries = omega (arith, some) in
    let next = version_here entries done (place + 1) more in
    let order = h.ascend.each place (place + 1) (omega arith) more in omega (arith, here, next, order))

cost_from : (entries : List Entry) (many done k place : ℕ) → AreEntries entries many done → place + k ≡ length entries
    → k + version_at entries done place ≤ done
cost_from entries many done zero place h is =
    let last = version_last entries done place (omega (arith, is)) in omega (arith, last)
cost_from entries many done (suc k) place h is =
    let step = look_cost_step entries many done place h (omega (arith, is)) in
    let rest = cost_from entries many done k (place + 1) h (omega (arith, is)) in omega (arith, step, rest)

-- since the version of a place at least as many edits were done as entries come after it
pub look_cost : (entries : List Entry) (many done place version : ℕ) → AreEntries entries many done → place ≤ length entries
    → version ≤ version_at entries done place
    → (length entries - place) + version ≤ done
look_cost entries many done place version h within above =
    let cost = cost_from entries many done (length entries - place) place h (omega (arith, within)) in omega (arith, cost, above)

-- between a version and that of a place nothing changes, if the entries before the place are those of earlier edits
pub look_end : (of : ℕ → ℕ → ℕ → Bool) (pick : WordChange → ℕ) (rays : ℕ) (points : ℕ → ℕ) (changes : List WordChange)
    (entries : List Entry) (many done version place n l : ℕ) → MatchesEntries of pick rays points changes entries done
    → AreEntries entries many done → ((i : ℕ) → i < place → edit_at entries i < version) → version ≤ version_at entries done place
    → n < rays → l < points n → of version n l ≡ of (version_at entries done place) n l
look_end of pick rays points changes entries many done version place n l tracked h ahead above ray point =
    gap of pick rays points changes entries done version (version_at entries done place) n l tracked above
    (version_reached entries many done place h)
    (λ v from below i few is.
    dite (dec_le place i)
    (λ behind. let order = version_behind entries done place i h.ascend behind few in omega (arith, order, is, below))
    (λ some. let order = ahead i (omega (arith, some)) in omega (arith, order, is, from)))
    ray point

-- past the last entry the version is the newest
pub look_start : (of : ℕ → ℕ → ℕ → Bool) (entries : List Entry) (done n l : ℕ)
    → of done n l ≡ of (version_at entries done (length entries)) n l
look_start of entries done n l = ap (λ v. of v n l) (sym (version_last entries done (length entries) (omega arith)))

-- a point is in the set at the version of a place by whether it is there at that of the next one, and by the changes of the entry
pub look_step : (of : ℕ → ℕ → ℕ → Bool) (pick : WordChange → ℕ) (rays : ℕ) (points : ℕ → ℕ) (changes : List WordChange)
    (entries : List Entry) (many done place n l : ℕ) → MatchesEntries of pick rays points changes entries done
    → AreEntries entries many done → place < length entries → n < rays → l < points n
    → of (version_at entries done place) n l
    ≡ was (entry_at entries place).is_undo (among pick (changes_of changes (entry_at entries place)) n l)
    (of (version_at entries done (place + 1)) n l)
look_step of pick rays points changes entries many done place n l tracked h low ray point =
    let e = entry_at entries place in
    let here = version_here entries done place low in
    let next = look_cost_step entries many done place h low in
    ap (λ v. of v n l) here
    ∙ (tracked.turned place n l low ray point).back
    ∙ ap (was e.is_undo (among pick (changes_of changes e) n l))
    (look_end of pick rays points changes entries many done (e.edit + 1) (place + 1) n l tracked h
    (λ i before.
    dite (dec_le place i)
    (λ last.
    let is : edit_at entries place ≡ edit_at entries i = let same : place ≡ i = omega (arith, last, before) in ap (edit_at entries) same in
    omega (arith, is))
    (λ early. let order = h.ascend.each i place (omega (arith, early)) low in omega (arith, order)))
    (omega (arith, here, next)) ray point)

-- the walk begins past the last entry, with the newest sets
pub looking_start : (j : Journal) (version n l : ℕ) → IsJournal (job_of j) j → version ≤ j.done → n < length j.rays
    → l < points_at (job_of j).plan.grid j.number n
    → IsLookingBack j version n l (length j.entries.items) (has (sets_of j.rays n).sure l, has (sets_of j.rays n).possible l)
looking_start j version n l h within ray point = record {
  within = omega arith;
  above = let last = version_last j.entries.items j.done (length j.entries.items) (omega arith) in omega (arith, last, within);
  sure = h.newest.sure n l ray point ∙ look_start (sure_at (job_of j) j.number) j.entries.items j.done n l;
  possible = h.newest.possible n l ray point ∙ look_start (possible_at (job_of j) j.number) j.entries.items j.done n l;
}

-- it goes one entry back
pub looking_step : (j : Journal) (version n l place : ℕ) (marks : Bool × Bool) → IsJournal (job_of j) j → n < length j.rays
    → l < points_at (job_of j).plan.grid j.number n → place < length j.entries.items → version ≤ edit_at j.entries.items place
    → IsLookingBack j version n l (place + 1) marks
    → IsLookingBack j version n l place (
      was (entry_at j.entries.items place).is_undo
          (among sure_of (changes_of j.changes.items (entry_at j.entries.items place)) n l) marks.0,
      was (entry_at j.entries.items place).is_undo
          (among possible_of (changes_of j.changes.items (entry_at j.entries.items place)) n l) marks.1,
    )
looking_step j version n l place marks h ray point low from looking =
    let e = entry_at j.entries.items place in
    record {
      within = omega (arith, low);
      above = let here = version_here j.entries.items j.done place low in omega (arith, here, from);
      sure =
          ap (was e.is_undo (among sure_of (changes_of j.changes.items e) n l)) looking.sure
          ∙ sym (look_step (sure_at (job_of j) j.number) sure_of _ _ j.changes.items j.entries.items _ j.done place n l
          h.tracked_sure h.kept low ray point);
      possible =
          ap (was e.is_undo (among possible_of (changes_of j.changes.items e) n l)) looking.possible
          ∙ sym (look_step (possible_at (job_of j) j.number) possible_of _ _ j.changes.items j.entries.items _ j.done place n l
          h.tracked_possible h.kept low ray point);
    }

-- where the entry before a place is of an edit before a version, all before the place are
pub all_ahead : (entries : List Entry) (version place i : ℕ) → AreAscending entries → place ≤ length entries
    → (0 < place → edit_at entries (place - 1) < version) → i < place → edit_at entries i < version
all_ahead entries version place i ascend within last low =
    let there = last (omega (arith, low)) in
    dite (dec_le (place - 1) i)
    (λ here.
    let is : edit_at entries (place - 1) ≡ edit_at entries i =
    let same : place - 1 ≡ i = omega (arith, here, low) in ap (edit_at entries) same in
    omega (arith, is, there))
    (λ sooner. let order = ascend.each i (place - 1) (omega (arith, sooner)) (omega (arith, within, low)) in omega (arith, order, there))

-- what is known at the end of the walk
pub record IsLookedBack (j : Journal) (version n l : ℕ) (marks : Bool × Bool) : Type 0 where
  pub sure : marks.0 ≡ sure_at (job_of j) j.number version n l
  pub possible : marks.1 ≡ possible_at (job_of j) j.number version n l

-- it ends where no earlier entry is of the version or after it
pub looked_back : (j : Journal) (version n l place : ℕ) (marks : Bool × Bool) → IsJournal (job_of j) j → n < length j.rays
    → l < points_at (job_of j).plan.grid j.number n → (0 < place → edit_at j.entries.items (place - 1) < version)
    → IsLookingBack j version n l place marks → IsLookedBack j version n l marks
looked_back j version n l place marks h ray point last looking =
    let ahead = λ (i : ℕ) (low : i < place). all_ahead j.entries.items version place i h.kept.ascend looking.within last low in
    record {
      sure =
          looking.sure
          ∙ sym (look_end (sure_at (job_of j) j.number) sure_of _ _ j.changes.items j.entries.items _ j.done version place n l
          h.tracked_sure h.kept ahead looking.above ray point);
      possible =
          looking.possible
          ∙ sym (look_end (possible_at (job_of j) j.number) possible_of _ _ j.changes.items j.entries.items _ j.done version place n l
          h.tracked_possible h.kept ahead looking.above ray point);
    }

-- marks that are kept of stock alone give the state of each point
state_of_stock : (a S P : Bool) → (if not a then Absent else (if a && S then Removed else (if a && P then Possible else Kept)))
    ≡ (if not a then Absent else (if S then Removed else (if P then Possible else Kept)))
state_of_stock true S P = refl
state_of_stock false S P = refl

-- the state of the point at the version
pub looked_state : (j : Journal) (version n l : ℕ) (marks : Bool × Bool) → IsJournal (job_of j) j → n < length j.rays
    → l < points_at (job_of j).plan.grid j.number n → IsLookedBack j version n l marks
    → (if not (has (sets_of j.rays n).stock l) then Absent
    else (if marks.0 then Removed else (if marks.1 then Possible else Kept)))
    ≡ state_after (job_of j) (left_moves (job_of j).plan version) (point_at (job_of j).plan.grid j.number n l)
looked_state j version n l marks h ray point looked =
    rw ((h.newest.bodies n ray).stock l point, looked.sure, looked.possible) (state_of_stock (stock_at (job_of j) j.number n l) _ _)

-- in at most one step for each edit since
pub looked_cost : (j : Journal) (version place : ℕ) → IsJournal (job_of j) j → place ≤ length j.entries.items
    → version ≤ version_at j.entries.items j.done place
    → (length j.entries.items - place) + version ≤ j.done
looked_cost j version place h within above = look_cost j.entries.items _ j.done place version h.kept within above
