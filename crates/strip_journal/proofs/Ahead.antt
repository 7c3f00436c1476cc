-- The totals that are kept before a place are those of its version.
use Rattle.std.proofs.Common.{◌≡◌, ℕ, zero, suc, ◌+◌, ◌-◌, ◌<◌, ◌≤◌, ◌==◌, Bool, false, List, length, arith, sym, ap, ◌∙◌}
use Rattle.std.proofs.lemmas.Bool.{cond-false, ne_eqb}
use native.Mathlib.Decide.{dec_le}
use mathlib.Core.Logic.{dite}
use Rattle.ray_grid.specs.Strips.{strip_at}
use Rattle.job_model.specs.Points.{left_moves, strip_points, totals_over}
use Rattle.job_model.specs.Tasks.{Job}
use Rattle.strip_marks.specs.declared.change.WordChange.{WordChange}
use Rattle.strip_marks.specs.Marks.{points_at, possible_of, sure_of}
use Rattle.strip_journal.specs.declared.entry.Entry.{Entry}
use Rattle.strip_journal.specs.declared.journal.Journal.{Journal}
use Rattle.strip_journal.specs.Entries.{AreAscending, HasNo, IsFirstEntryFrom, edit_at, entry_at, possible_ahead, removed_ahead}
use Rattle.strip_journal.specs.Journals.{IsJournal, MatchesEntries, job_of, possible_at, sure_at}
use Rattle.strip_journal.proofs.KeptParts.{IsHeld, Parts, held_of, parts_of}
use Rattle.strip_journal.proofs.PointTotals.{nothing_left, nothing_possible, same_possible_totals, same_totals}
use Rattle.strip_journal.proofs.Tracking.{gap}

-- how many stock points of a strip are removed, and at how many a move is possible, at a version
abbrev pub removed_by : Job → ℕ → ℕ → ℕ
removed_by job strip version = (totals_over job (strip_points job.plan.grid strip) (left_moves job.plan version)).removed

abbrev pub possible_by : Job → ℕ → ℕ → ℕ
possible_by job strip version = (totals_over job (strip_points job.plan.grid strip) (left_moves job.plan version)).possible

-- at the version before all edits none is
removed_first : (job : Job) (strip : ℕ) → removed_by job strip 0 ≡ 0
removed_first job strip = nothing_left job (strip_points job.plan.grid strip)

possible_first : (job : Job) (strip : ℕ) → possible_by job strip 0 ≡ 0
possible_first job strip = nothing_possible job (strip_points job.plan.grid strip)

-- after an entry the totals are its own
not_first : (k : ℕ) → (suc k == 0) ≡ false
not_first k = ne_eqb (suc k) 0 (λ e. omega (arith, e))

pub removed_behind : (entries : List Entry) (k : ℕ) → removed_ahead entries (suc k) ≡ (entry_at entries k).removed
removed_behind entries k =
    let less : suc k - 1 ≡ k = omega arith in
    cond-false (suc k == 0) 0 (entry_at entries (suc k - 1)).removed (not_first k) ∙ ap (λ i. (entry_at entries i).removed) less

pub possible_behind : (entries : List Entry) (k : ℕ) → possible_ahead entries (suc k) ≡ (entry_at entries k).possible
possible_behind entries k =
    let less : suc k - 1 ≡ k = omega arith in
    cond-false (suc k == 0) 0 (entry_at entries (suc k - 1)).possible (not_first k) ∙ ap (λ i. (entry_at entries i).possible) less

-- no entry is between the edit of the entry before a place and its version
between : (entries : List Entry) (version p v : ℕ) → AreAscending entries → IsFirstEntryFrom entries version (suc p) → edit_at entries p < v
    → v < version → HasNo entries v
between entries version p v ascend place above below q low is =
    dite (dec_le (suc p) q)
    (λ behind. let far = place.behind q behind low in omega (arith, far, is, below))
    (λ no.
    dite (dec_le p q)
    (λ last. let here : edit_at entries p ≡ edit_at entries q = let same : p ≡ q = omega (arith, no, last) in ap (edit_at entries) same in
    omega (arith, here, is, above))
    (λ early.
    let order = ascend.each q p (omega (arith, early)) (omega (arith, place.within)) in omega (arith, order, is, above)))

-- no entry is before the first place
ahead_of_all : (entries : List Entry) (version v : ℕ) → IsFirstEntryFrom entries version 0 → v < version → HasNo entries v
ahead_of_all entries version v place below q low is =
    let far = place.behind q (omega arith) low in omega (arith, far, is, below)

-- a total by versions: it is nothing at first, and the same where the set is the same
pub record IsTotal (of : ℕ → ℕ → ℕ → Bool) (rays : ℕ) (points : ℕ → ℕ) (total : ℕ → ℕ) : Type 0 where
  pub first : total 0 ≡ 0
  pub same : (v w : ℕ) → ((n l : ℕ) → n < rays → l < points n → of v n l ≡ of w n l) → total v ≡ total w

-- the total at the version of a place is that after the edit of the entry before it
total_ahead : (of : ℕ → ℕ → ℕ → Bool) (pick : WordChange → ℕ) (rays : ℕ) (points : ℕ → ℕ) (total : ℕ → ℕ) (changes : List WordChange)
    (entries : List Entry) (done version p : ℕ) → IsTotal of rays points total → MatchesEntries of pick rays points changes entries done
    → AreAscending entries → IsFirstEntryFrom entries version (suc p) → version ≤ done → total (edit_at entries p + 1) ≡ total version
total_ahead of pick rays points total changes entries done version p is tracked ascend place within =
    let above = place.ahead p (omega arith) in
    is.same (edit_at entries p + 1) version
    (λ n l ray point.
    gap of pick rays points changes entries done (edit_at entries p + 1) version n l tracked (omega (arith, above)) within
    (λ v from below. between entries version p v ascend place (omega (arith, from)) below) ray point)

-- and nothing where none is before it
total_first : (of : ℕ → ℕ → ℕ → Bool) (pick : WordChange → ℕ) (rays : ℕ) (points : ℕ → ℕ) (total : ℕ → ℕ) (changes : List WordChange)
    (entries : List Entry) (done version : ℕ) → IsTotal of rays points total → MatchesEntries of pick rays points changes entries done
    → IsFirstEntryFrom entries version 0 → version ≤ done → 0 ≡ total version
total_first of pick rays points total changes entries done version is tracked place within =
    sym is.first
    ∙ is.same 0 version
    (λ n l ray point.
    gap of pick rays points changes entries done 0 version n l tracked (omega arith) within
    (λ v from below. ahead_of_all entries version v place below) ray point)

-- the two totals of a strip
pub sure_total : (job : Job) (strip rays : ℕ) → rays ≡ length (strip_at job.plan.grid strip)
    → IsTotal (sure_at job strip) rays (points_at job.plan.grid strip) (removed_by job strip)
sure_total job strip rays many = record {
  first = removed_first job strip;
  same = λ v w each. same_totals job strip v w (λ n l ray point. each n l (omega (arith, ray, many)) point);
}

pub possible_total : (job : Job) (strip rays : ℕ) → rays ≡ length (strip_at job.plan.grid strip)
    → IsTotal (possible_at job strip) rays (points_at job.plan.grid strip) (possible_by job strip)
possible_total job strip rays many = record {
  first = possible_first job strip;
  same = λ v w each. same_possible_totals job strip v w (λ n l ray point. each n l (omega (arith, ray, many)) point);
}

-- what is kept before a place is the total at its version
pub removed_ahead_is : (job : Job) (p : Parts) (version place : ℕ) → IsHeld job p → IsFirstEntryFrom p.entries version place → version ≤ p.done
    → removed_ahead p.entries place ≡ removed_by job p.number version
removed_ahead_is job p version zero held place within =
    total_first (sure_at job p.number) sure_of (length p.rays) (points_at job.plan.grid p.number) (removed_by job p.number) p.changes
    p.entries p.done version (sure_total job p.number (length p.rays) held.newest.rays.many) held.tracked_sure place within
removed_ahead_is job p version (suc k) held place within =
    removed_behind p.entries k
    ∙ held.totals.removed k (omega (arith, place.within))
    ∙ total_ahead (sure_at job p.number) sure_of (length p.rays) (points_at job.plan.grid p.number) (removed_by job p.number) p.changes
    p.entries p.done version k (sure_total job p.number (length p.rays) held.newest.rays.many) held.tracked_sure
    held.kept.ascend place within

pub possible_ahead_is : (job : Job) (p : Parts) (version place : ℕ) → IsHeld job p → IsFirstEntryFrom p.entries version place → version ≤ p.done
    → possible_ahead p.entries place ≡ possible_by job p.number version
possible_ahead_is job p version zero held place within =
    total_first (possible_at job p.number) possible_of (length p.rays) (points_at job.plan.grid p.number) (possible_by job p.number)
    p.changes p.entries p.done version (possible_total job p.number (length p.rays) held.newest.rays.many) held.tracked_possible
    place within
possible_ahead_is job p version (suc k) held place within =
    possible_behind p.entries k
    ∙ held.totals.possible k (omega (arith, place.within))
    ∙ total_ahead (possible_at job p.number) possible_of (length p.rays) (points_at job.plan.grid p.number) (possible_by job p.number)
    p.changes p.entries p.done version k (possible_total job p.number (length p.rays) held.newest.rays.many) held.tracked_possible
    held.kept.ascend place within

-- the same of a journal
pub totals_ahead_are : (j : Journal) (version place : ℕ) → IsJournal (job_of j) j → IsFirstEntryFrom j.entries.items version place
    → version ≤ j.done
    → removed_ahead j.entries.items place
    ≡ (totals_over (job_of j) (strip_points (job_of j).plan.grid j.number) (left_moves (job_of j).plan version)).removed
totals_ahead_are j version place h is within =
    removed_ahead_is (job_of j) (parts_of j) version place (held_of (job_of j) j h) is within

pub possible_totals_ahead_are : (j : Journal) (version place : ℕ) → IsJournal (job_of j) j → IsFirstEntryFrom j.entries.items version place
    → version ≤ j.done
    → possible_ahead j.entries.items place
    ≡ (totals_over (job_of j) (strip_points (job_of j).plan.grid j.number) (left_moves (job_of j).plan version)).possible
possible_totals_ahead_are j version place h is within =
    possible_ahead_is (job_of j) (parts_of j) version place (held_of (job_of j) j h) is within
