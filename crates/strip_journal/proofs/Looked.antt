-- Looking back by what is read of the rays and of the entries.
use Rattle.std.proofs.Common.{◌≡◌, ℕ, ◌+◌, ◌-◌, ◌<◌, ◌≤◌, Bool, not, if◌then◌else◌, length, arith, sym, ap, ◌∙◌, subst}
use Rattle.vf_spans.specs.Members.{has}
use Rattle.job_counts.specs.declared.totals.PointState.{PointState}
use Rattle.job_counts.specs.declared.totals.PointState.TheVariants.{Absent, Kept, Possible, Removed}
use Rattle.job_model.specs.Points.{left_moves, state_after}
use Rattle.ray_words.specs.Rays.{KeptSets}
use Rattle.ray_words.specs.Rows.{kept_at}
use Rattle.strip_marks.specs.Marks.{AreInOrder, among, point_at, points_at, possible_of, sure_of}
use Rattle.strip_journal.specs.declared.entry.Entry.{Entry}
use Rattle.strip_journal.specs.declared.journal.Journal.{Journal}
use Rattle.strip_journal.specs.Entries.{changes_of, edit_at, entry_at, was}
use Rattle.strip_journal.specs.Journals.{IsJournal, job_of}
use Rattle.strip_journal.specs.Looking.{IsLookingBack}
use Rattle.strip_journal.proofs.LookBack.{looked_back, looked_cost, looked_state, looking_start, looking_step}

-- the walk begins past the last entry
pub look_begins : (j : Journal) (version n l place : ℕ) (ray : KeptSets) (sure possible : Bool) → IsJournal (job_of j) j → version ≤ j.done
    → n < length j.rays → l < points_at j.plan.value.grid j.number n → ray ≡ kept_at j.rays n
    → place ≡ length j.entries.items → sure ≡ has ray.sets.sure l → possible ≡ has ray.sets.possible l
    → IsLookingBack j version n l place (sure, possible)
look_begins j version n l place ray sure possible h within low point read past first second =
    let start = looking_start j version n l h within low point in
    subst (λ (p : ℕ). IsLookingBack j version n l p (sure, possible)) (sym past)
    record {
      within = start.within;
      above = start.above;
      sure = first ∙ ap (λ (r : KeptSets). has r.sets.sure l) read ∙ start.sure;
      possible = second ∙ ap (λ (r : KeptSets). has r.sets.possible l) read ∙ start.possible;
    }

-- what is needed to look back from an entry
pub record IsEntryOf (j : Journal) (entry : Entry) : Type 0 where
  pub order : entry.from ≤ entry.to
  pub within : entry.to ≤ length j.changes.items
  pub sorted : AreInOrder (changes_of j.changes.items entry)

pub entry_of_journal : (j : Journal) (place : ℕ) (entry : Entry) → IsJournal (job_of j) j → place < length j.entries.items
    → entry ≡ entry_at j.entries.items place → IsEntryOf j entry
entry_of_journal j place entry h low read =
    subst (λ (e : Entry). IsEntryOf j e) (sym read)
    record { order = h.kept.order place low; within = h.kept.within place low; sorted = h.sorted place low }

-- it goes one entry back
pub look_goes_on : (j : Journal) (version n l place edit : ℕ) (entry : Entry) (marks next : Bool × Bool) → IsJournal (job_of j) j
    → n < length j.rays → l < points_at j.plan.value.grid j.number n → 0 < place
    → entry ≡ entry_at j.entries.items (place - 1) → edit ≡ edit_at j.entries.items (place - 1) → version ≤ edit
    → next.0 ≡ was entry.is_undo (among sure_of (changes_of j.changes.items entry) n l) marks.0
    → next.1 ≡ was entry.is_undo (among possible_of (changes_of j.changes.items entry) n l) marks.1
    → IsLookingBack j version n l place marks → IsLookingBack j version n l (place - 1) next
look_goes_on j version n l place edit entry marks next h low point some is same from first second looking =
    let few : place - 1 < length j.entries.items = let within = looking.within in omega (arith, within, some) in
    let here : place ≡ place - 1 + 1 = omega (arith, some) in
    let step =
    looking_step j version n l (place - 1) marks h low point few (omega (arith, from, same))
    (subst (λ (p : ℕ). IsLookingBack j version n l p marks) here looking) in
    record {
      within = step.within;
      above = step.above;
      sure = first ∙ ap (λ (e : Entry). was e.is_undo (among sure_of (changes_of j.changes.items e) n l) marks.0) is ∙ step.sure;
      possible =
          second
          ∙ ap (λ (e : Entry). was e.is_undo (among possible_of (changes_of j.changes.items e) n l) marks.1) is
          ∙ step.possible;
    }

-- it took a step for each entry that it went back
pub look_cost_on : (old steps size place : ℕ) → 0 < place → place ≤ size → steps ≤ old + (size - place)
    → steps + 1 ≤ old + (size - (place - 1))
look_cost_on old steps size place some within cost = omega arith

-- it ends with the state at the version
pub look_ends : (j : Journal) (version n l place : ℕ) (ray : KeptSets) (stock : Bool) (marks : Bool × Bool) (told : PointState)
    → IsJournal (job_of j) j → n < length j.rays → l < points_at j.plan.value.grid j.number n
    → ray ≡ kept_at j.rays n
    → stock ≡ has ray.sets.stock l
    → told ≡ (if not stock then Absent else (if marks.0 then Removed else (if marks.1 then Possible else Kept)))
    → (0 < place → edit_at j.entries.items (place - 1) < version)
    → IsLookingBack j version n l place marks
    → told ≡ state_after (job_of j) (left_moves j.plan.value version) (point_at j.plan.value.grid j.number n l)
look_ends j version n l place ray stock marks told h low point read is tells last looking =
    tells
    ∙ ap (λ (b : Bool). if not b then Absent else (if marks.0 then Removed else (if marks.1 then Possible else Kept)))
    (is ∙ ap (λ (r : KeptSets). has r.sets.stock l) read)
    ∙ looked_state j version n l marks h low point (looked_back j version n l place marks h low point last looking)

-- so it took no more steps than edits were done since the version
pub look_cost : (j : Journal) (version n l place old steps : ℕ) (marks : Bool × Bool) → IsJournal (job_of j) j
    → IsLookingBack j version n l place marks → steps ≤ old + (length j.entries.items - place) → steps ≤ old + (j.done - version)
look_cost j version n l place old steps marks h looking cost =
    let most = looked_cost j version place h looking.within looking.above in omega (arith, most, cost)
