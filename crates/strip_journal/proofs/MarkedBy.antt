-- An Apply of a plan that the journal is of, for the plan that is handed in.
use Rattle.std.proofs.Common.{◌≡◌, ℕ, ◌+◌, ◌^◌, ◌<◌, List, Some, length, slice_get, arith, sym, ap, subst}
use Rattle.std.specs.Prelude.{All}
use Rattle.std.proofs.lemmas.Option.{slice_get_within}
use Rattle.edit_plan.specs.declared.edit.Edit.TheVariants.{Apply}
use Rattle.job_counts.specs.declared.counts.Counts.{Counts}
use Rattle.job_model.specs.Tasks.{JobMove, PlanOf}
use Rattle.strip_plan.specs.Plans.{HasNumber}
use Rattle.strip_marks.specs.declared.change.WordChange.{WordChange}
use Rattle.strip_marks.specs.Marks.{HaveSameSets, IsChangeOn, IsMarkedStrip}
use Rattle.strip_journal.specs.declared.journal.Journal.{Journal}
use Rattle.strip_journal.specs.Journals.{IsAt, IsJournal, job_of}
use Rattle.strip_journal.specs.Steps.{CanStand, FitsEntry, HasSameEdits, IsApplied}
use Rattle.strip_journal.proofs.Entered.{named_move}
use Rattle.strip_journal.proofs.EnteredRoom.{applied_at, marked_fits, stands_same, stands_so}

-- what is known when a move was marked: by a journal j, as it is afterwards, m
pub record IsMarking (plan : PlanOf) (j m : Journal) (number : ℕ) (changes : List WordChange) (counts : Counts) : Type 0 where
  pub journal : IsJournal (job_of j) j
  pub plan_is : j.plan.value ≡ plan
  pub applies : slice_get plan.edits j.done ≡ Some (Apply number)
  pub low : number < length plan.moves
  pub same : HaveSameSets j.rays m.rays
  pub edits : HasSameEdits j m
  pub marked : (move : JobMove) → HasNumber plan number move → IsMarkedStrip plan move j.number j.rays m.rays changes counts

-- the same of the journal's own plan
pub record IsOwnMarking (j m : Journal) (number : ℕ) (changes : List WordChange) (counts : Counts) : Type 0 where
  pub applies : slice_get (job_of j).plan.edits j.done ≡ Some (Apply number)
  pub low : number < length (job_of j).plan.moves
  pub marked : (move : JobMove) → HasNumber (job_of j).plan number move
      → IsMarkedStrip (job_of j).plan move j.number j.rays m.rays changes counts

own_by : (p q : PlanOf) (j m : Journal) (number : ℕ) (changes : List WordChange) (counts : Counts) → q ≡ p
    → slice_get q.edits j.done ≡ Some (Apply number) → number < length q.moves
    → ((move : JobMove) → HasNumber q number move → IsMarkedStrip q move j.number j.rays m.rays changes counts)
    → (slice_get p.edits j.done ≡ Some (Apply number)) × (number < length p.moves)
    × ((move : JobMove) → HasNumber p number move → IsMarkedStrip p move j.number j.rays m.rays changes counts)
own_by p q j m number changes counts is applies low marked =
    subst
    (λ (z : PlanOf). (slice_get z.edits j.done ≡ Some (Apply number)) × (number < length z.moves)
    × ((move : JobMove) → HasNumber z number move → IsMarkedStrip z move j.number j.rays m.rays changes counts))
    is (applies, low, marked)

pub own_marking : (plan : PlanOf) (j m : Journal) (number : ℕ) (changes : List WordChange) (counts : Counts)
    → IsMarking plan j m number changes counts → IsOwnMarking j m number changes counts
own_marking plan j m number changes counts is =
    let own = own_by (job_of j).plan plan j m number changes counts (sym is.plan_is) is.applies is.low is.marked in
    record { applies = own.0; low = own.1; marked = own.2 }

-- what `take_over` requires
pub marking_fits : (plan : PlanOf) (j m : Journal) (number : ℕ) (changes : List WordChange) (counts : Counts)
    → IsMarking plan j m number changes counts → FitsEntry m counts
marking_fits plan j m number changes counts is =
    let own = own_marking plan j m number changes counts is in
    marked_fits j m number changes counts is.journal own.applies own.low is.edits own.marked

pub marking_on : (plan : PlanOf) (j m : Journal) (number : ℕ) (changes : List WordChange) (counts : Counts)
    → IsMarking plan j m number changes counts → All (IsChangeOn m.rays) changes
marking_on plan j m number changes counts is =
    let named = named_move plan.moves number is.low in (is.marked named.0 named.1).on

pub marking_stands : (plan : PlanOf) (j m : Journal) (number : ℕ) (changes : List WordChange) (counts : Counts)
    → IsMarking plan j m number changes counts → CanStand m
marking_stands plan j m number changes counts is =
    let own = own_marking plan j m number changes counts is in
    stands_same j m is.edits (stands_so j is.journal (slice_get_within (job_of j).plan.edits j.done (Apply number) own.applies))

-- and the journal after it
pub marking_at : (plan : PlanOf) (j m l : Journal) (number : ℕ) (changes : List WordChange) (counts : Counts)
    → IsMarking plan j m number changes counts → length m.changes.items + length changes < 2 ^ 32 → IsApplied m l changes counts
    → IsAt j l (j.done + 1)
marking_at plan j m l number changes counts is few applied =
    let own = own_marking plan j m number changes counts is in
    let size : length m.changes.items ≡ length j.changes.items = ap (λ (z : List WordChange). length z) is.edits.changes in
    applied_at j m l number changes counts is.journal own.applies own.low is.same is.edits own.marked (omega (arith, size, few)) applied
