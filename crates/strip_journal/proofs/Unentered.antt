-- A move that doesn't enter the strip: its edit is added to those that are left, and nothing else changes.
use Rattle.std.proofs.Common.{◌≡◌, ℕ, ◌+◌, ◌<◌, ◌≤◌, true, false, Bool, ◌||◌, List, [], ◌++◌, Some, length, slice_get, arith, refl, sym, ap, ◌∙◌, subst}
use Rattle.std.proofs.lemmas.List.{append-nil}
use Rattle.std.proofs.lemmas.Option.{slice_get_within}
use Rattle.ray_grid.specs.Strips.{strip_at, strips_of}
use Rattle.edit_plan.specs.declared.edit.Edit.TheVariants.{Apply}
use Rattle.job_counts.specs.declared.counts.Counts.{Counts}
use Rattle.job_counts.specs.Counts.{no_counts}
use Rattle.job_model.specs.Tasks.{IsPlan, JobMove, PlanOf}
use Rattle.ray_words.specs.Rays.{KeptSets}
use Rattle.strip_plan.specs.Plans.{HasNumber}
use Rattle.strip_plan.specs.Windows.{HoldsEntered}
use Rattle.strip_marks.specs.declared.change.WordChange.{WordChange}
use Rattle.strip_marks.specs.Marks.{AreRays}
use Rattle.strip_marks.proofs.WholeStrips.{unentered_strip}
use Rattle.strip_journal.specs.declared.journal.Journal.{Journal}
use Rattle.strip_journal.specs.Journals.{IsAt, IsJournal, job_of}
use Rattle.strip_journal.specs.Steps.{AreRaysTurned, CanStand, IsApplied, IsStood, applied_entry, does_nothing, noted}
use Rattle.strip_journal.proofs.EnteredParts.{nothing_done}
use Rattle.strip_journal.proofs.EnteredRoom.{stands_so}
use Rattle.strip_journal.proofs.MarkedBy.{IsMarking, marking_at}

or_false : (b : Bool) → b ≡ (b || false)
or_false true = refl
or_false false = refl

-- no changes turn no ray
none_turned : (before after : List KeptSets) → after ≡ before → AreRaysTurned before after [] false
none_turned before after same =
    subst (λ (rays : List KeptSets). AreRaysTurned before rays [] false) (sym same)
    (record {
      many = refl;
      each = λ n low. record {
        stock = refl;
        part = refl;
        fixture = refl;
        sure_bound = refl;
        possible_bound = refl;
        sure = λ l. or_false _;
        possible = λ l. or_false _;
        first = refl;
        count = refl;
      };
    })

-- an edit that is added to those left, and changes and finds nothing, is applied
stood_applied : (j l : Journal) → IsStood j l → IsApplied j l [] no_counts
stood_applied j l stood = record {
  strip = stood.strip;
  rays = none_turned j.rays l.rays stood.rays;
  changes_are = stood.changes ∙ sym (append-nil j.changes.items);
  entries = stood.entries;
  line = stood.line;
  at = stood.at;
  done = stood.done;
}

-- so is one with a move that is found to do nothing
pub idle_applied : (j l : Journal) (changes : List WordChange) (counts : Counts) → does_nothing changes counts ≡ true → IsStood j l
    → IsApplied j l changes counts
idle_applied j l changes counts is stood =
    let empty = sym (nothing_done changes counts is).changes_are in
    record {
      strip = stood.strip;
      rays = subst (λ (z : List WordChange). AreRaysTurned j.rays l.rays z false) empty (none_turned j.rays l.rays stood.rays);
      changes_are =
          stood.changes ∙ sym (append-nil j.changes.items) ∙ ap (λ (z : List WordChange). j.changes.items ++ z) empty;
      entries = stood.entries ∙ ap (λ (b : Bool). noted b j.entries.items (applied_entry j.done j changes counts)) (sym is);
      line = stood.line;
      at = stood.at;
      done = stood.done;
    }

-- nothing is marked there
unentered_marking : (plan : PlanOf) (j : Journal) (number lo hi : ℕ) → IsJournal (job_of j) j → j.plan.value ≡ plan
    → slice_get plan.edits j.done ≡ Some (Apply number) → number < length plan.moves → lo ≡ hi
    → hi ≤ length (strip_at plan.grid j.number)
    → ((move : JobMove) → HasNumber plan number move → HoldsEntered plan move j.number lo hi)
    → IsMarking plan j j number [] no_counts
unentered_marking plan j number lo hi h plan_is applies low empty within window =
    let valid = subst (λ (p : PlanOf). IsPlan p) plan_is h.valid in
    let there = subst (λ (p : PlanOf). j.number < length (strips_of p.grid)) plan_is h.strip in
    let own = subst (λ (p : PlanOf). AreRays p.grid j.number j.rays) plan_is h.newest.rays in
    record {
      journal = h;
      plan_is = plan_is;
      applies = applies;
      low = low;
      same = record { many = refl; sets = λ n few. refl; kept = λ n k few kept. kept };
      edits = record {
        strip = record { job = refl; number = refl; of = refl };
        changes = refl;
        entries = refl;
        line = refl;
        at = refl;
        done = refl;
      };
      marked = λ move named.
          unentered_strip plan number move j.number lo hi j.rays [] no_counts valid named there own empty
          (let many = own.many in omega (arith, within, many)) (window move named) refl refl;
    }

-- the journal after such an edit
pub unentered_at : (plan : PlanOf) (j l : Journal) (number lo hi : ℕ) → IsJournal (job_of j) j → j.plan.value ≡ plan
    → slice_get plan.edits j.done ≡ Some (Apply number) → number < length plan.moves → lo ≡ hi
    → hi ≤ length (strip_at plan.grid j.number)
    → ((move : JobMove) → HasNumber plan number move → HoldsEntered plan move j.number lo hi)
    → IsStood j l → IsAt j l (j.done + 1)
unentered_at plan j l number lo hi h plan_is applies low empty within window stood =
    marking_at plan j j l number [] no_counts (unentered_marking plan j number lo hi h plan_is applies low empty within window)
    (let few = h.few_changes in omega (arith, few)) (stood_applied j l stood)

-- where an edit of the plan comes next there is a place for it
pub stands_apply : (plan : PlanOf) (j : Journal) (number : ℕ) → IsJournal (job_of j) j → j.plan.value ≡ plan
    → slice_get plan.edits j.done ≡ Some (Apply number) → CanStand j
stands_apply plan j number h plan_is applies =
    stands_so j h
    (subst (λ (p : PlanOf). j.done < length p.edits) (sym plan_is) (slice_get_within plan.edits j.done (Apply number) applies))
