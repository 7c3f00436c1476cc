-- What callers see of a strip after an edit.
use Rattle.std.proofs.Common.{◌≡◌, ℕ, ◌+◌, ◌<◌, ◌≤◌, length, sym, ap, ◌∙◌, subst}
use Rattle.std.specs.Prelude.{Result, Ok, Err, OnOk, OnErr}
use Rattle.job_model.specs.Tasks.{PlanOf}
use Rattle.strip_journal.specs.declared.journal.Journal.{Journal}
use Rattle.strip_journal.specs.Journals.{IsAt, job_of}
use Rattle.strip_journal.specs.Strips.{StripOf}
use Rattle.strip_journal.proofs.ToldFound.{strip_of}

-- what follows from either
pub on_either : {A E : Type 0} (P Q R : Type 0) (r : Result A E) → (P → R) → (Q → R) → OnOk r P → OnErr r Q → R
on_either P Q R (Ok a) f g p q = f p
on_either P Q R (Err e) f g p q = g q

-- the plan of the strip is that of its journal
pub plan_told : (j : Journal) (s : StripOf) (plan : PlanOf) → strip_of j ≡ s → s.job.plan ≡ plan → j.plan.value ≡ plan
plan_told j s plan is same = ap (λ (t : StripOf). t.job.plan) is ∙ same

pub next_told : (j : Journal) (s : StripOf) (plan : PlanOf) → strip_of j ≡ s → s.done < length plan.edits → j.done < length plan.edits
next_told j s plan is low = subst (λ (t : StripOf). t.done < length plan.edits) (sym is) low

pub run_told : (j : Journal) (s : StripOf) (plan : PlanOf) (most : ℕ) → strip_of j ≡ s → s.done + most ≤ length plan.edits
    → j.done + most ≤ length plan.edits
run_told j s plan most is low = subst (λ (t : StripOf). t.done + most ≤ length plan.edits) (sym is) low

-- the strip of a journal after `done` edits
seen_at : (j k : Journal) (done : ℕ) → IsAt j k done → strip_of k ≡ record { job = job_of j; number = j.number; done = done }
seen_at j k done at = λ i. record { job = at.job i; number = at.number i; done = at.done_is i }

-- after `count` edits, after one, and when out of memory
pub passed_told : (j k : Journal) (s : StripOf) (count : ℕ) → strip_of j ≡ s → IsAt j k (j.done + count)
    → strip_of k ≡ record { job = s.job; number = s.number; done = s.done + count }
passed_told j k s count is at =
    seen_at j k (j.done + count) at ∙ ap (λ (t : StripOf). record { job = t.job; number = t.number; done = t.done + count }) is

pub done_told : (j k : Journal) (s : StripOf) → strip_of j ≡ s → IsAt j k (j.done + 1)
    → strip_of k ≡ record { job = s.job; number = s.number; done = s.done + 1 }
done_told j k s is at = passed_told j k s 1 is at

pub same_told : (j k : Journal) (s : StripOf) → strip_of j ≡ s → IsAt j k j.done → strip_of k ≡ s
same_told j k s is at = seen_at j k j.done at ∙ is
