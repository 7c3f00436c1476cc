-- A strip of the case is of the plan, has its number, and stays of the case as it advances.
use Rattle.std.proofs.Common.{◌≡◌, ℕ, ◌≤◌, Some, sym, ◌∙◌}
use Rattle.job_model.specs.Tasks.{Job}
use Rattle.strip_journal.specs.Strips.{StripOf}
use Rattle.turn_core.specs.World.{AreOfPlan, AreStrips}
use Rattle.strip_turns.specs.declared.view.BoardStart.{BoardStart}
use Rattle.strip_turns.specs.Cards.{start_version, last, IsCase}

pub case_moved : (c : BoardStart) (k v w : ℕ) (old new : StripOf) → IsCase c k v old → new.job ≡ old.job → new.number ≡ old.number
    → new.done ≡ w → w ≤ last c → IsCase c k w new
case_moved c k v w old new h job number done within = record {
  put_in = h.put_in ∙ (λ i. Some (record { job = sym job i; number = sym number i; done = start_version c k }));
  at = done;
  within = within;
}

pub plan_of : (c : BoardStart) (k v : ℕ) (s : StripOf) → AreOfPlan c.plan c.strips → IsCase c k v s → s.job.plan ≡ c.plan
plan_of c k v s h case = h.plans k (record s { done = start_version c k }) case.put_in

pub number_of : (c : BoardStart) (k v : ℕ) (s : StripOf) → AreOfPlan c.plan c.strips → IsCase c k v s → s.number ≡ k
number_of c k v s h case = h.numbers k (record s { done = start_version c k }) case.put_in

pub job_of : (c : BoardStart) (job : Job) (k v : ℕ) (s : StripOf) → AreStrips job c.strips → IsCase c k v s → s.job ≡ job
job_of c job k v s h case = (h.each k (record s { done = start_version c k }) case.put_in).job_is
