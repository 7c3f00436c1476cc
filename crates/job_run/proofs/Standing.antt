-- Strips of a job, by number and version.
use Rattle.std.proofs.Common.{◌≡◌, ℕ, ◌+◌, ◌<◌, ◌≤◌, List, Some, length, get_or, set, arith, sym, ap, ◌∙◌, subst}
use Rattle.std.specs.List.{slice_get}
use Rattle.std.proofs.lemmas.List.{get_or-map, get_or-set_other, get_or-set_same, length-map}
use Rattle.std.proofs.lemmas.Option.{get_or_from_slice_get, slice_get-get_or, slice_get_read, slice_get_within}
use native.Mathlib.Decide.{dec_le}
use mathlib.Core.Logic.{dite}
use Rattle.ray_grid.specs.Strips.{strips_of}
use Rattle.job_model.specs.Tasks.{Job, PlanOf}
use Rattle.strip_journal.specs.Strips.{StripOf}
use Rattle.turn_core.specs.World.{AreStrips, AreStripsAt, versions_of}
use Rattle.job_run.specs.Jobs.{job_with}
use Rattle.job_run.specs.declared.bodies.JobBodies.{JobBodies}
use Rattle.job_run.specs.Strips.{AreAt, AreOf, AreRaised, strip_with}

-- the strip at a place
pub strip_is : (plan : PlanOf) (job : Job) (done : ℕ) (strips : List StripOf) (k : ℕ) (s : StripOf) → AreAt plan job done strips
    → k < length strips
    → s ≡ get_or strips k s → s ≡ strip_with job done k
strip_is plan job done strips k s at lt is =
    let e : length strips ≡ length strips = omega arith in
    at.first.each k s (slice_get_read strips (length strips) k s e lt is)

-- fresh strips are strips of their job
of_fresh : (plan : PlanOf) (job : Job) (strips : List StripOf) → AreAt plan job 0 strips → AreOf plan job strips
of_fresh plan job strips at = record {
  plan_is = at.plan_is;
  grid = at.grid;
  strips_are = record {
    many = at.first.many ∙ ap (λ (p : PlanOf). length (strips_of p.grid)) (sym at.plan_is);
    each = λ k s is.
        let e = at.first.each k s is in
        let zero_done : s.done ≡ 0 = ap (λ (z : StripOf). z.done) e in
        record { job_is = ap (λ (z : StripOf). z.job) e; number_is = ap (λ (z : StripOf). z.number) e; within = omega arith };
  };
}

-- strips that were made by a draft are strips of the plan that it became
pub of_made : (draft plan : PlanOf) (bodies : JobBodies) (made : List StripOf) → plan ≡ draft → AreAt draft (job_with draft bodies) 0 made
    → AreOf plan (job_with plan bodies) made
of_made draft plan bodies made is at =
    of_fresh plan (job_with plan bodies) made (subst (λ (p : PlanOf). AreAt p (job_with p bodies) 0 made) (sym is) at)

-- they stay strips of the job at other versions
pub of_still : (plan : PlanOf) (job : Job) (before after : List StripOf) → AreOf plan job before → AreStrips job after
    → AreOf plan job after
of_still plan job before after are still = record { plan_is = are.plan_is; grid = are.grid; strips_are = still }

pub version_is : (strips : List StripOf) (k : ℕ) (s : StripOf) → slice_get strips k ≡ Some s → get_or (versions_of strips) k 0 ≡ s.done
version_is strips k s is =
    get_or-map (λ (z : StripOf). z.done) strips k s 0 (slice_get_within strips k s is)
    ∙ ap (λ (z : StripOf). z.done) (get_or_from_slice_get strips k s s is)

-- one more is raised
pub raised_more : (plan : PlanOf) (job : Job) (before after : List StripOf) (k : ℕ) → AreRaised plan job k before
    → AreStripsAt job after (set (versions_of before) k (length plan.edits)) → AreRaised plan job (k + 1) after
raised_more plan job before after k old at =
    let edits : ℕ = length plan.edits in
    let long : length after ≡ length before = at.strips_are.many ∙ sym old.strips_are.strips_are.many in
    let many : length (versions_of before) ≡ length before = length-map before (λ (z : StripOf). z.done) in
    record {
      strips_are = of_still plan job before after old.strips_are at.strips_are;
      raised = λ j s lt is.
          let within : j < length after = slice_get_within after j s is in
          let now : s.done ≡ get_or (set (versions_of before) k edits) j 0 =
          sym (version_is after j s is) ∙ ap (λ l. get_or l j 0) at.versions_are in
          dite (dec_le k j)
          (λ le.
          let e : j ≡ k = omega arith in
          now ∙ ap (λ n. get_or (set (versions_of before) k edits) n 0) e
          ∙ get_or-set_same (versions_of before) k edits 0 (omega arith))
          (λ no.
          let there = slice_get-get_or before j s (omega arith) in
          let ne : j ≡ k → ⊥ = λ e. absurd (omega arith) in
          now ∙ get_or-set_other (versions_of before) k j edits 0 ne
          ∙ version_is before j (get_or before j s) there ∙ old.raised j (get_or before j s) (omega arith) there);
    }

-- then all of them are
pub raised_all : (plan : PlanOf) (job : Job) (strips : List StripOf) (count : ℕ) → length (strips_of plan.grid) ≤ count
    → AreRaised plan job count strips → AreAt plan job (length plan.edits) strips
raised_all plan job strips count all is =
    let many : length strips ≡ length (strips_of plan.grid) =
    is.strips_are.strips_are.many ∙ ap (λ (p : PlanOf). length (strips_of p.grid)) is.strips_are.plan_is in
    record {
      plan_is = is.strips_are.plan_is;
      grid = is.strips_are.grid;
      first = record {
        many = many;
        each = λ k s at.
            let within : k < length strips = slice_get_within strips k s at in
            let one = is.strips_are.strips_are.each k s at in
            let last = is.raised k s (omega arith) at in
            λ i. record { job = one.job_is i; number = one.number_is i; done = last i };
      };
    }
