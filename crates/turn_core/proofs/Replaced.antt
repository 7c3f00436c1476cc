-- One strip of all is replaced by the same strip at another version.
use Rattle.std.proofs.Common.{◌≡◌, ℕ, ◌<◌, ◌≤◌, List, Some, length, get_or, set, max, arith, sym, ap, ◌∙◌, subst, ⊎_elim}
use Rattle.std.specs.List.{slice_get}
use Rattle.std.proofs.lemmas.List.{get_or-set_other, get_or-set_same, length-set}
use Rattle.std.proofs.lemmas.Option.{get_or_from_slice_get, slice_get-get_or, slice_get_within}
use native.Mathlib.Decide.{dec_le}
use mathlib.Core.Logic.{dite, ◌⊎◌, inl, inr}
use Rattle.ray_grid.specs.Grids.{GridSize}
use Rattle.ray_grid.specs.Strips.{strips_of}
use Rattle.job_model.specs.Tasks.{Job, PlanOf}
use Rattle.strip_journal.specs.Strips.{StripOf}
use Rattle.turn_core.specs.Turns.{IsRaised, IsStopped}
use Rattle.turn_core.specs.World.{AreOfPlan, AreStrips, IsStrip}

-- the same strip of the same job
pub record IsMoved (before after : StripOf) : Type 0 where
  pub job : after.job ≡ before.job
  pub number : after.number ≡ before.number

pub raised_moved : (before after : StripOf) (version : ℕ) → IsRaised before after version → IsMoved before after
raised_moved before after version h = record { job = h.job; number = h.number }

pub stopped_moved : (before after : StripOf) (version : ℕ) → IsStopped before after version → IsMoved before after
stopped_moved before after version h = record { job = h.job; number = h.number }

-- a strip of the plan's grid is one of all
pub number_in : (plan : PlanOf) (grid : GridSize) (strips : List StripOf) (k : ℕ) → AreOfPlan plan strips → grid ≡ plan.grid
    → k < length (strips_of grid) → k < length strips
number_in plan grid strips k h same lt =
    let many = h.many in
    let there : k < length (strips_of plan.grid) = subst (λ (g : GridSize). k < length (strips_of g)) same lt in
    omega arith

-- an element of a list after a write is the one that was written, or it was there before
set_cases : {X : Type 0} (xs : List X) (k : ℕ) (y : X) (j : ℕ) (x : X) → slice_get (set xs k y) j ≡ Some x
    → ((j ≡ k) × (y ≡ x)) ⊎ (slice_get xs j ≡ Some x)
set_cases xs k y j x is =
    let long = length-set xs k y in
    let lt : j < length (set xs k y) = slice_get_within (set xs k y) j x is in
    let here : get_or (set xs k y) j x ≡ x = get_or_from_slice_get (set xs k y) j x x is in
    let far : (j ≡ k → ⊥) → ((j ≡ k) × (y ≡ x)) ⊎ (slice_get xs j ≡ Some x) = λ no.
    inr (slice_get-get_or xs j x (omega arith) ∙ ap Some (sym (get_or-set_other xs k j y x no) ∙ here)) in
    dite (dec_le j k)
    (λ a. dite (dec_le k j)
    (λ b.
    let e : j ≡ k = omega arith in
    inl (e, sym (get_or-set_same xs k y x (omega arith)) ∙ ap (λ n. get_or (set xs k y) n x) (sym e) ∙ here))
    (λ no. far (λ e. absurd (omega arith))))
    (λ no. far (λ e. absurd (omega arith)))

-- the strip of a number is of the plan
pub plan_at : (plan : PlanOf) (strips : List StripOf) (k : ℕ) (x : StripOf) → AreOfPlan plan strips → k < length strips
    → (get_or strips k x).job.plan ≡ plan
plan_at plan strips k x h lt = h.plans k (get_or strips k x) (slice_get-get_or strips k x lt)

-- and it has that number
pub number_at : (plan : PlanOf) (strips : List StripOf) (k : ℕ) (x : StripOf) → AreOfPlan plan strips → k < length strips
    → (get_or strips k x).number ≡ k
number_at plan strips k x h lt = h.numbers k (get_or strips k x) (slice_get-get_or strips k x lt)

-- strips of a job and of a plan are of that job's plan
pub plan_is : (plan : PlanOf) (job : Job) (strips : List StripOf) (k : ℕ) (x : StripOf) → AreOfPlan plan strips → AreStrips job strips
    → k < length strips → job.plan ≡ plan
plan_is plan job strips k x h all lt =
    ap (λ (j : Job). j.plan) (sym (all.each k (get_or strips k x) (slice_get-get_or strips k x lt)).job_is) ∙ plan_at plan strips k x h lt

-- they stay strips of the plan
pub plan_set : (plan : PlanOf) (strips : List StripOf) (k : ℕ) (x new : StripOf) → AreOfPlan plan strips → k < length strips
    → IsMoved (get_or strips k x) new → AreOfPlan plan (set strips k new)
plan_set plan strips k x new h lt moved =
    record {
      many = length-set strips k new ∙ h.many;
      plans = λ j s is. ⊎_elim
          (λ e. ap (λ (z : StripOf). z.job.plan) (sym e.1) ∙ ap (λ (z : Job). z.plan) moved.job ∙ plan_at plan strips k x h lt)
          (λ old. h.plans j s old) (set_cases strips k new j s is);
      numbers = λ j s is. ⊎_elim
          (λ e. ap (λ (z : StripOf). z.number) (sym e.1) ∙ moved.number ∙ number_at plan strips k x h lt ∙ sym e.0)
          (λ old. h.numbers j s old) (set_cases strips k new j s is);
    }

-- they stay strips of the job, where the new version is one that the plan has
pub strips_set : (plan : PlanOf) (job : Job) (strips : List StripOf) (k : ℕ) (x new : StripOf) → AreOfPlan plan strips
    → k < length strips → IsMoved (get_or strips k x) new
    → new.done ≤ max (get_or strips k x).done (length plan.edits) → AreStrips job strips → AreStrips job (set strips k new)
strips_set plan job strips k x new h lt moved most all =
    let old = all.each k (get_or strips k x) (slice_get-get_or strips k x lt) in
    let edits : length job.plan.edits ≡ length plan.edits = ap (λ (p : PlanOf). length p.edits) (plan_is plan job strips k x h all lt) in
    let within : new.done ≤ length job.plan.edits = omega (arith, old.within) in
    let here : IsStrip job k new = record { job_is = moved.job ∙ old.job_is; number_is = moved.number ∙ old.number_is; within = within } in
    record {
      many = length-set strips k new ∙ all.many;
      each = λ j s is. ⊎_elim
          (λ e. subst (λ (n : ℕ). IsStrip job n s) (sym e.0) (subst (λ (z : StripOf). IsStrip job k z) e.1 here))
          (λ before. all.each j s before) (set_cases strips k new j s is);
    }
