-- The strips that a crew leaves are all at the last version.
use Rattle.std.proofs.Common.{◌≡◌, ℕ, ◌<◌, List, length, arith, sym, ap, ◌∙◌, subst}
use Rattle.ray_grid.specs.Strips.{strips_of}
use Rattle.job_model.specs.Tasks.{Job, PlanOf}
use Rattle.strip_journal.specs.Strips.{StripOf}
use Rattle.turn_core.specs.World.{AreOfPlan, AreStrips}
use Rattle.strip_turns.specs.Cards.{last, start_version}
use Rattle.strip_turns.specs.Closed.{AreBoardStrips}
use Rattle.strip_turns.specs.Log.{logged_version}
use Rattle.strip_turns.specs.declared.view.BoardStart.{BoardStart}
use Rattle.strip_turns.specs.declared.view.View.{View}
use Rattle.job_run.specs.Founds.{AreBroughtUp, AreLast}
use Rattle.job_run.specs.Left.{AreTold}
use Rattle.job_run.specs.Strips.{AreAt, AreOf}
use Rattle.job_run.specs.declared.left.LeftMove.{LeftMove}
use Rattle.job_run.proofs.Standing.{raised_all}

-- the strips of a job are those of its plan
pub of_plan : (plan : PlanOf) (job : Job) (strips : List StripOf) → AreOf plan job strips → AreOfPlan plan strips
of_plan plan job strips are = record {
  many = are.strips_are.many ∙ ap (λ (p : PlanOf). length (strips_of p.grid)) are.plan_is;
  plans = λ k s at. ap (λ (j : Job). j.plan) (are.strips_are.each k s at).job_is ∙ are.plan_is;
  numbers = λ k s at. (are.strips_are.each k s at).number_is;
}

-- where the first pass has seen each at the last version, each is there
pub brought_up : (plan : PlanOf) (job : Job) (c : BoardStart) (v : View) (before after : List StripOf) → AreOf plan job before → AreStrips job after
    → AreBoardStrips c v after → c.plan ≡ plan
    → ((k : ℕ) → k < length (strips_of c.plan.grid) → logged_version k (start_version c k) v.log ≡ last c)
    → AreAt plan job (length plan.edits) after
brought_up plan job c v before after are strips order named reached =
    let of : AreOf plan job after = record { plan_is = are.plan_is; grid = are.grid; strips_are = strips } in
    raised_all plan job after (length (strips_of plan.grid)) (omega arith) record {
      strips_are = of;
      raised = λ k s lt at.
          let given = order.each k s at in
          let one = strips.each k s at in
          let edits = ap (λ (p : PlanOf). length p.edits) are.plan_is in
          let card = ap (λ (p : PlanOf). length p.edits) named in
          let grid = ap (λ (p : PlanOf). length (strips_of p.grid)) named in
          let there = reached k (omega (arith, lt, grid)) in
          let low = given.seen in
          let high = one.within in
          omega (arith, edits, card, there, low, high);
    }

-- read as slices, they and the moves that are left are those of the job
pub up_from : (job : Job) (left read : List LeftMove) (strips there : List StripOf) → read ≡ left → there ≡ strips → AreTold job.plan left
    → AreAt job.plan job (length job.plan.edits) strips → AreBroughtUp job read there
up_from job left read strips there same_left same told at = record {
  strips_are = subst (AreAt job.plan job (length job.plan.edits)) (sym same) at;
  told = subst (AreTold job.plan) (sym same_left) told;
}

pub last_from : (job : Job) (edits : ℕ) (strips there : List StripOf) → there ≡ strips → edits ≡ length job.plan.edits
    → AreAt job.plan job (length job.plan.edits) strips → AreLast job edits there
last_from job edits strips there same many at = record {
  strips_are = subst (AreAt job.plan job (length job.plan.edits)) (sym same) at;
  many = many;
}
