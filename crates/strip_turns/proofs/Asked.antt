-- What a question returns, by the one strip that it raised or by all strips.
use Rattle.std.proofs.Common.{◌≡◌, ℕ, [], ◌∷◌, length, max, ap, subst, sym}
use Rattle.ray_grid.specs.declared.ray.Ray.{Ray}
use Rattle.ray_grid.specs.Strips.{strip_number, strips_of}
use Rattle.edit_plan.specs.declared.query.Ask.{Ask}
use Rattle.edit_plan.specs.declared.query.Ask.TheVariants.{Probe, Count}
use Rattle.job_counts.specs.declared.totals.Answer.TheVariants as answers
use Rattle.job_counts.specs.declared.totals.PointState.{PointState}
use Rattle.job_counts.specs.declared.totals.Totals.{Totals}
use Rattle.ray_grid.specs.Points.{point_in}
use Rattle.job_model.specs.Points.{left_moves, state_after, totals_after}
use Rattle.job_model.specs.Tasks.{Job, PlanOf}
use Rattle.turn_core.specs.World.{AreStrips}
use Rattle.strip_turns.specs.declared.view.View.{View}
use Rattle.strip_turns.specs.declared.view.BoardStart.{BoardStart}
use Rattle.strip_turns.specs.declared.view.LogEntry.TheVariants.{Trip}
use Rattle.strip_turns.specs.Asks.{AllRaised, Asked, Raised}
use Rattle.strip_turns.proofs.Asking.{one_raised}

module _ (c : BoardStart) (plan : PlanOf) (version : ℕ) (ask : Ask) (v w : View) (same : c.plan ≡ plan) where
  -- of one point
  pub probe_told : (ray : Ray) (l : ℕ) (state : PointState) → ask ≡ Probe ray l → Raised c (strip_number plan.grid ray.family ray.i) version v w
      → ((job : Job) → AreStrips job c.strips → state ≡ state_after job (left_moves job.plan version) (point_in job.plan.grid ray l))
      → Asked c record { version = version; ask = ask } (answers.Probe state) v w
  probe_told ray l state is raised told =
      let k = strip_number c.plan.grid ray.family ray.i in
      let one : Raised c k version v w =
      subst (λ (p : PlanOf). Raised c (strip_number p.grid ray.family ray.i) version v w) (sym same) raised in
      subst (λ (a : Ask). Asked c record { version = version; ask = a } (answers.Probe state) v w) (sym is)
      record {
        log = Trip k one.at (max one.at version) ∷ [];
        met = record { strip = k; misses = one.trip.met } ∷ [];
        view = one.trip.view;
        rise = one_raised c k version v w one;
        answer = λ job all. ap answers.Probe (told job all);
      }

  -- of all strips
  pub count_told : (totals : Totals) → ask ≡ Count → AllRaised c version (length (strips_of plan.grid)) v w
      → ((job : Job) → AreStrips job c.strips → totals ≡ totals_after job (left_moves job.plan version))
      → Asked c record { version = version; ask = ask } (answers.Count totals) v w
  count_told totals is raised told =
      let all : AllRaised c version (length (strips_of c.plan.grid)) v w =
      subst (λ (p : PlanOf). AllRaised c version (length (strips_of p.grid)) v w) (sym same) raised in
      subst (λ (a : Ask). Asked c record { version = version; ask = a } (answers.Count totals) v w) (sym is)
      record { log = all.log; met = all.met; view = all.view; rise = all.rise; answer = λ job strips. ap answers.Count (told job strips) }
