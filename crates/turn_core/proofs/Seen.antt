-- A strip that is seen at an earlier version than its own: what it counts at a version, and where it is the strip that is seen.
use Rattle.std.proofs.Common.{◌≡◌, ℕ, sym, ap, ◌∙◌, subst}
use Rattle.job_counts.specs.declared.totals.Totals.{Totals}
use Rattle.job_model.specs.Points.{left_moves, strip_points, totals_over}
use Rattle.strip_journal.specs.Strips.{StripOf}

-- the strip at another version
abbrev at : StripOf → ℕ → StripOf
at strip done = record strip { done = done }

pub totals_seen : (strip seen : StripOf) (done version : ℕ) (totals : Totals) → record strip { done = done } ≡ seen
    → totals ≡ totals_over strip.job (strip_points strip.job.plan.grid strip.number) (left_moves strip.job.plan version)
    → totals ≡ totals_over seen.job (strip_points seen.job.plan.grid seen.number) (left_moves seen.job.plan version)
totals_seen strip seen done version totals is told =
    subst (λ (s : StripOf). totals ≡ totals_over s.job (strip_points s.job.plan.grid s.number) (left_moves s.job.plan version)) is told

-- where it is seen at its own version it is what is seen
pub seen_as_it_is : (strip seen : StripOf) (done : ℕ) → record strip { done = done } ≡ seen → done ≡ strip.done → strip ≡ seen
seen_as_it_is strip seen done is same = ap (λ (n : ℕ). at strip n) (sym same) ∙ is
