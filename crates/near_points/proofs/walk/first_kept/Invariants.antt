use Rattle.std.specs.Prelude.{◌≡◌, ℕ, ◌+◌, ◌-◌, ◌<◌, ◌≤◌, pos}
use Rattle.near_points.specs.Lines.{height_at, side_at, width_at}
use Rattle.near_points.specs.Trimmed.{IsPassedAfter}
use Rattle.near_points.proofs.Growing.{growth_at}
use Rattle.near_points.proofs.walk.first_kept.Given as goal

abbrev pub invariant-loop-at : goal.invariant-loop-at
invariant-loop-at l = record {
  from : l.l ≤ l.at;
  to : l.at ≤ l.m + 1;
  height_is : l.height ≡ height_at l.first l.step (pos l.at);
  side_is : l.side ≡ side_at l.first l.step (pos l.at);
  width_is : l.width ≡ width_at l.first l.step (pos l.at);
  growth_is : l.growth ≡ growth_at l.first l.step (pos l.at);
  ahead : (x : ℕ) → l.l ≤ x → x < l.at → IsPassedAfter l.test l.bands l.first l.step (pos x);
}

abbrev pub decreases-loop-at : goal.decreases-loop-at
decreases-loop-at l = l.m + 1 - l.at
