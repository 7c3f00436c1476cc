use Rattle.std.specs.Prelude.{◌≡◌, ℕ, ◌-◌, ◌<◌, ◌≤◌, pos}
use Rattle.near_points.specs.Lines.{height_at, side_at, width_at}
use Rattle.near_points.specs.Trimmed.{IsPassedAfter}
use Rattle.near_points.proofs.Growing.{back_at}
use Rattle.near_points.proofs.walk.last_kept.Given as goal

abbrev pub invariant-loop-at : goal.invariant-loop-at
invariant-loop-at l = record {
  from : l.l ≤ l.at;
  to : l.at ≤ l.m;
  height_is : l.height ≡ height_at l.first l.step (pos l.at);
  side_is : l.side ≡ side_at l.first l.step (pos l.at);
  width_is : l.width ≡ width_at l.first l.step (pos l.at);
  rise_is : l.rise ≡ back_at l.first l.step (pos l.at);
  behind : (x : ℕ) → l.at < x → x ≤ l.m → IsPassedAfter l.test l.bands l.first l.step (pos x);
}

abbrev pub decreases-loop-at : goal.decreases-loop-at
decreases-loop-at l = l.at - l.l
