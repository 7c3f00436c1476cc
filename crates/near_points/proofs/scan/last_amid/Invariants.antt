use Rattle.std.specs.Prelude.{◌≡◌, ℕ, ◌-◌, ◌<◌, ◌≤◌, pos, false}
use Rattle.near_points.specs.Lines.{height_at, is_amid_after, side_at}
use Rattle.near_points.proofs.scan.last_amid.Given as goal

abbrev pub invariant-loop-at : goal.invariant-loop-at
invariant-loop-at l = record {
  from : l.l ≤ l.at;
  to : l.at ≤ l.m;
  height_is : l.height ≡ height_at l.first l.step (pos l.at);
  side_is : l.side ≡ side_at l.first l.step (pos l.at);
  behind : (x : ℕ) → l.at < x → x ≤ l.m → is_amid_after l.test l.first l.step (pos x) ≡ false;
}

abbrev pub decreases-loop-at : goal.decreases-loop-at
decreases-loop-at l = l.at - l.l
