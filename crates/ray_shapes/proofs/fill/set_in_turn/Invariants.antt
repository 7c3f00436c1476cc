use Rattle.std.proofs.Common.{◌≡◌, ℕ, ◌<◌, ◌≤◌, ◌&&◌, ltb, IsTrue, length, take}
use Rattle.vf_spans.specs.Members.{has}
use Rattle.ray_shapes.specs.Lines.{position}
use Rattle.ray_shapes.specs.Planes.{in_bodies}
use Rattle.ray_shapes.proofs.fill.set_in_turn.Given as goal

abbrev pub invariant-loop-body : goal.invariant-loop-body
invariant-loop-body l = record {
  bound : length l.set ≡ l.line.points;
  below : (i : ℕ) → IsTrue (has l.set i) → i < l.end;
  held : (i : ℕ) → has l.set i ≡ (ltb i l.line.points && in_bodies (take l.body-index l.bodies) (position l.line.family l.line.first l.line.step i));
  full : (i : ℕ) → l.first ≤ i → i < l.end → IsTrue (has l.set i);
}
