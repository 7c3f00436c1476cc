use Rattle.std.proofs.Common.{◌↔◌, ℕ, ◌<◌, ◌≤◌, IsTrue, take}
use Rattle.ray_shapes.specs.Lines.{position}
use Rattle.ray_shapes.specs.Planes.{in_body}
use Rattle.ray_shapes.proofs.fill.part_in.Given as goal

abbrev pub invariant-loop-plane : goal.invariant-loop-plane
invariant-loop-plane l = record {
  order : l.part.lo ≤ l.part.hi;
  within : l.part.hi ≤ l.line.points;
  exact : (i : ℕ) → ((l.part.lo ≤ i) × (i < l.part.hi)) ↔ ((i < l.line.points) × IsTrue (in_body (take l.plane-index l.planes) (position l.line.family l.line.first l.line.step i)));
}
