use Rattle.std.proofs.Common.{◌≡◌, ℕ, ◌≤◌, ◌&&◌, ltb, All, take}
use Rattle.ray_shapes.specs.Lines.{position}
use Rattle.ray_shapes.specs.Planes.{in_bodies}
use Rattle.ray_shapes.specs.Parts.{covers_some}
use Rattle.ray_shapes.proofs.fill.parts_in.Given as goal

abbrev pub invariant-loop-body : goal.invariant-loop-body
invariant-loop-body l = record {
  within : All (λ part. part.hi ≤ l.line.points) l.parts.items;
  exact : (i : ℕ) → covers_some l.parts.items i ≡ (ltb i l.line.points && in_bodies (take l.body-index l.bodies) (position l.line.family l.line.first l.line.step i));
}
