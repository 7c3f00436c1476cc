use Rattle.std.proofs.Common.{◌∙◌, ap, List}
use Rattle.ray_shapes.specs.declared.half_line.IndexRange.{IndexRange}
use Rattle.ray_shapes.specs.Lines.{position}
use Rattle.ray_shapes.specs.Parts.{covers_some}
use Rattle.ray_shapes.proofs.Filled.{filled}
use Rattle.ray_shapes.proofs.fill.body_spans.Goals as goal

pub returns : goal.returns
returns c =
    let line = c.of-line.result in
    let parts = c.deref_mut.result.now in
    filled c.cover.result c.args.grid.now c.args.ray.now c.args.bodies.now parts (λ l. position line.family line.first line.step l) line.points c.of-line.ensures.points c.of-line.ensures.position
    (λ l. ap (λ (z : List IndexRange). covers_some z l) c.deref_mut.ensures.value ∙ c.in_ok-parts.ensures.exact l) c.cover.ensures.bound c.cover.ensures.covered
