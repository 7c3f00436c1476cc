use Rattle.std.proofs.Common.{◌<◌, sym, ap, ◌∙◌, arith, length, slice_get}
use Rattle.ray_grid.specs.Families.{second_axis}
use Rattle.ray_grid.specs.Lattice.{nodes_of}
use Rattle.ray_grid.proofs.Rows.{length-strip, ray_in}
use Rattle.ray_grid.proofs.grid.Grid.strip_ray.Goals as goal

pub returns-clause-there : goal.returns-clause-there
returns-clause-there c =
    let size = sym (length-strip c.args.self.now c.row-family.result.0 c.row-family.result.1) ∙ ap length (sym c.row-family.ensures.rays) in
    let below : c.args.n < nodes_of c.args.self.now (second_axis c.row-family.result.0) = omega (arith, c.requires.ray) in
    ap (λ z. slice_get z c.args.n) c.row-family.ensures.rays ∙ ray_in c.args.self.now c.row-family.result.0 c.row-family.result.1 c.args.n below

pub returns-clause-ray : goal.returns-clause-ray
returns-clause-ray c =
    let size = sym (length-strip c.args.self.now c.row-family.result.0 c.row-family.result.1) ∙ ap length (sym c.row-family.ensures.rays) in
    record {
      first = c.row-family.ensures.node;
      second = omega (arith, c.requires.ray);
    }
