use Rattle.std.proofs.Common.{◌≡◌, ◌-◌, ℕ, arith, sym, subst}
use Rattle.ray_grid.specs.declared.ray.Family.TheVariants.{X, Y}
use Rattle.ray_grid.specs.Lattice.{nodes_of}
use Rattle.ray_grid.specs.Strips.{strip_of, strip_at}
use Rattle.ray_grid.proofs.Rows.{length-strips, row_x, row_y, row_z}
use Rattle.ray_grid.proofs.grid.Grid.row.Goals as goal

pub returns-then-strip-x-clause-rays : goal.returns-then-strip-x-clause-rays
returns-then-strip-x-clause-rays c = row_z c.args.self.now c.args.strip (omega (arith, c.if-strip-x.true))

pub returns-then-strip-x-2-clause-rays : goal.returns-then-strip-x-2-clause-rays
returns-then-strip-x-2-clause-rays c =
    let g = c.args.self.now in
    subst (λ (x : ℕ). strip_at g c.args.strip ≡ strip_of g X (c.args.strip - x)) (sym c.nodes-x.ensures.nodes)
    (row_x g c.args.strip (omega (arith, c.if-strip-x.false)) (omega (arith, c.if-strip-x-2.true)))

pub returns-else-strip-x-2-clause-rays : goal.returns-else-strip-x-2-clause-rays
returns-else-strip-x-2-clause-rays c =
    let g = c.args.self.now in
    subst (λ (x : ℕ). strip_at g c.args.strip ≡ strip_of g Y (c.args.strip - x - c.nodes-y.result)) (sym c.nodes-x.ensures.nodes)
    (subst (λ (y : ℕ). strip_at g c.args.strip ≡ strip_of g Y (c.args.strip - nodes_of g 0 - y)) (sym c.nodes-y.ensures.nodes)
    (row_y g c.args.strip (omega (arith, c.if-strip-x-2.false)) c.requires))

pub returns-else-strip-x-2-clause-node : goal.returns-else-strip-x-2-clause-node
returns-else-strip-x-2-clause-node c = let all = length-strips c.args.self.now in omega (arith, c.requires)
