use Rattle.std.proofs.Common.{◌≡◌, ℕ, ◌≤◌, List, arith, ap, subst, slice_index}
use Rattle.std.proofs.lemmas.Nat.{mul-le}
use Rattle.ray_grid.specs.Grids.{GridSize}
use Rattle.ray_grid.specs.Lattice.{nodes_of}
use Rattle.ray_grid.proofs.Rows.{length-strips}
use Rattle.worker_gate.proofs.worker.turns_due.Goals as goal

pub returns-clause-few : goal.returns-clause-few
returns-clause-few c =
    let grid = c.grid-grid.result.now in
    let size = length-strips grid in
    let counts : c.grid.inside.counts ≡ grid.counts = ap (λ (g : GridSize). g.counts) c.grid.view_is in
    let x : nodes_of grid 0 ≤ 400 = subst (λ (l : List ℕ). slice_index l 0 ≤ 400) counts c.grid.invariant.x.most in
    let y : nodes_of grid 1 ≤ 400 = subst (λ (l : List ℕ). slice_index l 1 ≤ 400) counts c.grid.invariant.y.most in
    let strips : c.from.result ≤ 1200 = omega (arith, size, x, y, c.strips.ensures, c.from.ensures) in
    let turns : c.from-2.result ≤ 12500 = omega (arith, c.from-2.ensures, c.div_ceil.ensures, c.edits.ensures.count, c.edits.ensures.few) in
    let all = mul-le c.from.result c.from-2.result 1200 12500 strips turns in
    omega (arith, all)
