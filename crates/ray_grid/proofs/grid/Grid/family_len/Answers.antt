use Rattle.std.proofs.Common.{◌≤◌, arith}
use Rattle.std.proofs.Math.Nat.{mul-le-mul}
use Rattle.ray_grid.proofs.grid.Grid.family_len.Goals as goal

pub returns-clause-few : goal.returns-clause-few
returns-clause-few c =
    let first : c.from-first.result ≤ 400 = omega (arith, c.nodes.ensures.few, c.from-first.ensures) in
    let second : c.from-second.result ≤ 400 = omega (arith, c.nodes-2.ensures.few, c.from-second.ensures) in
    let along : c.from.result ≤ 400 = omega (arith, c.nodes-3.ensures.few, c.from.ensures) in
    let each : c.from-2.result ≤ 1000 = omega (arith, c.per_node.ensures.few, c.from-2.ensures) in
    mul-le-mul first (mul-le-mul second (mul-le-mul along each))

pub overflow_mul-result-2 : goal.overflow_mul-result-2
overflow_mul-result-2 c = let few = returns-clause-few c in omega arith
