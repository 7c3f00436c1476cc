-- The finest cells of a line are some of the 1,024.
use Rattle.std.proofs.Common.{◌≡◌, ℕ, ◌+◌, ◌-◌, ◌*◌, ◌^◌, ◌<◌, ◌≤◌, arith, subst, sym}
use Rattle.std.proofs.Math.Nat.{mul-le-mul_right}
use Rattle.cert_boxes.proofs.Times.{levels_fit}
use Rattle.cert_boxes.proofs.row.span_of.Goals as goal

within : (q k each : ℕ) → q ≤ 10 → k < 2 ^ q → each ≡ 2 ^ (10 - q) → k * each + each ≤ 1024
within q k each few part is =
    let whole = levels_fit q few in
    let some : k + 1 ≤ 2 ^ q = omega arith in
    let more = mul-le-mul_right (2 ^ (10 - q)) some in
    subst (λ n. k * n + n ≤ 1024) (sym is) (omega arith)

pub overflow_cast-result : goal.overflow_cast-result
overflow_cast-result c =
    let cell = c.args.cell.now in
    record { fits = omega (arith, within cell.q cell.k c.cells_of-each.result c.requires.few c.requires.part c.cells_of-each.ensures.cells) }

pub overflow_cast-result-2 : goal.overflow_cast-result-2
overflow_cast-result-2 c =
    let cell = c.args.cell.now in
    record { fits = omega (arith, within cell.q cell.k c.cells_of-each.result c.requires.few c.requires.part c.cells_of-each.ensures.cells) }
