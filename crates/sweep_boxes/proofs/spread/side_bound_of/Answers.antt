use Rattle.std.proofs.Common.{◌≤ℤ◌, ◌*◌, ◌^◌, pos, FitsSigned, arith, rules}
use Rattle.std.proofs.lemmas.Int.{ints, to_z-of_z}
use mir.Syntax.{w32, w128}
use Rattle.sweep_boxes.specs.Held.{IsSpread}
use Rattle.sweep_boxes.specs.Intervals.{IsBeside, middle_axis, middle_offset}
use Rattle.sweep_boxes.proofs.AlongSide.{along_none, beside_on}
use Rattle.sweep_boxes.proofs.spread.side_bound_of.Goals as goal

pub returns-then-across-gt4000000000000000000 : goal.returns-then-across-gt4000000000000000000
returns-then-across-gt4000000000000000000 c m k S slabs p highest of large among left = along_none (middle_offset m p k S) (middle_axis m k S)

pub returns : goal.returns
returns c m k S slabs p highest of large among left =
    let v = middle_offset m p k S in let a = middle_axis m k S in let across = c.spread_of-across.result in let side = c.side_direction_of-side.result in
    let f : FitsSigned w128 across = search rules in
    let w : FitsSigned w32 c.args.widest = search rules in
    let near = c.farthest-far.ensures.value v among in
    let small : across ≤ℤ pos (4 * 10 ^ 18) = omega (arith, ints, c.if-across-gt4000000000000000000.false) in
    let spread : IsSpread across side c.args.interval.now c.args.widest c.farthest-far.result = simp to_z-of_z at (c.spread_of-across.ensures.value small) in
    let held = beside_on c.args.interval.now m k S slabs p c.args.widest highest across side c.farthest-far.result of large left near spread in
    let beside : IsBeside side across v a = omega (arith, ints, held, spread.across_is) in
    simp to_z-of_z beside
