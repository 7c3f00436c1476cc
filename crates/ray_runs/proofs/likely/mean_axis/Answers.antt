use Rattle.std.proofs.Common.{◌*◌, ◌<◌, ◌^◌, arith}
use mir.Syntax.{w32, w64}
use mir.Val.{hbits}
use Rattle.space.specs.Ranges.{axis_unit}
use Rattle.space.specs.Vectors.{at}
use Rattle.space.proofs.Reread.{small_back}
use Rattle.ray_runs.proofs.likely.mean_axis.Goals as goal

unit_fits : axis_unit < 2 ^ hbits w32
unit_fits = omega arith

units_fit : 2 * axis_unit < 2 ^ hbits w64
units_fit = omega arith

pub sum-requires : goal.sum-requires
sum-requires c =
    let s = c.sweep.inside in let h = c.sweep.invariant in
    record { a = small_back w32 (at s.axis_from 0) axis_unit unit_fits h.axis_from.0; b = small_back w32 (at s.axis_to 0) axis_unit unit_fits h.axis_to.0 }

pub sum-requires-2 : goal.sum-requires-2
sum-requires-2 c =
    let s = c.sweep.inside in let h = c.sweep.invariant in
    record { a = small_back w32 (at s.axis_from 1) axis_unit unit_fits h.axis_from.1; b = small_back w32 (at s.axis_to 1) axis_unit unit_fits h.axis_to.1 }

pub sum-requires-3 : goal.sum-requires-3
sum-requires-3 c =
    let s = c.sweep.inside in let h = c.sweep.invariant in
    record { a = small_back w32 (at s.axis_from 2) axis_unit unit_fits h.axis_from.2; b = small_back w32 (at s.axis_to 2) axis_unit unit_fits h.axis_to.2 }

pub returns : goal.returns
returns c =
    let n = 2 * axis_unit in
    (small_back w64 c.sum.result n units_fit c.sum.ensures, small_back w64 c.sum-2.result n units_fit c.sum-2.ensures, small_back w64 c.sum-3.result n units_fit c.sum-3.ensures)
