use Rattle.std.proofs.Common.{◌*◌, ◌<◌, ◌^◌, arith}
use mir.Syntax.{w64, w128}
use mir.Val.{hbits}
use Rattle.space.specs.Vectors.{at}
use Rattle.space.proofs.Reread.{small_back}
use Rattle.ray_runs.specs.Sizes.{moment_limit}
use Rattle.moment_forms.proofs.Fits.{sum_fits, sums_fit, sums_small}
use Rattle.ray_runs.proofs.likely.along.Goals as goal

moment_fits : moment_limit < 2 ^ hbits w64
moment_fits = omega arith

two_fit : 2 * (moment_limit * moment_limit) < 2 ^ hbits w128
two_fit = omega arith

three_fit : 3 * (moment_limit * moment_limit) < 2 ^ hbits w128
three_fit = omega arith

pub square-requires : goal.square-requires
square-requires c =
    let a = c.args.a.now in let b = c.args.b.now in
    record { a = small_back w64 (at a 0) moment_limit moment_fits c.requires.a.0; b = small_back w64 (at b 0) moment_limit moment_fits c.requires.b.0 }

pub square-requires-2 : goal.square-requires-2
square-requires-2 c =
    let a = c.args.a.now in let b = c.args.b.now in
    record { a = small_back w64 (at a 1) moment_limit moment_fits c.requires.a.1; b = small_back w64 (at b 1) moment_limit moment_fits c.requires.b.1 }

pub square-requires-3 : goal.square-requires-3
square-requires-3 c =
    let a = c.args.a.now in let b = c.args.b.now in
    record { a = small_back w64 (at a 2) moment_limit moment_fits c.requires.a.2; b = small_back w64 (at b 2) moment_limit moment_fits c.requires.b.2 }

pub overflow_add-result : goal.overflow_add-result
overflow_add-result c = sum_fits w128 c.square.result c.square-2.result (moment_limit * moment_limit) two_fit c.square.ensures c.square-2.ensures

pub overflow_add-result-2 : goal.overflow_add-result-2
overflow_add-result-2 c = sums_fit w128 c.square.result c.square-2.result c.square-3.result (moment_limit * moment_limit) three_fit c.square.ensures c.square-2.ensures c.square-3.ensures

pub returns : goal.returns
returns c = sums_small w128 c.square.result c.square-2.result c.square-3.result (moment_limit * moment_limit) three_fit c.square.ensures c.square-2.ensures c.square-3.ensures
