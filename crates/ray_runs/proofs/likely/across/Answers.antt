use Rattle.std.proofs.Common.{◌*◌, ◌<◌, ◌^◌, arith}
use mir.Syntax.{w64}
use mir.Val.{hbits}
use Rattle.space.specs.Ranges.{axis_unit, metre}
use Rattle.space.specs.Vectors.{at}
use Rattle.space.proofs.Reread.{small_back}
use Rattle.ray_runs.specs.Sizes.{moment_limit}
use Rattle.ray_runs.proofs.likely.across.Goals as goal

metres_fit : 2 * metre < 2 ^ hbits w64
metres_fit = omega arith

units_fit : 2 * axis_unit < 2 ^ hbits w64
units_fit = omega arith

moment_fits : moment_limit < 2 ^ hbits w64
moment_fits = omega arith

pub minor-requires : goal.minor-requires
minor-requires c =
    let v = c.args.v.now in let a = c.args.a.now in record {
      v = small_back w64 (at v 1) (2 * metre) metres_fit c.requires.v.1;
      w = small_back w64 (at v 2) (2 * metre) metres_fit c.requires.v.2;
      a = small_back w64 (at a 1) (2 * axis_unit) units_fit c.requires.a.1;
      b = small_back w64 (at a 2) (2 * axis_unit) units_fit c.requires.a.2;
    }

pub minor-requires-2 : goal.minor-requires-2
minor-requires-2 c =
    let v = c.args.v.now in let a = c.args.a.now in record {
      v = small_back w64 (at v 2) (2 * metre) metres_fit c.requires.v.2;
      w = small_back w64 (at v 0) (2 * metre) metres_fit c.requires.v.0;
      a = small_back w64 (at a 2) (2 * axis_unit) units_fit c.requires.a.2;
      b = small_back w64 (at a 0) (2 * axis_unit) units_fit c.requires.a.0;
    }

pub minor-requires-3 : goal.minor-requires-3
minor-requires-3 c =
    let v = c.args.v.now in let a = c.args.a.now in record {
      v = small_back w64 (at v 0) (2 * metre) metres_fit c.requires.v.0;
      w = small_back w64 (at v 1) (2 * metre) metres_fit c.requires.v.1;
      a = small_back w64 (at a 0) (2 * axis_unit) units_fit c.requires.a.0;
      b = small_back w64 (at a 1) (2 * axis_unit) units_fit c.requires.a.1;
    }

pub returns : goal.returns
returns c =
    let n = moment_limit in
    (small_back w64 c.minor.result n moment_fits c.minor.ensures, small_back w64 c.minor-2.result n moment_fits c.minor-2.ensures, small_back w64 c.minor-3.result n moment_fits c.minor-3.ensures)
