use Rattle.std.proofs.Common.{◌*◌, ◌<◌, ◌^◌, arith}
use mir.Syntax.{w32, w64}
use mir.Val.{hbits}
use Rattle.space.specs.Ranges.{metre}
use Rattle.space.specs.Vectors.{at}
use Rattle.space.proofs.Reread.{small_back}
use Rattle.ray_runs.proofs.likely.way.Goals as goal

metre_fits : metre < 2 ^ hbits w32
metre_fits = omega arith

metres_fit : 2 * metre < 2 ^ hbits w64
metres_fit = omega arith

pub difference-requires : goal.difference-requires
difference-requires c =
    let from = c.args.from.now in let to = c.args.to.now in
    record { a = small_back w32 (at to 0) metre metre_fits c.requires.to.0; b = small_back w32 (at from 0) metre metre_fits c.requires.from.0 }

pub difference-requires-2 : goal.difference-requires-2
difference-requires-2 c =
    let from = c.args.from.now in let to = c.args.to.now in
    record { a = small_back w32 (at to 1) metre metre_fits c.requires.to.1; b = small_back w32 (at from 1) metre metre_fits c.requires.from.1 }

pub difference-requires-3 : goal.difference-requires-3
difference-requires-3 c =
    let from = c.args.from.now in let to = c.args.to.now in
    record { a = small_back w32 (at to 2) metre metre_fits c.requires.to.2; b = small_back w32 (at from 2) metre metre_fits c.requires.from.2 }

pub returns : goal.returns
returns c =
    let n = 2 * metre in
    (small_back w64 c.difference.result n metres_fit c.difference.ensures, small_back w64 c.difference-2.result n metres_fit c.difference-2.ensures, small_back w64 c.difference-3.result n metres_fit c.difference-3.ensures)
