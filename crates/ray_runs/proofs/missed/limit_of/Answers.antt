use Rattle.std.proofs.Common.{◌^◌, arith}
use mir.Syntax.{w64}
use Rattle.moment_forms.proofs.Fits.{wide_product_is, within_type}
use Rattle.ray_runs.proofs.missed.limit_of.Goals as goal

pub returns : goal.returns
returns c =
    let x = c.args.square in let y = c.args.raised in let fits = c.ranges in
    wide_product_is c.from.result c.from-2.result x y (2 ^ 63) (2 ^ 63) c.from.ensures c.from-2.ensures fits.square fits.raised
    (within_type w64 x fits.square) (within_type w64 y fits.raised) (omega arith)
