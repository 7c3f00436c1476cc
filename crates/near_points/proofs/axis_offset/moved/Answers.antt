use Rattle.std.proofs.Common.{arith}
use Rattle.near_points.specs.Limits.{moment_limit}
use Rattle.near_points.proofs.Moving.{MovesInWord, moves_in_word}
use Rattle.near_points.proofs.axis_offset.moved.Goals as goal

in_word : (c : goal.After-from) → MovesInWord moment_limit c.args.a c.args.b c.from.result c.args.n
in_word c =
    let a = c.args in let fits = c.requires in
    moves_in_word moment_limit a.a a.b c.from.result a.n (omega arith) fits.from fits.to c.from.ensures c.ranges.n c.ranges.b

pub overflow_mul-result : goal.overflow_mul-result
overflow_mul-result c = (in_word c).product

pub overflow_add-result : goal.overflow_add-result
overflow_add-result c = (in_word c).whole.fits

pub returns : goal.returns
returns c = (in_word c).whole.value
