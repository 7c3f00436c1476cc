use Rattle.width_bisect.proofs.Widened.{long_product}
use Rattle.width_bisect.proofs.words.product.Goals as goal

pub overflow_mul-result : goal.overflow_mul-result
overflow_mul-result c =
    (long_product c.from.result c.from-2.result c.args.a c.args.b c.from.ensures c.from-2.ensures c.ranges.a c.ranges.b).fits

pub returns : goal.returns
returns c = (long_product c.from.result c.from-2.result c.args.a c.args.b c.from.ensures c.from-2.ensures c.ranges.a c.ranges.b).value
