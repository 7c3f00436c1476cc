use Rattle.std.proofs.Common.{arith, sym, ◌-◌, ◌+◌, ◌/◌, ◌<◌, ◌∙◌}
use Rattle.box_bisect.proofs.Deciding.{turned_down, turned_up}
use Rattle.box_bisect.proofs.slab_search.+first_unreached.Goals as goal

pub first_unreached-requires : goal.first_unreached-requires
first_unreached-requires g t c κs within =
    let low = c.args.low in let high = c.args.high in let middle = low + (high - low) / 2 in
    let less : middle < high = omega (arith, c.if-low-high.false, c.requires.ordered) in
    let between = turned_up (g.T.Reaches.reached c.args.test.now) c.args.slabs.now low high middle c.index-slabs-middle.result c.requires.between less c.index-slabs-middle.is (sym c.reaches.ensures ∙ c.if-reaches.true) in
    (omega (arith, less), (within.0, (within.1, (omega (arith, less), between))))

pub first_unreached-requires-2 : goal.first_unreached-requires-2
first_unreached-requires-2 g t c κs within =
    let low = c.args.low in let high = c.args.high in let middle = low + (high - low) / 2 in
    let less : middle < high = omega (arith, c.if-low-high.false, c.requires.ordered) in
    let between = turned_down (g.T.Reaches.reached c.args.test.now) c.args.slabs.now low high middle c.index-slabs-middle.result c.requires.between less c.index-slabs-middle.is (sym c.reaches.ensures ∙ c.if-reaches.false) in
    (omega (arith, less), (within.0, (within.1, (omega arith, between))))
