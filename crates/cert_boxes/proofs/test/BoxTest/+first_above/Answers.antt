use Rattle.std.proofs.Common.{arith, sym, ◌-◌, ◌+◌, ◌/◌, ◌<◌, ◌∙◌}
use Rattle.cert_boxes.specs.SlabOrder.{is_below_by_grid}
use Rattle.cert_boxes.proofs.Turning.{turned_high, turned_low}
use Rattle.cert_boxes.proofs.test.BoxTest.+first_above.Goals as goal

pub first_above-requires : goal.first_above-requires
first_above-requires t c =
    let k = c.args.self.now in let h = k.height in let low = c.args.low in let high = c.args.high in let middle = low + (high - low) / 2 in
    let less : middle < high = omega (arith, c.if-low-high.false, c.requires.ordered) in
    let between = turned_low (is_below_by_grid k.scale k.raised.c h.first.c h.middle.c h.last.c) c.args.slabs.now low high middle c.index-slabs-middle.result c.requires.between less
    c.index-slabs-middle.is (sym c.is_below.ensures ∙ c.if-is_below.true) in
    (omega (arith, less), (omega arith, between))

pub first_above-requires-2 : goal.first_above-requires-2
first_above-requires-2 t c =
    let k = c.args.self.now in let h = k.height in let low = c.args.low in let high = c.args.high in let middle = low + (high - low) / 2 in
    let less : middle < high = omega (arith, c.if-low-high.false, c.requires.ordered) in
    let between = turned_high (is_below_by_grid k.scale k.raised.c h.first.c h.middle.c h.last.c) c.args.slabs.now low high middle c.index-slabs-middle.result c.requires.between less
    c.index-slabs-middle.is (sym c.is_below.ensures ∙ c.if-is_below.false) in
    (omega (arith, less), (omega (arith, less), between))
