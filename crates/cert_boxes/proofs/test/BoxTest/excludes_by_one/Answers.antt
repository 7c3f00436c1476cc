use Rattle.std.proofs.Common.{false, arith, sym, ◌≡◌, ◌-◌, ◌+◌, ◌∙◌}
use Rattle.cert_boxes.specs.SlabOrder.{is_below_by_grid}
use Rattle.ray_boxes.specs.Boxes.{is_excluded_by_grids}
use Rattle.cert_boxes.proofs.BoxRising.{box_goes_up}
use Rattle.cert_boxes.proofs.Turning.{all_out, one_decides}
use Rattle.cert_boxes.proofs.test.BoxTest.excludes_by_one.Goals as goal

pub returns-then-above-eq0 : goal.returns-then-above-eq0
returns-then-above-eq0 c =
    let k = c.args.self.now in let h = k.height in let w = k.width in
    sym (all_out (is_excluded_by_grids k.scale false k.raised.c h.first.c h.middle.c h.last.c w.first.c w.middle.c w.last.c) (is_below_by_grid k.scale k.raised.c h.first.c h.middle.c h.last.c)
    (box_goes_up k.scale k.raised.c h.first.c h.middle.c h.last.c w.first.c w.middle.c w.last.c c.requires.positive)
    c.args.slabs.now c.first_above-above.result c.requires.rising c.first_above-above.ensures c.if-above-eq0.true)

pub returns : goal.returns
returns c =
    let k = c.args.self.now in let h = k.height in let w = k.width in let j = c.first_above-above.result in let x = c.index-slabs-above.result in
    let e : j ≡ (j - 1) + 1 = omega (arith, c.if-above-eq0.false) in
    c.excludes.ensures
    ∙ sym (one_decides (is_excluded_by_grids k.scale false k.raised.c h.first.c h.middle.c h.last.c w.first.c w.middle.c w.last.c) (is_below_by_grid k.scale k.raised.c h.first.c h.middle.c h.last.c)
    (box_goes_up k.scale k.raised.c h.first.c h.middle.c h.last.c w.first.c w.middle.c w.last.c c.requires.positive)
    c.args.slabs.now j (j - 1) x c.requires.rising c.first_above-above.ensures e c.index-slabs-above.is)
