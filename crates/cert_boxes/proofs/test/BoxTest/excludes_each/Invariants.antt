use Rattle.std.proofs.Common.{◌≡◌, true, false, take}
use Rattle.std.specs.List.{list_all}
use Rattle.ray_boxes.specs.Boxes.{is_excluded_by_grids}
use Rattle.cert_boxes.proofs.test.BoxTest.excludes_each.Given as goal

-- the slabs so far are excluded
abbrev pub invariant-loop-slab : goal.invariant-loop-slab
invariant-loop-slab l =
    let k = l.self in let h = l.self.height in let w = l.self.width in
    list_all (is_excluded_by_grids k.scale false k.raised.c h.first.c h.middle.c h.last.c w.first.c w.middle.c w.last.c) (take l.slab-index l.slabs) ≡ true
