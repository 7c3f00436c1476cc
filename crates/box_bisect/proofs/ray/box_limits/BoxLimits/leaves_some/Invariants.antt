use Rattle.std.proofs.Common.{◌≡◌, ◌+◌, ◌≤◌, drop}
use Rattle.ray_boxes.specs.Boxes.{is_unexcluded_by_grids}
use Rattle.box_bisect.proofs.ray.box_limits.BoxLimits.leaves_some.Given as goal

abbrev pub invariant-loop-slab : goal.invariant-loop-slab
invariant-loop-slab g l =
    let k = l.self in let h = l.self.height in let w = l.self.width in
    (is_unexcluded_by_grids k.scale k.is_behind k.raised.c h.first.c h.middle.c h.last.c w.first.c w.middle.c w.last.c (drop l.slab-index l.slabs)
    ≡ is_unexcluded_by_grids k.scale k.is_behind k.raised.c h.first.c h.middle.c h.last.c w.first.c w.middle.c w.last.c l.slabs)
    × (l.steps ≤ l.initial.steps + l.slab-index)
