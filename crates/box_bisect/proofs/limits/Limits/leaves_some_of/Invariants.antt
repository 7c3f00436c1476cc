use Rattle.std.proofs.Common.{◌≡◌, ◌+◌, ◌≤◌, drop}
use Rattle.box_bisect.specs.SlabTests.{is_unexcluded_by}
use Rattle.box_bisect.proofs.limits.Limits.leaves_some_of.Given as goal

abbrev pub invariant-loop-slab : goal.invariant-loop-slab
invariant-loop-slab g l =
    (is_unexcluded_by l.self.scale l.self.is_behind l.self.raised.c l.self.height.c l.self.width.c (drop l.slab-index l.slabs)
    ≡ is_unexcluded_by l.self.scale l.self.is_behind l.self.raised.c l.self.height.c l.self.width.c l.slabs)
    × (l.steps ≤ l.initial.steps + l.slab-index)
