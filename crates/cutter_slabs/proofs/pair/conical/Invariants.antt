use Rattle.std.proofs.Common.{◌≡◌, ◌≤◌}
use Rattle.cutter_slabs.specs.Stacks.{inner_cone_slab, level_of, outer_cone_slab, slabs_between}
use Rattle.cutter_slabs.proofs.pair.conical.Given as goal

abbrev pub invariant-loop-j : goal.invariant-loop-j
invariant-loop-j l =
    (l.lo ≡ level_of l.height l.n l.j)
    × (l.lo ≤ l.height)
    × (l.inner.items ≡ slabs_between (inner_cone_slab l.cutter) (level_of l.height l.n) l.j)
    × (l.outer.items ≡ slabs_between (outer_cone_slab l.cutter) (level_of l.height l.n) l.j)
