use Rattle.std.proofs.Common.{◌≡◌, ◌≤◌}
use Rattle.cutter_slabs.specs.Stacks.{bound_of, inner_slab, outer_slab, slabs_between}
use Rattle.cutter_slabs.proofs.pair.rounded.Given as goal

abbrev pub invariant-loop-j : goal.invariant-loop-j
invariant-loop-j l =
    (l.lo ≡ bound_of l.radius l.n l.j)
    × (l.lo ≤ l.radius)
    × (l.inner.items ≡ slabs_between (inner_slab l.cutter) (bound_of l.radius l.n) l.j)
    × (l.outer.items ≡ slabs_between (outer_slab l.cutter) (bound_of l.radius l.n) l.j)
