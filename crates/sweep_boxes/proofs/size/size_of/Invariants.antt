use Rattle.std.proofs.Common.{◌<◌, ◌≤ℤ◌, ℕ, pos, get_or}
use Rattle.bern_form.specs.Slab.{SlabSize}
use Rattle.sweep_boxes.specs.Intervals.{IsAsLarge}
use Rattle.sweep_boxes.proofs.size.size_of.Given as goal

abbrev pub invariant-loop-slab : goal.invariant-loop-slab
invariant-loop-slab l =
    ((k : ℕ) (d : SlabSize) → k < l.slab-index → IsAsLarge l.widest l.highest (get_or l.slabs k d))
    × (pos 0 ≤ℤ l.widest) × (l.widest ≤ℤ pos 200000) × (pos 0 ≤ℤ l.highest) × (l.highest ≤ℤ pos 300000)
