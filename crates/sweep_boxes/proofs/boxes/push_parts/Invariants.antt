use Rattle.std.proofs.Common.{◌≡◌, true, ℕ, ◌+◌, ◌^◌, ◌<◌, List, ℤ, length, take, get_or}
use Rattle.bern_form.specs.Between.{is_unexcluded_between}
use Rattle.bern_form.specs.Slab.{SlabSize}
use Rattle.sweep_boxes.specs.declared.point_box.PointBox.{PointBox}
use Rattle.sweep_boxes.specs.Boxes.{IsInBox}
use Rattle.sweep_boxes.specs.Intervals.{AreAsLarge, AreFrom}
use Rattle.sweep_boxes.proofs.boxes.push_parts.Given as goal

abbrev pub invariant-loop-cell : goal.invariant-loop-cell
invariant-loop-cell l =
    (length l.boxes.items ≡ length l.initial.boxes.items + l.cell)
    × (take (length l.initial.boxes.items) l.boxes.items ≡ l.initial.boxes.items)
    × ((slabs : List SlabSize) (n : ℕ) (p : List ℤ) (d : PointBox) → AreAsLarge l.size.widest l.size.highest slabs → AreFrom l.size.lowest slabs → n < l.cell → IsInBox l.region p
    → is_unexcluded_between slabs l.sweep p n (n + 1) (2 ^ l.level) ≡ true → IsInBox (get_or l.boxes.items (length l.initial.boxes.items + n) d) p)
