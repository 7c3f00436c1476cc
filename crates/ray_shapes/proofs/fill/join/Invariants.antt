use Rattle.std.proofs.Common.{◌≡◌, ℕ, ◌<◌, ◌≤◌, IsTrue, length, take, get_or}
use Rattle.vf_spans.specs.Members.{has}
use Rattle.ray_shapes.specs.declared.half_line.IndexRange.{IndexRange}
use Rattle.ray_shapes.specs.Parts.{covers_some}
use Rattle.ray_shapes.proofs.fill.join.Given as goal

abbrev pub invariant-loop-part : goal.invariant-loop-part
invariant-loop-part l = record {
  bound : length l.set ≡ l.bound;
  below : (i : ℕ) → IsTrue (has l.set i) → i < l.end;
  held : (i : ℕ) → has l.set i ≡ covers_some (take l.part-index l.parts) i;
  full : (from : ℕ) × ((k : ℕ) (d : IndexRange) → l.part-index ≤ k → k < length l.parts → from ≤ (get_or l.parts k d).lo) × ((i : ℕ) → from ≤ i → i < l.end → IsTrue (has l.set i));
}
