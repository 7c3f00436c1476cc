use Rattle.std.proofs.Common.{◌≡◌, ℕ, ◌||◌, take}
use Rattle.std.specs.List.{list_any}
use Rattle.vf_spans.specs.Members.{in_range}
use Rattle.cert_boxes.specs.Rows.{has_index}
use Rattle.cert_boxes.proofs.cover.joined.Given as goal

-- the range has the indices of the first span and of the spans so far
abbrev pub invariant-loop-span : goal.invariant-loop-span
invariant-loop-span l =
    (n : ℕ) → in_range n l.range ≡ (in_range n l.initial.range || list_any (has_index n) (take l.span-index l.spans))
