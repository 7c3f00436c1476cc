use Rattle.std.proofs.Common.{◌≡◌, ℕ, ◌-◌, ◌<◌, ◌≤◌, true, false, get_or, length}
use Rattle.cert_boxes.specs.declared.span.CellSpan.{CellSpan}
use Rattle.cert_boxes.specs.Rows.{AreAlike, is_throughout}
use Rattle.cert_boxes.proofs.cover.gather.Given as goal

-- the spans in front of one place have the whole part, those from another place on have not, and no span is lost
abbrev pub invariant-loop-front : goal.invariant-loop-front
invariant-loop-front l = record {
  order : l.front ≤ l.back;
  within : l.back ≤ length l.spans;
  passed : (k : ℕ) (d : CellSpan) → k < l.front → is_throughout l.from l.to (get_or l.spans k d) ≡ true;
  failed : (k : ℕ) (d : CellSpan) → l.back ≤ k → k < length l.spans → is_throughout l.from l.to (get_or l.spans k d) ≡ false;
  alike : AreAlike l.spans l.initial.spans;
}

abbrev pub decreases-loop-front : goal.decreases-loop-front
decreases-loop-front l = l.back - l.front
