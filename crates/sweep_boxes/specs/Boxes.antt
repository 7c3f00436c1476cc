-- A box along the axes.
use Rattle.std.specs.Prelude.{List, ℤ}
use Rattle.sweep_boxes.specs.declared.point_box.PointBox.{PointBox}
use Rattle.sweep_boxes.specs.Intervals.{IsAmong}

-- the point lies in the box, its ends included
abbrev pub IsInBox : PointBox → List ℤ → Type 0
IsInBox region p = IsAmong region.low region.high p
