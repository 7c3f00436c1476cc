use Rattle.std.proofs.Common.{◌≡◌, true, take}
use Rattle.std.specs.List.{list_all}
use Rattle.ray_boxes.specs.Boxes.{grid_less}
use Rattle.cert_boxes.specs.Sides.{are_all_on}
use Rattle.cert_boxes.proofs.test.Columns.are_on.Given as goal

-- the rows so far are on that side
abbrev pub invariant-loop-i : goal.invariant-loop-i
invariant-loop-i l =
    let k = l.self in list_all (are_all_on l.side) (take l.i (grid_less l.raised.c l.limit k.first.c k.middle.c k.last.c)) ≡ true
