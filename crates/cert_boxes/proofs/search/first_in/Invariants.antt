use Rattle.std.proofs.Common.{◌≡◌, None, take}
use Rattle.std.specs.List.{find, flat_map}
use Rattle.ray_grid.specs.Points.{points_on}
use Rattle.ray_grid.specs.Strips.{strip_at}
use Rattle.cert_boxes.specs.Rows.{AreRowsAlike}
use Rattle.cert_boxes.specs.Search.{is_missed}
use Rattle.cert_boxes.specs.Tasks.{cert_task}
use Rattle.cert_boxes.proofs.search.first_in.Given as goal

-- the rays so far have no such point, and each row has the spans that it had
abbrev pub invariant-loop-n : goal.invariant-loop-n
invariant-loop-n g l = record {
  none :
      find (is_missed (cert_task l.sweep l.stacks.cutter l.part.grid l.part.solid.value l.fixture.solid.value) l.initial.rows)
      (flat_map (points_on l.part.grid) (take l.n (strip_at l.part.grid l.strip)))
      ≡ None;
  alike : AreRowsAlike l.rows l.initial.rows;
}
