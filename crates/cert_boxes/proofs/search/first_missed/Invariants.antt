use Rattle.std.proofs.Common.{◌≡◌, None, take}
use Rattle.std.specs.List.{find}
use Rattle.ray_grid.specs.Strips.{strips_of}
use Rattle.cert_boxes.specs.Rows.{AreRowsAlike}
use Rattle.cert_boxes.specs.Search.{is_missed}
use Rattle.cert_boxes.specs.Tasks.{cert_task}
use Rattle.cert_boxes.proofs.StripLemmas.{strip_points}
use Rattle.cert_boxes.proofs.search.first_missed.Given as goal

-- the strips so far have no such point, and each row has the spans that it had
abbrev pub invariant-loop-strip : goal.invariant-loop-strip
invariant-loop-strip g l =
    let task = cert_task l.sweep l.stacks.cutter l.part.grid l.part.solid.value l.fixture.solid.value in record {
      none : find (is_missed task l.initial.rows) (strip_points task (take l.strip (strips_of l.part.grid))) ≡ None;
      alike : AreRowsAlike l.rows l.initial.rows;
    }
