use Rattle.std.proofs.Common.{true, take}
use Rattle.ray_grid.specs.Strips.{strip_at}
use Rattle.cert_boxes.specs.Drafts.{AddsCells}
use Rattle.cert_boxes.specs.Making.{cells_of_rays}
use Rattle.cert_boxes.specs.Tasks.{cert_task}
use Rattle.cert_boxes.proofs.making.add_strip.Given as goal

-- the cells of the rays so far
abbrev pub invariant-loop-n : goal.invariant-loop-n
invariant-loop-n g l =
    let task = cert_task l.sweep l.stacks.cutter l.part.grid l.part.solid.value l.fixture.solid.value in
    AddsCells (cells_of_rays task l.stacks.slabs l.depth (take l.n (strip_at l.part.grid l.strip))) l.initial.draft l.draft true
