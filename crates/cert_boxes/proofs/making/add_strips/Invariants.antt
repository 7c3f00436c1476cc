use Rattle.std.proofs.Common.{true, take}
use Rattle.ray_grid.specs.Strips.{strips_of}
use Rattle.cert_boxes.specs.Drafts.{AddsCells}
use Rattle.cert_boxes.specs.Making.{cells_of_rays}
use Rattle.cert_boxes.specs.Tasks.{cert_task}
use Rattle.cert_boxes.proofs.Adding.{in_strips}
use Rattle.cert_boxes.proofs.making.add_strips.Given as goal

-- the cells of the strips so far
abbrev pub invariant-loop-strip : goal.invariant-loop-strip
invariant-loop-strip g l =
    let task = cert_task l.sweep l.stacks.cutter l.part.grid l.part.solid.value l.fixture.solid.value in
    AddsCells (cells_of_rays task l.stacks.slabs l.depth (in_strips (take l.strip (strips_of l.part.grid)))) l.initial.draft l.draft true
