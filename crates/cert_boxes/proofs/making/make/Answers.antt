use Rattle.std.proofs.Common.{true, false, None, refl, sym}
use Rattle.ray_grid.specs.Points.{rays_of}
use Rattle.ray_shapes.proofs.Kept.{gives_on, gives_own}
use Rattle.cert_lines.specs.declared.cert.Cert.{Cert}
use Rattle.cert_boxes.specs.Made.{IsCertFor}
use Rattle.cert_boxes.specs.Making.{cells_of_rays}
use Rattle.cert_boxes.specs.Tasks.{cert_task}
use Rattle.cert_boxes.proofs.Adding.{adds_asked, by_answer, cert_none, cert_whole}
use Rattle.cert_boxes.proofs.JudgeLemmas.{untouched_by}
use Rattle.cert_boxes.proofs.MadeLemmas.{cert_is_for, none_where_touched}
use Rattle.cert_boxes.proofs.making.make.Goals as goal

pub add_strips-requires-clause-part : goal.add_strips-requires-clause-part
add_strips-requires-clause-part g c = gives_own g.A.Fn c.args.grid.now c.args.part.now c.requires.part

pub add_strips-requires-clause-fixture : goal.add_strips-requires-clause-fixture
add_strips-requires-clause-fixture g c = gives_on g.B.Fn c.args.grid.now c.args.part.now.grid c.args.fixture.now (sym c.requires.part.kept_for) c.requires.fixture

pub returns-then-not-is_whole-clause-due : goal.returns-then-not-is_whole-clause-due
returns-then-not-is_whole-clause-due g c =
    let a = c.args in let s = c.in_ok-stacks in
    let made = cells_of_rays (cert_task a.sweep.now a.cutter a.grid.now a.part.now.solid.value a.fixture.now.solid.value) a.slabs a.depth (rays_of a.grid.now) in
    cert_none a.slabs made c.add_strips.new.draft
    (adds_asked a.sweep.now s.stacks.cutter a.cutter s.stacks.slabs a.slabs a.depth a.part.now.grid a.grid.now a.part.now.solid.value a.fixture.now.solid.value c.new-draft.result c.add_strips.new.draft false
    s.ensures.cutter s.ensures.slabs c.requires.part.kept_for c.new-draft.ensures
    (by_answer (cells_of_rays (cert_task a.sweep.now s.stacks.cutter a.part.now.grid a.part.now.solid.value a.fixture.now.solid.value) s.stacks.slabs a.depth (rays_of a.part.now.grid))
    c.new-draft.result c.add_strips.new.draft c.in_ok-is_whole.is_whole false c.if-not-is_whole.true c.in_ok-is_whole.ensures))

pub returns-then-not-is_whole-clause-none : goal.returns-then-not-is_whole-clause-none
returns-then-not-is_whole-clause-none g c =
    let a = c.args in
    none_where_touched (cert_task a.sweep.now a.cutter a.grid.now a.part.now.solid.value a.fixture.now.solid.value) a.slabs a.depth None c.requires.some c.requires.few c.requires.depth
    (returns-then-not-is_whole-clause-due g c)

pub returns-clause-due : goal.returns-clause-due
returns-clause-due g c =
    let a = c.args in let s = c.in_ok-stacks in
    let made = cells_of_rays (cert_task a.sweep.now a.cutter a.grid.now a.part.now.solid.value a.fixture.now.solid.value) a.slabs a.depth (rays_of a.grid.now) in
    cert_whole a.slabs made c.add_strips.new.draft c.add_strips.new.draft.cells
    (adds_asked a.sweep.now s.stacks.cutter a.cutter s.stacks.slabs a.slabs a.depth a.part.now.grid a.grid.now a.part.now.solid.value a.fixture.now.solid.value c.new-draft.result c.add_strips.new.draft true
    s.ensures.cutter s.ensures.slabs c.requires.part.kept_for c.new-draft.ensures
    (by_answer (cells_of_rays (cert_task a.sweep.now s.stacks.cutter a.part.now.grid a.part.now.solid.value a.fixture.now.solid.value) s.stacks.slabs a.depth (rays_of a.part.now.grid))
    c.new-draft.result c.add_strips.new.draft c.in_ok-is_whole.is_whole true c.if-not-is_whole.false c.in_ok-is_whole.ensures)) refl

pub returns-clause-accepted : goal.returns-clause-accepted
returns-clause-accepted g c =
    let a = c.args in
    (cert_is_for (cert_task a.sweep.now a.cutter a.grid.now a.part.now.solid.value a.fixture.now.solid.value) a.slabs a.depth _ c.requires.some c.requires.few c.requires.depth (returns-clause-due g c)).accepted

pub returns-clause-untouched : goal.returns-clause-untouched
returns-clause-untouched g c =
    let a = c.args in let s = c.in_ok-stacks in
    let cert : Cert = record { slabs = a.slabs; cells = c.add_strips.new.draft.cells } in
    let is : IsCertFor (cert_task a.sweep.now a.cutter a.grid.now a.part.now.solid.value a.fixture.now.solid.value) cert =
    cert_is_for (cert_task a.sweep.now a.cutter a.grid.now a.part.now.solid.value a.fixture.now.solid.value) a.slabs a.depth cert c.requires.some c.requires.few c.requires.depth (returns-clause-due g c) in
    untouched_by a.sweep.now s.stacks.cutter a.cutter s.stacks.slabs a.slabs s.ensures.cutter s.ensures.slabs c.acceptance_law.ensures a.grid.now a.part.now.solid.value a.fixture.now.solid.value cert refl is.ranges is.accepted

pub returns-clause-ranges : goal.returns-clause-ranges
returns-clause-ranges g c =
    let a = c.args in
    (cert_is_for (cert_task a.sweep.now a.cutter a.grid.now a.part.now.solid.value a.fixture.now.solid.value) a.slabs a.depth _ c.requires.some c.requires.few c.requires.depth (returns-clause-due g c)).ranges

pub returns-clause-lines : goal.returns-clause-lines
returns-clause-lines g c =
    let a = c.args in
    (cert_is_for (cert_task a.sweep.now a.cutter a.grid.now a.part.now.solid.value a.fixture.now.solid.value) a.slabs a.depth _ c.requires.some c.requires.few c.requires.depth (returns-clause-due g c)).lines

pub returns-clause-none : goal.returns-clause-none
returns-clause-none g c =
    let a = c.args in
    none_where_touched (cert_task a.sweep.now a.cutter a.grid.now a.part.now.solid.value a.fixture.now.solid.value) a.slabs a.depth _ c.requires.some c.requires.few c.requires.depth (returns-clause-due g c)
