use Rattle.std.proofs.Common.{◌+◌, ◌<◌, true, false, length, arith, refl}
use Rattle.ray_grid.specs.Strips.{strip_at, strips_of}
use Rattle.cert_boxes.specs.Making.{cells_of_rays}
use Rattle.cert_boxes.specs.Tasks.{cert_task}
use Rattle.cert_boxes.proofs.Adding.{by_answer, strip_more, strips_all, strips_stop}
use Rattle.cert_boxes.proofs.making.add_strips.Goals as goal

pub loop-strip-init : goal.loop-strip-init
loop-strip-init g c = (refl, refl)

pub loop-strip-preserved : goal.loop-strip-preserved
loop-strip-preserved g c =
    let task = cert_task c.args.sweep.now c.args.stacks.now.cutter c.args.part.now.grid c.args.part.now.solid.value c.args.fixture.now.solid.value in
    let slabs = c.args.stacks.now.slabs in let depth = c.args.depth in let s = c.loop-strip.strip in
    let low : s < length (strips_of c.args.part.now.grid) = omega (arith, c.loop-strip-test.true, c.strips-strip-end.ensures) in
    strip_more task slabs depth s c.args.draft.now c.loop-strip.draft c.add_strip.new.draft true low c.loop-strip.invariant
    (by_answer (cells_of_rays task slabs depth (strip_at c.args.part.now.grid s)) c.loop-strip.draft c.add_strip.new.draft c.in_ok-is_whole.is_whole true c.if-not-is_whole.false c.in_ok-is_whole.ensures)

pub returns-then-not-is_whole : goal.returns-then-not-is_whole
returns-then-not-is_whole g c =
    let task = cert_task c.args.sweep.now c.args.stacks.now.cutter c.args.part.now.grid c.args.part.now.solid.value c.args.fixture.now.solid.value in
    let slabs = c.args.stacks.now.slabs in let depth = c.args.depth in let s = c.loop-strip.strip in
    let low : s < length (strips_of c.args.part.now.grid) = omega (arith, c.loop-strip-test.true, c.strips-strip-end.ensures) in
    strips_stop task slabs depth (s + 1) c.args.draft.now c.add_strip.new.draft
    (strip_more task slabs depth s c.args.draft.now c.loop-strip.draft c.add_strip.new.draft false low c.loop-strip.invariant
    (by_answer (cells_of_rays task slabs depth (strip_at c.args.part.now.grid s)) c.loop-strip.draft c.add_strip.new.draft c.in_ok-is_whole.is_whole false c.if-not-is_whole.true c.in_ok-is_whole.ensures))

pub returns : goal.returns
returns g c =
    let task = cert_task c.args.sweep.now c.args.stacks.now.cutter c.args.part.now.grid c.args.part.now.solid.value c.args.fixture.now.solid.value in
    strips_all task c.args.stacks.now.slabs c.args.depth c.loop-strip.strip c.args.draft.now c.loop-strip.draft
    (omega (arith, c.loop-strip-test.false, c.strips-strip-end.ensures)) c.loop-strip.invariant
