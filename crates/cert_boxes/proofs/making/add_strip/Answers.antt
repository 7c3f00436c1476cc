use Rattle.std.proofs.Common.{◌+◌, true, false, arith, refl}
use Rattle.ray_grid.specs.Strips.{strip_at}
use Rattle.cert_boxes.specs.Making.{cells_of_ray}
use Rattle.cert_boxes.specs.Tasks.{cert_task}
use Rattle.cert_boxes.proofs.Adding.{by_answer, ray_more, rays_all, rays_stop}
use Rattle.cert_boxes.proofs.making.add_strip.Goals as goal

pub loop-n-init : goal.loop-n-init
loop-n-init g c = (refl, refl)

pub loop-n-preserved : goal.loop-n-preserved
loop-n-preserved g c =
    let task = cert_task c.args.sweep.now c.args.stacks.now.cutter c.args.part.now.grid c.args.part.now.solid.value c.args.fixture.now.solid.value in
    let slabs = c.args.stacks.now.slabs in let depth = c.args.depth in let ray = c.strip_ray-ray.result in
    ray_more task slabs depth (strip_at c.args.part.now.grid c.args.strip) c.loop-n.n ray c.args.draft.now c.loop-n.draft c.add_ray.new.draft true c.strip_ray-ray.ensures.there c.loop-n.invariant
    (by_answer (cells_of_ray task slabs depth ray) c.loop-n.draft c.add_ray.new.draft c.in_ok-is_whole.is_whole true c.if-not-is_whole.false c.in_ok-is_whole.ensures)

pub returns-then-not-is_whole : goal.returns-then-not-is_whole
returns-then-not-is_whole g c =
    let task = cert_task c.args.sweep.now c.args.stacks.now.cutter c.args.part.now.grid c.args.part.now.solid.value c.args.fixture.now.solid.value in
    let slabs = c.args.stacks.now.slabs in let depth = c.args.depth in let ray = c.strip_ray-ray.result in let rays = strip_at c.args.part.now.grid c.args.strip in
    rays_stop task slabs depth rays (c.loop-n.n + 1) c.args.draft.now c.add_ray.new.draft
    (ray_more task slabs depth rays c.loop-n.n ray c.args.draft.now c.loop-n.draft c.add_ray.new.draft false c.strip_ray-ray.ensures.there c.loop-n.invariant
    (by_answer (cells_of_ray task slabs depth ray) c.loop-n.draft c.add_ray.new.draft c.in_ok-is_whole.is_whole false c.if-not-is_whole.true c.in_ok-is_whole.ensures))

pub returns : goal.returns
returns g c =
    let task = cert_task c.args.sweep.now c.args.stacks.now.cutter c.args.part.now.grid c.args.part.now.solid.value c.args.fixture.now.solid.value in
    rays_all task c.args.stacks.now.slabs c.args.depth (strip_at c.args.part.now.grid c.args.strip) c.loop-n.n c.args.draft.now c.loop-n.draft
    (omega (arith, c.loop-n-test.false, c.strip_len-n-end.ensures)) c.loop-n.invariant
