use Rattle.std.proofs.Common.{arith, subst, sym}
use Rattle.ray_grid.specs.Grids.{GridSize}
use Rattle.ray_grid.specs.Lattice.{IsRay}
use Rattle.ray_shapes.specs.Sets.{HoldsPointsOf, in_solid}
use Rattle.ray_shapes.proofs.Kept.{gives_own}
use Rattle.cert_boxes.specs.Tasks.{cert_task}
use Rattle.cert_boxes.proofs.SearchLemmas.{none_is, wanted_is}
use Rattle.cert_boxes.proofs.search.wanted_on.Goals as goal

pub fill-requires-2-clause-gives : goal.fill-requires-2-clause-gives
fill-requires-2-clause-gives g c = gives_own g.B.Fn c.args.part.now.grid c.args.fixture.now c.requires.fixture

pub fill-requires-2-clause-ray : goal.fill-requires-2-clause-ray
fill-requires-2-clause-ray g c = subst (λ (grid : GridSize). IsRay grid c.args.ray.now) (sym c.requires.fixture.kept_for) c.requires.ray

pub returns-clause-exact : goal.returns-clause-exact
returns-clause-exact g c =
    let task = cert_task c.args.sweep.now c.args.stacks.now.cutter c.args.part.now.grid c.args.part.now.solid.value c.args.fixture.now.solid.value in
    wanted_is task c.args.ray.now c.window_on-window.result.0 c.window_on-window.result.1 c.in_ok-near.near c.in_ok-of_part.of_part c.in_ok-of_fixture.of_fixture c.in_ok-guarded.guarded c.in_ok-wanted.wanted
    c.window_on-window.ensures.exact c.in_ok-near.ensures.exact c.in_ok-of_part.ensures
    (subst (λ (grid : GridSize). HoldsPointsOf grid c.args.ray.now (in_solid c.args.fixture.now.solid.value grid) c.in_ok-of_fixture.of_fixture) c.requires.fixture.kept_for c.in_ok-of_fixture.ensures)
    c.in_ok-guarded.ensures.union c.in_ok-wanted.ensures.meet

pub returns-then-window-clause-exact : goal.returns-then-window-clause-exact
returns-then-window-clause-exact g c =
    let task = cert_task c.args.sweep.now c.args.stacks.now.cutter c.args.part.now.grid c.args.part.now.solid.value c.args.fixture.now.solid.value in
    none_is task c.args.ray.now c.window_on-window.result.0 c.window_on-window.result.1 c.in_ok-near.near c.window_on-window.ensures.exact c.in_ok-near.ensures.exact (omega arith)
