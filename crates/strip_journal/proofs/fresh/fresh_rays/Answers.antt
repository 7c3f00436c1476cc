-- The count fits, since a strip has few points; and one ray more is fresh.
use Rattle.std.proofs.Common.{◌≡◌, ◌<◌, length, ap, arith, sym, subst}
use Rattle.ray_grid.specs.Grids.{GridSize}
use Rattle.ray_grid.specs.Lattice.{IsRay}
use Rattle.ray_grid.specs.Strips.{strip_at}
use Rattle.ray_shapes.proofs.Kept.{gives_on, gives_own}
use Rattle.strip_journal.specs.Fresh.{AreFreshRays, stock_points}
use Rattle.strip_journal.proofs.FreshRays.{few_more, fresh_more, fresh_on, stock_more}
use Rattle.strip_journal.proofs.fresh.fresh_rays.Goals as goal

pub overflow_add-points : goal.overflow_add-points
overflow_add-points g c =
    let low : c.loop-n.n < length (strip_at c.args.grid.now c.args.strip) = omega (arith, c.loop-n-test.true, c.strip_len-count.ensures) in
    let one =
    fresh_on c.args.grid.now _ c.strip_ray.result _ _ _ c.in_ok-ray.ray c.requires.stock.kept_for c.in_ok-ray.ensures in
    let few =
    few_more c.args.grid.now c.args.strip c.loop-n.n c.loop-n.points c.stock_count-points.result c.args.stock.now.solid.value
    c.args.part.now.solid.value c.args.fixture.now.solid.value c.loop-n.rays c.strip_ray.result c.in_ok-ray.ray c.hold_grid.ensures
    c.requires.strip low c.loop-n.invariant.rays c.loop-n.invariant.points c.strip_ray.ensures.there one c.stock_count-points.ensures in
    omega (arith, few)

pub loop-n-preserved : goal.loop-n-preserved
loop-n-preserved g c =
    let one =
    fresh_on c.args.grid.now _ c.strip_ray.result _ _ _ c.in_ok-ray.ray c.requires.stock.kept_for c.in_ok-ray.ensures in
    record {
      rays =
          fresh_more c.args.grid.now c.args.strip c.loop-n.n c.args.stock.now.solid.value c.args.part.now.solid.value c.args.fixture.now.solid.value
          c.loop-n.rays c.push.new.self c.strip_ray.result c.in_ok-ray.ray c.loop-n.invariant.rays
          c.strip_ray.ensures.there one c.in_ok-push.ensures.ok;
      points =
          stock_more c.loop-n.rays c.push.new.self c.in_ok-ray.ray c.loop-n.points c.stock_count-points.result
          c.loop-n.invariant.points c.stock_count-points.ensures c.in_ok-push.ensures.ok;
    }

pub fresh_ray-requires-clause-stock : goal.fresh_ray-requires-clause-stock
fresh_ray-requires-clause-stock g c = gives_own g.A.Fn c.args.grid.now c.args.stock.now c.requires.stock

pub fresh_ray-requires-clause-part : goal.fresh_ray-requires-clause-part
fresh_ray-requires-clause-part g c =
    gives_on g.B.Fn c.args.grid.now c.args.stock.now.grid c.args.part.now (sym c.requires.stock.kept_for) c.requires.part

pub fresh_ray-requires-clause-fixture : goal.fresh_ray-requires-clause-fixture
fresh_ray-requires-clause-fixture g c =
    gives_on g.C.Fn c.args.grid.now c.args.stock.now.grid c.args.fixture.now (sym c.requires.stock.kept_for) c.requires.fixture

pub returns-clause-rays : goal.returns-clause-rays
returns-clause-rays g c =
    let all : c.loop-n.n ≡ length (strip_at c.args.grid.now c.args.strip) =
    omega (arith, c.loop-n-test.false, c.loop-n.auto.n-end, c.strip_len-count.ensures) in
    subst
    (λ n. AreFreshRays c.args.grid.now c.args.strip n c.args.stock.now.solid.value c.args.part.now.solid.value c.args.fixture.now.solid.value c.loop-n.rays)
    all c.loop-n.invariant.rays

pub returns-clause-stock : goal.returns-clause-stock
returns-clause-stock g c = c.loop-n.invariant.points

pub loop-n-init : goal.loop-n-init
loop-n-init g c =
    let none = c.in_ok-rays.ensures in
    record {
      rays = record { many = ap length none; each = λ n lt. absurd (omega (arith, lt)) };
      points = sym (ap stock_points none);
    }

pub fresh_ray-requires-clause-ray : goal.fresh_ray-requires-clause-ray
fresh_ray-requires-clause-ray g c =
    subst (λ (grid : GridSize). IsRay grid c.strip_ray.result) (sym c.requires.stock.kept_for) c.strip_ray.ensures.ray
