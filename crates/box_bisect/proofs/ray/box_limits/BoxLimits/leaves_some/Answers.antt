use Rattle.std.proofs.Common.{Bool, arith, sym, ◌∙◌}
use Rattle.bern_form.specs.Slab.{SlabSize}
use Rattle.ray_boxes.specs.Boxes.{is_excluded_by_grids}
use Rattle.box_bisect.specs.declared.ray.box_limits.BoxLimits.{BoxLimits}
use Rattle.box_bisect.proofs.SlabBySlab.{left_in, left_none, left_out}
use Rattle.box_bisect.proofs.ray.box_limits.BoxLimits.leaves_some.Goals as goal

excluded : BoxLimits → SlabSize → Bool
excluded k s =
    is_excluded_by_grids k.scale k.is_behind k.raised.c k.height.first.c k.height.middle.c k.height.last.c k.width.first.c k.width.middle.c k.width.last.c s

pub loop-slab-preserved : goal.loop-slab-preserved
unfolding excluded
loop-slab-preserved g c =
    let i = c.loop-slab.slab-index in let s = c.slab-item in let steps = c.tick.ensures in
    (left_out (excluded c.args.self.now) c.args.slabs.now i s.result c.loop-slab-test.true s.is (sym c.excludes.ensures ∙ c.if-not-excludes.false) ∙ c.loop-slab.invariant.0, omega (arith, steps, c.loop-slab.invariant.1))

pub returns-then-not-excludes : goal.returns-then-not-excludes
unfolding excluded
returns-then-not-excludes g c =
    let i = c.loop-slab.slab-index in let s = c.slab-item in let steps = c.tick.ensures in record {
      left = left_in (excluded c.args.self.now) c.args.slabs.now i s.result c.loop-slab-test.true s.is (sym c.excludes.ensures ∙ c.if-not-excludes.true) ∙ c.loop-slab.invariant.0;
      cost = omega (arith, steps, c.loop-slab.invariant.1, c.loop-slab-test.true);
    }

pub returns : goal.returns
unfolding excluded
returns g c = record {
  left = left_none (excluded c.args.self.now) c.args.slabs.now c.loop-slab.slab-index c.loop-slab-test.false ∙ c.loop-slab.invariant.0;
  cost = omega (arith, c.loop-slab.invariant.1, c.loop-slab.auto.slab-index-end);
}
