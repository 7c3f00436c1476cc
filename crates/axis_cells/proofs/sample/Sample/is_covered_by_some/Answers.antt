use Rattle.std.proofs.Common.{Bool, pos, sym, ◌∙◌}
use Rattle.bern_form.specs.Slab.{SlabSize, covers}
use Rattle.axis_cells.specs.declared.sample.Sample.{Sample}
use Rattle.axis_cells.proofs.SlabBySlab.{any_here, any_later, any_none}
use Rattle.axis_cells.proofs.sample.Sample.is_covered_by_some.Goals as goal

abbrev covered : Sample → SlabSize → Bool
covered at s = covers s (pos at.scale) at.u at.n at.w

pub loop-slab-preserved : goal.loop-slab-preserved
loop-slab-preserved c =
    let s = c.slab-item in
    any_later (covered c.args.self.now) c.args.slabs.now c.loop-slab.slab-index s.result c.loop-slab-test.true s.is (sym c.is_covered_by.ensures ∙ c.if-is_covered_by.false)
    ∙ c.loop-slab.invariant

pub returns-then-is_covered_by : goal.returns-then-is_covered_by
returns-then-is_covered_by c =
    let s = c.slab-item in
    any_here (covered c.args.self.now) c.args.slabs.now c.loop-slab.slab-index s.result c.loop-slab-test.true s.is (sym c.is_covered_by.ensures ∙ c.if-is_covered_by.true)
    ∙ c.loop-slab.invariant

pub returns : goal.returns
returns c = any_none (covered c.args.self.now) c.args.slabs.now c.loop-slab.slab-index c.loop-slab-test.false ∙ c.loop-slab.invariant
