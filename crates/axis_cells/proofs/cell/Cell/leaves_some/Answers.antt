use Rattle.std.proofs.Common.{Bool, not, pos, ap, sym, ◌∙◌}
use Rattle.bern_form.specs.Slab.{SlabSize}
use Rattle.axis_cells.specs.declared.cell.Cell.{Cell}
use Rattle.axis_cells.specs.Exclusion.{excluded_by}
use Rattle.axis_cells.proofs.SlabBySlab.{any_here, any_later, any_none}
use Rattle.axis_cells.proofs.cell.Cell.leaves_some.Goals as goal

abbrev left : Cell → SlabSize → Bool
left k s = not (excluded_by (pos k.scale) k.is_behind k.n.c k.height.c k.width.c s)

pub loop-slab-preserved : goal.loop-slab-preserved
loop-slab-preserved c =
    let s = c.slab-item in
    any_later (left c.args.self.now) c.args.slabs.now c.loop-slab.slab-index s.result c.loop-slab-test.true s.is (ap not (sym c.excludes.ensures ∙ c.if-not-excludes.false))
    ∙ c.loop-slab.invariant

pub returns-then-not-excludes : goal.returns-then-not-excludes
returns-then-not-excludes c =
    let s = c.slab-item in
    any_here (left c.args.self.now) c.args.slabs.now c.loop-slab.slab-index s.result c.loop-slab-test.true s.is (ap not (sym c.excludes.ensures ∙ c.if-not-excludes.true))
    ∙ c.loop-slab.invariant

pub returns : goal.returns
returns c = any_none (left c.args.self.now) c.args.slabs.now c.loop-slab.slab-index c.loop-slab-test.false ∙ c.loop-slab.invariant
