use Rattle.std.proofs.Common.{pos, rules, subst, sym}
use Rattle.space.specs.Ranges.{IsBetween}
use Rattle.cl_records.specs.Kinds.{largest_corner}
use Rattle.cl_records.proofs.SizeLemmas.{AreSizes-kinds}
use Rattle.cl_records.proofs.cutter.corner_radius.Goals as goal

pub returns-clause-range : goal.returns-clause-range
returns-clause-range c =
    let range : IsBetween (pos 0) (pos largest_corner) c.size_or_zero.result = subst (IsBetween (pos 0) (pos largest_corner)) (sym c.size_or_zero.ensures) (AreSizes-kinds c.args.sizes.now c.requires.some c.requires.kinds).radius in
    search rules
