use Rattle.std.proofs.Common.{pos, rules, subst, sym}
use Rattle.space.specs.Ranges.{IsBetween}
use Rattle.cl_records.specs.Kinds.{widest}
use Rattle.cl_records.proofs.SizeLemmas.{AreSizes-kinds}
use Rattle.cl_records.proofs.cutter.diameter.Goals as goal

pub returns-clause-range : goal.returns-clause-range
returns-clause-range c =
    let range : IsBetween (pos 1) (pos widest) c.size_or_zero.result = subst (IsBetween (pos 1) (pos widest)) (sym c.size_or_zero.ensures) (AreSizes-kinds c.args.sizes.now c.requires.some c.requires.kinds).width in
    search rules
