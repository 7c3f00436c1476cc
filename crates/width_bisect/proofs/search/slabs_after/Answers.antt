-- The slabs are those that the mark requires.
use Rattle.std.proofs.Common.{ap, sym}
use Rattle.width_bisect.specs.Early.{slabs_after}
use Rattle.width_bisect.proofs.search.slabs_after.Goals as goal

pub returns-in-Possible : goal.returns-in-Possible
returns-in-Possible c = sym (ap (λ k. slabs_after k c.args.inner.now c.args.outer.now) c.in-Possible.is)

pub returns-in-Removed : goal.returns-in-Removed
returns-in-Removed c = sym (ap (λ k. slabs_after k c.args.inner.now c.args.outer.now) c.in-Removed.is)

pub returns-in-Clear : goal.returns-in-Clear
returns-in-Clear c = sym (ap (λ k. slabs_after k c.args.inner.now c.args.outer.now) c.in-Clear.is)
