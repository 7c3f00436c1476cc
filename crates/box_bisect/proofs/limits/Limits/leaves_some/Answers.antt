-- Where n is above 0 by its coefficients one slab decides, and else each is tested.
use Rattle.std.proofs.Common.{arith, sym, ◌∙◌}
use Rattle.box_bisect.proofs.Leaving.{none_ahead}
use Rattle.box_bisect.proofs.limits.Limits.leaves_some.Goals as goal

pub returns-then-self : goal.returns-then-self
returns-then-self g c =
    let l = c.args.self.now in record {
      left = sym (none_ahead l.scale l.is_behind l.raised.c l.height.c l.width.c c.args.slabs.now c.if-self.true);
      cost = omega arith;
    }

pub returns-then-not-all_positive : goal.returns-then-not-all_positive
returns-then-not-all_positive g c = c.leaves_some_of.ensures

pub leaves_some_by_one-requires : goal.leaves_some_by_one-requires
leaves_some_by_one-requires g c = record {
  ahead = c.if-self.false;
  positive = sym c.all_positive.ensures.exact ∙ c.if-not-all_positive.false;
  rising = c.requires;
}

pub returns : goal.returns
returns g c = c.leaves_some_by_one.ensures
