use Rattle.std.proofs.Common.{ap, ◌∙◌}
use Rattle.width_bisect.specs.Bounds.{bounds_of}
use Rattle.width_bisect.proofs.SlabLengths.{are_small, bounds_read, passed}
use Rattle.width_bisect.proofs.sample.Sample.bounds_of.Goals as goal

pub squared-requires : goal.squared-requires
squared-requires c = passed c.slab.inside.lo (are_small _ c.slab.invariant).lo

pub squared-requires-2 : goal.squared-requires-2
squared-requires-2 c = passed c.slab.inside.hi (are_small _ c.slab.invariant).hi

pub squared-requires-3 : goal.squared-requires-3
squared-requires-3 c = passed c.slab.inside.dia (are_small _ c.slab.invariant).dia

pub returns : goal.returns
returns c =
    let at = c.args.self.now in
    bounds_read c.squared.result c.squared-2.result c.squared-3.result at.n at.scale _ (are_small _ c.slab.invariant)
    record { sfits = c.squared.type_inv } record { sfits = c.squared-2.type_inv } record { sfits = c.squared-3.type_inv }
    c.squared.ensures c.squared-2.ensures c.squared-3.ensures
    ∙ ap (bounds_of at.scale at.n) c.slab.view_is
