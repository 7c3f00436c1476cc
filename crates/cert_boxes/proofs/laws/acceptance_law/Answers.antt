use Rattle.std.proofs.Common.{◌≡◌, List, ℤ, true, subst}
use Rattle.space.specs.Reach.{is_in_reach}
use Rattle.space.specs.Sweeps.{IsSweep}
use Rattle.bern_form.specs.Marks.{some_holds}
use Rattle.bern_form.specs.Slab.{SlabSize}
use Rattle.cert_boxes.proofs.Accepted.{accepted_is_untouched}
use Rattle.cert_boxes.proofs.laws.acceptance_law.Goals as goal

pub returns : goal.returns
returns c =
    accepted_is_untouched c.args.sweep.now c.args.stacks.now.cutter c.args.stacks.now.slabs (subst IsSweep c.sweep.view_is c.sweep.invariant)
    (λ m p a b inside. subst (λ (slabs : List SlabSize). some_holds slabs m p a b ≡ true) c.outer-outer.ensures.stack (c.outer-outer.ensures.encloses m p a b inside))
    (λ m p a b sweep time inside. subst (λ (z : ℤ). is_in_reach z m.from m.to p ≡ true) c.reach-reach.ensures.value (c.reach-reach.ensures.encloses m p a b sweep time inside))
