use Rattle.std.proofs.Common.{ℕ, ℤ, List, ◌^◌, ap, subst, ◌∙◌}
use Rattle.bern_form.specs.Slab.{SlabSize}
use Rattle.cutter_slabs.specs.Stacks.{inner_stack}
use Rattle.wanted_marks.specs.Nears.{AreBoundsIn}
use Rattle.wanted_marks.specs.Rays.{MoveOf}
use Rattle.wanted_marks.specs.Samples.{sample_n}
use Rattle.wanted_marks.proofs.Running.{bounds_are}
use Rattle.wanted_marks.proofs.move_marker.MoveMarker.inner_near.Goals as goal

pub returns : goal.returns
returns c = λ k at.
    let v = c.args.self.now in let S = 2 ^ v.depth in let x = c.args.sample.now in let b = c.bounds.result in let slabs = c.inner-inner.result.now in
    let stack = c.inner-inner.ensures.stack ∙ ap (λ (y : MoveOf). inner_stack y.cutter y.slabs) c.self.view_is in
    subst (λ (l : List SlabSize). AreBoundsIn b S (sample_n v k) l) stack
    (subst (λ (n : ℤ). AreBoundsIn b S n slabs) at.n_is
    (subst (λ (j : ℕ). AreBoundsIn b j x.n slabs) at.scale_is
    (bounds_are b x.scale x.n slabs c.reached-reached.result c.reached-reached.ensures.within c.bounds.ensures.none c.bounds.ensures.slab)))
