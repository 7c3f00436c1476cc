use Rattle.std.proofs.Common.{FitsSigned, rules, sym, subst}
use Rattle.std.proofs.lemmas.Int.{to_z-of_z}
use mir.Syntax.{w32}
use Rattle.bern_form.specs.Slab.{SlabSize}
use Rattle.sweep_boxes.specs.BandTerms.{IsStepAt}
use Rattle.sweep_boxes.proofs.Ascending.{step_of}
use Rattle.sweep_boxes.proofs.slab_step.step_at.Goals as goal

pub returns : goal.returns
returns c =
    let low : FitsSigned w32 c.upper.inside.lo = search rules in
    let dia : FitsSigned w32 c.lower.inside.dia = search rules in
    let step = step_of c.args.slabs.now c.args.k c.index-slabs-k.result c.index-slabs-k-2.result c.requires.rising c.requires.after c.requires.within c.index-slabs-k.is c.index-slabs-k-2.is in
    let here : IsStepAt c.upper.inside.lo c.lower.inside.dia c.args.slabs.now =
    subst (λ (x : SlabSize). IsStepAt x.lo c.lower.inside.dia c.args.slabs.now) (sym c.upper.view_is) (subst (λ (x : SlabSize). IsStepAt c.index-slabs-k.result.lo x.dia c.args.slabs.now) (sym c.lower.view_is) step) in
    simp to_z-of_z here
