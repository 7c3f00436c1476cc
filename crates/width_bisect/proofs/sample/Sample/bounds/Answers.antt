use Rattle.std.proofs.Common.{◌-◌, ◌<◌, ◌≡◌, arith, length, get_or, ap, sym, subst, ◌∙◌}
use Rattle.std.proofs.lemmas.List.{get_or_read}
use Rattle.box_bisect.specs.SlabTests.{no_slab}
use Rattle.width_bisect.specs.Bounds.{HoldsBy, bounds_of}
use Rattle.width_bisect.specs.declared.bounds.Bounds.{Bounds}
use Rattle.width_bisect.proofs.Bounding.{slab_holds}
use Rattle.width_bisect.proofs.sample.Sample.bounds.Goals as goal

pub returns-clause-slab : goal.returns-clause-slab
returns-clause-slab c = λ i e.
    let at = c.args.self.now in let slabs = c.args.slabs.now in let x = c.index-slabs-reached.result in let within = c.requires in
    let l : i < length slabs = omega (arith, e, within) in let same : c.args.reached - 1 ≡ i = omega (arith, e) in
    c.bounds_of.ensures ∙ ap (bounds_of at.scale at.n) (get_or_read slabs i x l (c.index-slabs-reached.is ∙ ap (λ k. get_or slabs k x) same) no_slab)

pub returns-clause-held : goal.returns-clause-held
returns-clause-held c =
    let at = c.args.self.now in let slabs = c.args.slabs.now in let x = c.index-slabs-reached.result in let within = c.requires in let i = c.args.reached - 1 in
    let some = c.if-reached-eq0.false in let l : i < length slabs = omega (arith, some, within) in
    let read = get_or_read slabs i x l c.index-slabs-reached.is no_slab in
    subst (λ (b : Bounds). HoldsBy b at.scale at.n slabs) (sym (c.bounds_of.ensures ∙ ap (bounds_of at.scale at.n) read)) (slab_holds at.scale at.n slabs i l)
