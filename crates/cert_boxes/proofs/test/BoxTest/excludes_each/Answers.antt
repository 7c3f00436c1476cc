use Rattle.std.proofs.Common.{Bool, false, ap, sym, ◌∙◌}
use Rattle.std.specs.List.{list_all}
use Rattle.std.proofs.lemmas.Bool.{and_from}
use Rattle.std.proofs.lemmas.List.{take_all}
use Rattle.std.proofs.lemmas.List.Folds.{list_all_at, list_all_more}
use Rattle.bern_form.specs.Slab.{SlabSize}
use Rattle.ray_boxes.specs.Boxes.{is_excluded_by_grids}
use Rattle.cert_boxes.specs.declared.test.BoxTest.{BoxTest}
use Rattle.cert_boxes.proofs.test.BoxTest.excludes_each.Goals as goal

excluded : BoxTest → SlabSize → Bool
excluded k s =
    is_excluded_by_grids k.scale false k.raised.c k.height.first.c k.height.middle.c k.height.last.c k.width.first.c k.width.middle.c k.width.last.c s

pub loop-slab-preserved : goal.loop-slab-preserved
unfolding excluded
loop-slab-preserved c =
    let i = c.loop-slab.slab-index in let s = c.slab-item in let out = excluded c.args.self.now in
    list_all_more out c.args.slabs.now i s.result c.loop-slab-test.true
    ∙ and_from _ _ c.loop-slab.invariant (ap out (sym s.is) ∙ sym c.excludes.ensures ∙ c.if-not-excludes.false)

pub returns-then-not-excludes : goal.returns-then-not-excludes
unfolding excluded
returns-then-not-excludes c =
    let i = c.loop-slab.slab-index in let s = c.slab-item in let out = excluded c.args.self.now in
    sym (list_all_at out c.args.slabs.now i s.result c.loop-slab-test.true (ap out (sym s.is) ∙ sym c.excludes.ensures ∙ c.if-not-excludes.true))

pub returns : goal.returns
unfolding excluded
returns c =
    let i = c.loop-slab.slab-index in let out = excluded c.args.self.now in
    sym (ap (list_all out) (sym (take_all i c.args.slabs.now c.loop-slab-test.false)) ∙ c.loop-slab.invariant)
