use Rattle.std.proofs.Common.{ap, sym, subst, ◌∙◌}
use Rattle.vf_spans.specs.Members.{has}
use Rattle.cert_boxes.specs.Drafts.{IsBoxOn}
use Rattle.cert_boxes.specs.Making.{whole_box}
use Rattle.cert_boxes.specs.Tasks.{cert_task}
use Rattle.cert_boxes.proofs.Adding.{adds_ray_by, if_ok, whole_is_box}
use Rattle.cert_boxes.proofs.making.add_ray.Goals as goal

pub add_box-requires-clause-cell : goal.add_box-requires-clause-cell
add_box-requires-clause-cell g c =
    subst (IsBoxOn c.args.part.now.grid c.args.depth) (sym c.whole_box-cell.ensures)
    (whole_is_box c.args.part.now.grid c.args.depth c.args.ray.now c.bound.result c.requires.ray (c.bound.ensures ∙ c.in_ok-wanted.ensures.bound))

pub returns : goal.returns
returns g c =
    let task = cert_task c.args.sweep.now c.args.stacks.now.cutter c.args.part.now.grid c.args.part.now.solid.value c.args.fixture.now.solid.value in
    let wanted = c.in_ok-wanted.wanted in
    if_ok c.add_box.result _ _
    (λ whole each. adds_ray_by task c.args.stacks.now.slabs c.args.depth c.args.ray.now (has wanted) c.outer.result.now c.whole_box-cell.result c.args.draft.now c.add_box.new.draft whole c.outer.ensures.stack
    (c.whole_box-cell.ensures ∙ ap (whole_box c.args.ray.now) (c.bound.ensures ∙ c.in_ok-wanted.ensures.bound)) c.in_ok-wanted.ensures.exact each)
    c.add_box.ensures
