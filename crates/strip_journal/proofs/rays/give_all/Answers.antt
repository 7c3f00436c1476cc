use Rattle.std.proofs.Common.{false, List, subst, take}
use Rattle.std.proofs.lemmas.List.{take_all}
use Rattle.strip_marks.specs.declared.change.WordChange.{WordChange}
use Rattle.strip_journal.specs.Packed.{no_change}
use Rattle.strip_journal.specs.Steps.{AreRaysTurned}
use Rattle.strip_journal.proofs.OneTurned.{one_turned}
use Rattle.strip_journal.proofs.RaysTurned.{change_turned}
use Rattle.strip_journal.proofs.rays.give_all.Goals as goal

pub change_ray-requires : goal.change_ray-requires
change_ray-requires c =
    let k = c.loop-change.change-index in
    change_turned c.args.rays.now c.loop-change.rays (take k c.args.changes.now) false _ c.loop-change.invariant
    (c.requires k no_change c.loop-change-test.true)

pub loop-change-preserved : goal.loop-change-preserved
loop-change-preserved c =
    one_turned c.args.rays.now c.loop-change.rays c.change_ray.new.rays c.args.changes.now c.loop-change.change-index false
    c.loop-change-test.true c.loop-change.invariant c.change_ray.ensures.others c.change_ray.ensures.turned

pub returns : goal.returns
returns c =
    let changes = c.args.changes.now in
    subst (λ (cs : List WordChange). AreRaysTurned c.args.rays.now c.loop-change.rays cs false)
    (take_all c.loop-change.change-index changes c.loop-change-test.false) c.loop-change.invariant
