use Rattle.std.proofs.Common.{arith}
use Rattle.near_points.specs.Rays.{cylinder_ray_at}
use Rattle.strip_marks.specs.Marks.{sets_of}
use Rattle.strip_marks.specs.RayMarks.{IsUnasked}
use Rattle.strip_marks.proofs.AskedWords.{unasked_left}
use Rattle.strip_marks.proofs.UnaskedRays.{unasked_empty, unasked_more, unasked_unheld}
use Rattle.strip_marks.proofs.asked.next_open.Goals as goal
use Rattle.strip_marks.proofs.asked.next_open.Goals.{else-left-via-then-left+else-may_hold, else-left-via-else-left}

pub loop-n-preserved : goal.loop-n-preserved
loop-n-preserved c =
    let a = c.args in
    let n = c.loop-n.n in
    let near = cylinder_ray_at a.near.now n in
    let d = sets_of a.rays.now n in
    let left = c.unsettled-left.result in
    let none : IsUnasked near d left =
    elim c.else-left.branch [
      | else-left-via-then-left+else-may_hold w ↦ unasked_unheld near d left w.may_hold.result w.may_hold.ensures w.if-may_hold.false
      | else-left-via-else-left w ↦ unasked_empty near d left w.if-left.false
    ] in
    unasked_more a.near.now a.rays.now a.window a.from n c.loop-n.invariant
    (unasked_left near d a.window left c.unsettled-left.ensures none)

pub returns-clause-none : goal.returns-clause-none
returns-clause-none c = λ n from below. c.loop-n.invariant n from (omega (arith, below, c.loop-n-test.false))
