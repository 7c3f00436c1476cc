use Rattle.std.proofs.Common.{arith}
use Rattle.near_points.specs.Rays.{cylinder_ray_at}
use Rattle.strip_marks.proofs.AskedWords.{none_asked_next}
use Rattle.strip_marks.proofs.NearRays.{unasked_all}
use Rattle.strip_marks.proofs.asked.first_word.Goals as goal

pub loop-range-preserved : goal.loop-range-preserved
loop-range-preserved c =
    let a = c.args in
    none_asked_next (cylinder_ray_at a.near.now a.n) a.ray.now.sets a.range c.loop-range.word c.candidates_in-points.result
    c.loop-range.invariant (omega (arith, c.loop-range-test.true)) c.candidates_in-points.ensures c.if-points-ne0.false

pub returns-clause-none : goal.returns-clause-none
returns-clause-none c =
    let a = c.args in
    unasked_all (cylinder_ray_at a.near.now a.n) a.ray.now.sets a.range c.loop-range.word c.loop-range.invariant
    (omega (arith, c.loop-range-test.false))
