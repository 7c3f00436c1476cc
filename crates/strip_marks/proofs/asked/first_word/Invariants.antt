use Rattle.std.specs.Prelude.{◌-◌}
use Rattle.vf_spans.specs.Words.{words_below}
use Rattle.near_points.specs.Rays.{cylinder_ray_at}
use Rattle.strip_marks.specs.RayMarks.{HasNoneAsked}
use Rattle.strip_marks.proofs.asked.first_word.Given as goal

abbrev pub invariant-loop-range : goal.invariant-loop-range
invariant-loop-range l = HasNoneAsked (cylinder_ray_at l.near l.n) l.ray.sets l.range l.word

abbrev pub decreases-loop-range : goal.decreases-loop-range
decreases-loop-range l = words_below l.range.1 - l.word
