use Rattle.std.proofs.Common.{sym, subst}
use Rattle.ray_words.specs.Rows.{kept_at}
use Rattle.near_points.specs.Rays.{cylinder_ray_at}
use Rattle.wanted_marks.specs.Rays.{RayOf, is_possible_at, is_sure_at}
use Rattle.strip_marks.specs.Marks.{sets_of}
use Rattle.strip_marks.specs.RayMarks.{Adds, IsNearOf, IsRayMarked, IsWindow}
use Rattle.strip_marks.specs.Words.{AreSetsOf}
use Rattle.strip_marks.proofs.strip.mark_asked.Goals as goal

pub mark_strip_ray-requires-clause-ray : goal.mark_strip_ray-requires-clause-ray
mark_strip_ray-requires-clause-ray c = subst (λ (r : RayOf). AreSetsOf r (sets_of c.args.rays.now c.args.n)) (sym c.on_ray-on_ray.ensures) c.requires.ray

pub mark_strip_ray-requires-clause-window : goal.mark_strip_ray-requires-clause-window
mark_strip_ray-requires-clause-window c =
    let w = c.args.along in subst (λ (r : RayOf). IsWindow r w.0 w.1) (sym c.on_ray-on_ray.ensures) c.requires.window

pub mark_strip_ray-requires-clause-near : goal.mark_strip_ray-requires-clause-near
mark_strip_ray-requires-clause-near c =
    let near = cylinder_ray_at c.args.near.now c.args.n in
    subst (λ (r : RayOf). IsNearOf near r) (sym c.on_ray-on_ray.ensures) c.requires.near

pub returns-clause-marked : goal.returns-clause-marked
returns-clause-marked c =
    subst (λ (r : RayOf). Adds c.args.marked.now c.mark_strip_ray.new.marked (λ added found.
    IsRayMarked (kept_at c.mark_strip_ray.new.rays c.args.n) (is_sure_at r) (is_possible_at r) c.args.rapid c.args.n added found))
    c.on_ray-on_ray.ensures c.in_ok-mark_strip_ray.ensures.marked
