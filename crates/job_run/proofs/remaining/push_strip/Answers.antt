use Rattle.std.proofs.Common.{◌≡◌, ◌<◌, length, arith, ap, subst, ◌∙◌, Some}
use Rattle.std.specs.Prelude.{slice_get}
use Rattle.ray_grid.specs.Grids.{GridSize}
use Rattle.ray_grid.specs.Strips.{strip_at}
use Rattle.ray_grid.specs.declared.ray.Ray.{Ray}
use Rattle.ray_shapes.specs.Sets.{HoldsPointsOf}
use Rattle.strip_journal.specs.Remaining.{remains_at}
use Rattle.job_run.proofs.Leftovers.{one_more_ray}
use Rattle.job_run.proofs.remaining.push_strip.Goals as goal

pub loop-n-preserved : goal.loop-n-preserved
loop-n-preserved c =
    let s = c.args.strip.now in
    let grid = c.args.grid.now in
    let size = c.strip_len-n-end.ensures ∙ ap (λ k. length (strip_at grid k)) c.number.ensures.number in
    let test = c.loop-n-test.true in
    let low : c.loop-n.n < length (strip_at grid s.number) = omega (arith, test, size) in
    one_more_ray grid (remains_at s.job s.done) (strip_at grid s.number) c.loop-n.n c.in_ok-remaining_on.field-0 c.args.sets.now.items c.loop-n.sets.items
    c.push.new.self.items low
    (subst (λ (g : GridSize). (ray : Ray) → slice_get (strip_at g s.number) c.loop-n.n ≡ Some ray → HoldsPointsOf g ray (remains_at s.job s.done) c.in_ok-remaining_on.field-0)
    c.requires.grid c.in_ok-remaining_on.ensures)
    c.loop-n.invariant c.in_ok-push.ensures.items
