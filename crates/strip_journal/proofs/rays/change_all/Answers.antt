use Rattle.std.proofs.Common.{◌≡◌, [], ◌∷◌, arith, slice_set, subst}
use Rattle.ray_words.specs.Rows.{kept_at}
use Rattle.strip_marks.specs.declared.change.WordChange.{WordChange}
use Rattle.strip_journal.specs.Steps.{IsRayTurned}
use Rattle.strip_journal.proofs.OneTurned.{one_turned}
use Rattle.strip_journal.proofs.rays.change_all.Goals as goal

pub loop-k-preserved : goal.loop-k-preserved
loop-k-preserved c =
    let before = c.loop-k.rays in
    let after = c.change_ray.new.rays in
    one_turned c.args.rays.now before after c.args.changes.now c.loop-k.k c.args.is_undo (omega arith) c.loop-k.invariant
    (subst (λ (change : WordChange). after ≡ slice_set before change.ray (kept_at after change.ray)) c.get.ensures
    c.change_ray.ensures.others)
    (subst (λ (change : WordChange). IsRayTurned (kept_at before change.ray) (kept_at after change.ray) (change ∷ []) change.ray c.args.is_undo)
    c.get.ensures c.change_ray.ensures.turned)
