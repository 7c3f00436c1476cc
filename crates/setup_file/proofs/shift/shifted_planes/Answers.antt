use Rattle.std.proofs.Common.{◌++◌, ◌∷◌, [], map, ap, ◌∙◌}
use Rattle.std.proofs.lemmas.Int.{to_z-of_z}
use Rattle.std.proofs.lemmas.Result.{IfOk-from_err}
use Rattle.setup_file.specs.Shift.{shifted_plane}
use Rattle.setup_file.proofs.Mapped.{mapped-all, mapped-more}
use Rattle.setup_file.proofs.shift.shifted_planes.Goals as goal

pub returns-in_err-push : goal.returns-in_err-push
returns-in_err-push c = IfOk-from_err _ _ c.from_residual.ensures.0

pub loop-plane-preserved : goal.loop-plane-preserved
loop-plane-preserved c =
    mapped-more (shifted_plane _) c.args.planes.now c.loop-plane.plane-index _ c.loop-plane.raised.items _ c.loop-plane-test.true c.loop-plane.invariant
    (c.in_ok-push.ensures.items ∙ ap (λ plane. c.loop-plane.raised.items ++ plane ∷ []) c.shifted_plane.ensures)

pub returns : goal.returns
returns c =
    mapped-all (shifted_plane _) c.args.planes.now c.loop-plane.plane-index c.loop-plane.raised.items c.loop-plane-test.false c.loop-plane.invariant
    ∙ ap (λ by. map (shifted_plane by) c.args.planes.now) (to_z-of_z _ _ c.ranges.by)
