use Rattle.std.proofs.Common.{FitsSigned, ap, rules, w32, ◌∙◌}
use Rattle.std.proofs.lemmas.Int.{to_z-of_z}
use Rattle.space.specs.Vectors.{at}
use Rattle.ray_grid.specs.Grids.{GridSize}
use Rattle.ray_grid.proofs.Turned.{component}
use Rattle.setup_turn.proofs.Finding.{same_steps_from, small_fits}
use Rattle.setup_turn.proofs.place.index_at.Goals as goal

pub returns : goal.returns
returns c =
    let a = c.ray_axis-axis.result in
    let origin : FitsSigned w32 (at c.grid.inside.origin a) = search rules in
    let step : FitsSigned w32 c.grid.inside.step = search rules in
    same_steps_from _ _ _ _ _ _ _ _ c.steps_to.result
    (to_z-of_z w32 _ origin ∙ ap (λ (g : GridSize). at g.origin a) c.grid.view_is ∙ ap (at c.args.grid.now.origin) c.ray_axis-axis.ensures.axis)
    (to_z-of_z w32 _ step ∙ ap (λ (g : GridSize). g.step) c.grid.view_is)
    c.points.ensures
    (to_z-of_z w32 _ (small_fits (at c.args.place.now a) (component 5000000 c.args.place.now a c.requires c.ray_axis-axis.ensures.three)) ∙ ap (at c.args.place.now) c.ray_axis-axis.ensures.axis)
    c.steps_to.ensures
