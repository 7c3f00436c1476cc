use Rattle.std.proofs.Common.{FitsSigned, ap, rules, w32, ◌∙◌}
use Rattle.std.proofs.lemmas.Int.{to_z-of_z}
use Rattle.space.specs.Vectors.{at}
use Rattle.ray_grid.specs.Grids.{GridSize}
use Rattle.ray_grid.specs.Lattice.{nodes_of}
use Rattle.ray_grid.proofs.Turned.{component}
use Rattle.setup_turn.proofs.Finding.{same_steps_from, small_fits}
use Rattle.setup_turn.proofs.place.node_at.Goals as goal

pub returns : goal.returns
returns c =
    let a = c.args.axis in
    let origin : FitsSigned w32 (at c.grid.inside.origin a) = search rules in
    let pitch : FitsSigned w32 c.grid.inside.pitch = search rules in
    same_steps_from _ _ _ _ _ _ _ _ c.steps_to.result
    (to_z-of_z w32 _ origin ∙ ap (λ (g : GridSize). at g.origin a) c.grid.view_is)
    (to_z-of_z w32 _ pitch ∙ ap (λ (g : GridSize). g.pitch) c.grid.view_is)
    (ap (λ (g : GridSize). nodes_of g a) c.grid.view_is)
    (to_z-of_z w32 _ (small_fits (at c.args.place.now a) (component 5000000 c.args.place.now a c.requires.place c.requires.axis)))
    c.steps_to.ensures
