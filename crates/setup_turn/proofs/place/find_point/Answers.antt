use Rattle.std.proofs.Common.{◌≡◌, ◌<◌, ℕ, None, subst, sym}
use Rattle.space.specs.Vectors.{at}
use Rattle.ray_grid.specs.Lattice.{node_at, nodes_of}
use Rattle.setup_turn.specs.Places.{AreStepsTo, IsFound}
use Rattle.setup_turn.proofs.Finding.{no_second, point_there}
use Rattle.setup_turn.proofs.place.find_point.Goals as goal

pub returns-in_err-j : goal.returns-in_err-j
returns-in_err-j c =
    let g = c.args.grid.now in let place = c.args.place.now in
    subst (IsFound g c.args.family place) (sym c.from_residual-in_err-j.ensures)
    (no_second g c.args.family place
    (subst (λ (a : ℕ). AreStepsTo (at g.origin a) g.pitch (nodes_of g a) (at place a) None) c.second_axis.ensures.axis c.in_err-j.ensures))

pub returns : goal.returns
returns c =
    let g = c.args.grid.now in let place = c.args.place.now in
    point_there g c.args.family place c.in_ok-i.i c.in_ok-j.j c.in_ok-l.l c.told-place c.in_ok-l.ensures
    (subst (λ (a : ℕ). (c.in_ok-i.i < nodes_of g a) × (node_at g a c.in_ok-i.i ≡ at place a)) c.first_axis.ensures.axis c.in_ok-i.ensures)
    (subst (λ (a : ℕ). (c.in_ok-j.j < nodes_of g a) × (node_at g a c.in_ok-j.j ≡ at place a)) c.second_axis.ensures.axis c.in_ok-j.ensures)
