use Rattle.std.proofs.Common.{ℕ, ◌≤◌, subst}
use Rattle.std.specs.Option.{MatchOption}
use Rattle.ray_grid.specs.Lattice.{point_of}
use Rattle.wanted_marks.specs.Opens.{IsOpenAt}
use Rattle.wanted_marks.specs.Rays.{IsClearOf, MoveOf, move_of}
use Rattle.wanted_marks.proofs.Opening.{open_for_each}
use Rattle.wanted_marks.proofs.move_marker.MoveMarker.open_stretch.Goals as goal

pub returns : goal.returns
returns c =
    let a = c.args in let s = c.self.inside in let point = point_of a.grid.now a.ray.now in
    subst (λ (v : MoveOf). MatchOption c.open_stretch.result ((l : ℕ) → a.from ≤ l → l ≤ a.to → IsClearOf v (point l)) (λ x. (l : ℕ) → a.from ≤ l → l ≤ a.to → IsOpenAt x v (point l))) c.self.view_is
    (open_for_each c.open_stretch.result (move_of s.stacks.now s.sweep.now s.depth) point a.from a.to c.open_stretch.ensures)
