use Rattle.std.proofs.Common.{◌≡◌, ℕ, ◌^◌, ◌≤◌, true, Option, None, Some, List, ℤ, subst}
use Rattle.std.specs.Option.{IfSome}
use Rattle.ray_grid.specs.Lattice.{point_of}
use Rattle.ray_runs.specs.Between.{AreSure}
use Rattle.ray_runs.specs.declared.run.Run.{Run}
use Rattle.wanted_marks.specs.Rays.{IsRemovedBy, MoveOf, is_possible_in, is_sure_in, move_of}
use Rattle.wanted_marks.proofs.move_marker.MoveMarker.sure_run.Goals as goal

-- points that are sure are possible too
removed_each : (found : Option Run) (v : MoveOf) (point : ℕ → List ℤ) → ((p : List ℤ) → is_sure_in v p ≡ true → is_possible_in v p ≡ true)
    → IfSome found (λ run. AreSure record { cutter = v.cutter; slabs = v.slabs } v.sweep point (2 ^ v.depth) run.first run.last)
    → IfSome found (λ run. (l : ℕ) → run.first ≤ l → l ≤ run.last → IsRemovedBy v (point l))
removed_each None v point both are = are
removed_each (Some run) v point both are = λ l after before. let sure = are l after before in record { sure = sure; possible = both (point l) sure }

pub returns-clause-sure : goal.returns-clause-sure
returns-clause-sure c =
    let s = c.self.inside in let point = point_of c.args.grid.now c.args.ray.now in
    subst (λ (v : MoveOf). IfSome c.sure_run.result (λ run. (l : ℕ) → run.first ≤ l → l ≤ run.last → IsRemovedBy v (point l))) c.self.view_is
    (removed_each c.sure_run.result (move_of s.stacks.now s.sweep.now s.depth) point c.self.invariant.both c.sure_run.ensures.sure)
