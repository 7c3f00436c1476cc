use Rattle.std.proofs.Common.{rules, w32, FitsSigned}
use Rattle.std.proofs.lemmas.Int.{to_z-of_z}
use Rattle.space.specs.Vectors.{at}
use Rattle.strip_plan.proofs.FirstRays.{on_x, on_y, on_z}
use Rattle.strip_plan.proofs.indexed.on_first_ray.Goals as goal

pub returns-in-X : goal.returns-in-X
returns-in-X c =
    let low : FitsSigned w32 (at c.args.held.now.low 0) = search rules in
    let high : FitsSigned w32 (at c.args.held.now.high 0) = search rules in
    let first : FitsSigned w32 (at c.grid.inside.origin 1) = search rules in
    let second : FitsSigned w32 (at c.grid.inside.origin 2) = search rules in
    λ l between.
    rw c.in-X.is (simp to_z-of_z (on_x _ c.args.grid.now (at c.args.held.now.low 0) (at c.args.held.now.high 0) l c.grid.view_is c.grid.invariant (rw c.in-X.is at between)))

pub returns-in-Y : goal.returns-in-Y
returns-in-Y c =
    let low : FitsSigned w32 (at c.args.held.now.low 1) = search rules in
    let high : FitsSigned w32 (at c.args.held.now.high 1) = search rules in
    let first : FitsSigned w32 (at c.grid.inside.origin 0) = search rules in
    let second : FitsSigned w32 (at c.grid.inside.origin 2) = search rules in
    λ l between.
    rw c.in-Y.is (simp to_z-of_z (on_y _ c.args.grid.now (at c.args.held.now.low 1) (at c.args.held.now.high 1) l c.grid.view_is c.grid.invariant (rw c.in-Y.is at between)))

pub returns-in-Z : goal.returns-in-Z
returns-in-Z c =
    let low : FitsSigned w32 (at c.args.held.now.low 2) = search rules in
    let high : FitsSigned w32 (at c.args.held.now.high 2) = search rules in
    let first : FitsSigned w32 (at c.grid.inside.origin 0) = search rules in
    let second : FitsSigned w32 (at c.grid.inside.origin 1) = search rules in
    λ l between.
    rw c.in-Z.is (simp to_z-of_z (on_z _ c.args.grid.now (at c.args.held.now.low 2) (at c.args.held.now.high 2) l c.grid.view_is c.grid.invariant (rw c.in-Z.is at between)))
