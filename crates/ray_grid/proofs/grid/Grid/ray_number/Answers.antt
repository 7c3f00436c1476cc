use Rattle.std.proofs.Common.{◌+◌, ◌*◌, ◌∙◌, ℕ, slice_get, ap, ap₂, arith, subst}
use Rattle.ray_grid.specs.Lattice.{nodes_of}
use Rattle.ray_grid.specs.Points.{rays_of}
use Rattle.ray_grid.specs.Ranges.{IsGrid}
use Rattle.ray_grid.proofs.Numbered.{few_first, few_rows, number_is_place}
use Rattle.ray_grid.proofs.grid.Grid.ray_number.Goals as goal

pub overflow_mul-result : goal.overflow_mul-result
overflow_mul-result c =
    let few = few_rows c.args.ray.now.i c.nodes-along.result (few_first c.args.self.now c.args.ray.now (subst IsGrid c.self.view_is c.self.invariant) c.requires) c.nodes-along.ensures.few in
    omega arith

pub overflow_add-result : goal.overflow_add-result
overflow_add-result c =
    let few = few_rows c.args.ray.now.i c.nodes-along.result (few_first c.args.self.now c.args.ray.now (subst IsGrid c.self.view_is c.self.invariant) c.requires) c.nodes-along.ensures.few in
    let along = c.nodes-along.ensures.few in
    let count = c.nodes-along.ensures.nodes ∙ ap (nodes_of c.args.self.now) c.second_axis.ensures.axis in
    let low = c.requires.second in
    omega arith

pub overflow_add-result-2 : goal.overflow_add-result-2
overflow_add-result-2 c =
    let few = few_rows c.args.ray.now.i c.nodes-along.result (few_first c.args.self.now c.args.ray.now (subst IsGrid c.self.view_is c.self.invariant) c.requires) c.nodes-along.ensures.few in
    let along = c.nodes-along.ensures.few in
    let count = c.nodes-along.ensures.nodes ∙ ap (nodes_of c.args.self.now) c.second_axis.ensures.axis in
    let low = c.requires.second in
    let first = c.first_number.ensures.few in
    omega arith

pub returns-clause-there : goal.returns-clause-there
returns-clause-there c =
    let ray = c.args.ray.now in
    let count = c.nodes-along.ensures.nodes ∙ ap (nodes_of c.args.self.now) c.second_axis.ensures.axis in
    ap₂ (λ (first along : ℕ). slice_get (rays_of c.args.self.now) (first + (ray.i * along + ray.j))) c.first_number.ensures.number count
    ∙ number_is_place c.args.self.now ray c.requires
