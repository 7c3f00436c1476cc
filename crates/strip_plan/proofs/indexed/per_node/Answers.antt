use Rattle.std.proofs.Common.{◌≡◌, ℕ, ◌<◌, ◌≤◌, ◌/◌, unsigned_abs, ap₂, subst, sym}
use Rattle.strip_plan.proofs.Extents.{grid_like}
use Rattle.strip_plan.proofs.FirstRays.{sizes_read, some_points_per_node, some_step}
use Rattle.strip_plan.proofs.indexed.per_node.Goals as goal

sizes : (c : goal.After-unsigned_abs-2)
    → (c.unsigned_abs.result ≡ unsigned_abs c.args.grid.now.pitch) × (c.unsigned_abs-2.result ≡ unsigned_abs c.args.grid.now.step)
sizes c = sizes_read _ c.args.grid.now _ _ c.grid.view_is c.grid.invariant c.unsigned_abs.ensures.value c.unsigned_abs-2.ensures.value

pub nonzero_div-result : goal.nonzero_div-result
nonzero_div-result c =
    let g = c.args.grid.now in subst (λ (n : ℕ). 0 < n) (sym (sizes c).1) (some_step g (grid_like _ g c.grid.view_is c.grid.invariant))

pub returns-clause-value : goal.returns-clause-value
returns-clause-value c = ap₂ (λ (p q : ℕ). p / q) (sizes c).0 (sizes c).1

pub returns-clause-some : goal.returns-clause-some
returns-clause-some c =
    let g = c.args.grid.now in
    subst (λ (n : ℕ). 1 ≤ n) (sym (returns-clause-value c)) (some_points_per_node g (grid_like _ g c.grid.view_is c.grid.invariant))
