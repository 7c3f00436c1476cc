use Rattle.std.proofs.Common.{◌≡◌, ◌+◌, ◌<◌, ℕ, length, arith, ap, subst, sym, ◌∙◌}
use Rattle.ray_grid.specs.Grids.{GridSize}
use Rattle.ray_grid.specs.Points.{rays_of}
use Rattle.ray_grid.specs.Ranges.{IsGrid}
use Rattle.ray_grid.specs.declared.ray.Ray.{Ray}
use Rattle.ray_shapes.specs.Sets.{AreSetsOver}
use Rattle.stock_file.specs.Rays.{IsRayAt, ray_after}
use Rattle.stock_file.proofs.PointSets.{saved_is}
use Rattle.stock_file.proofs.WalkLemmas.{IsAtRay, walk_goes_on, walk_starts}
use Rattle.setup_turn.specs.Turned.{in_turned}
use Rattle.setup_turn.specs.Walk.{IsTurnedUpTo}
use Rattle.setup_turn.proofs.Places.{AreGiven}
use Rattle.setup_turn.proofs.Whole.{all_inside, as_many, at_start, holds_points, kept}
use Rattle.setup_turn.proofs.turn.turn_stock.Goals as goal

pub loop-number-init : goal.loop-number-init
loop-number-init c = record {
  turned = at_start c.args.turn.now c.args.saved.now c.args.grid.now c.in-Ok.stock c.in-Ok.ensures;
  ray = walk_starts c.args.saved.now.grid (subst IsGrid c.grid-old.ensures c.has_three_axes.ensures.valid);
  most = omega arith;
}

pub loop-number-preserved : goal.loop-number-preserved
loop-number-preserved c =
    let g = c.args.saved.now.grid in
    let n = c.loop-number.number in
    let ray = c.loop-number.ray in
    let valid : IsGrid g = subst IsGrid c.grid-old.ensures c.has_three_axes.ensures.valid in
    let many : c.count_rays-count.result ≡ length (rays_of g) = c.count_rays-count.ensures.count ∙ ap (λ (h : GridSize). length (rays_of h)) c.grid-old.ensures in
    let low : n < length (rays_of g) = let test = c.loop-number-test.true in omega (arith, test, many) in
    let here : IsRayAt g n ray = c.loop-number.invariant.ray low in
    record {
      turned = subst (λ (k : ℕ). IsTurnedUpTo c.args.turn.now c.args.saved.now c.args.grid.now (k + 1) c.turn_ray.new.stock) here.same c.in_ok-turn_ray.ensures;
      ray = subst (λ (r : Ray). IsAtRay g (n + 1) r) (sym (c.ray_after-ray.ensures ∙ ap (λ (h : GridSize). ray_after h ray) c.grid-old.ensures)) (walk_goes_on g n ray valid here);
      most = let test = c.loop-number-test.true in omega (arith, test);
    }

pub turn_ray-requires-clause-ray : goal.turn_ray-requires-clause-ray
turn_ray-requires-clause-ray c =
    let many : c.count_rays-count.result ≡ length (rays_of c.args.saved.now.grid) = c.count_rays-count.ensures.count ∙ ap (λ (h : GridSize). length (rays_of h)) c.grid-old.ensures in
    let test = c.loop-number-test.true in
    (c.loop-number.invariant.ray (omega (arith, test, many))).on

pub turn_ray-requires-clause-before : goal.turn_ray-requires-clause-before
turn_ray-requires-clause-before c =
    let many : c.count_rays-count.result ≡ length (rays_of c.args.saved.now.grid) = c.count_rays-count.ensures.count ∙ ap (λ (h : GridSize). length (rays_of h)) c.grid-old.ensures in
    let test = c.loop-number-test.true in
    subst (λ (k : ℕ). IsTurnedUpTo c.args.turn.now c.args.saved.now c.args.grid.now k c.loop-number.stock) (sym (c.loop-number.invariant.ray (omega (arith, test, many))).same)
    c.loop-number.invariant.turned

pub returns-clause-turned : goal.returns-clause-turned
returns-clause-turned c =
    let turn = c.args.turn.now in
    let saved = c.args.saved.now in
    let grid = c.args.grid.now in
    let stock = c.loop-number.stock in
    let turned = c.loop-number.invariant.turned in
    saved_is grid (in_turned turn saved) stock c.has_three_axes-2.ensures.valid turned.same_grid
    (subst (λ (g : GridSize). AreSetsOver g stock.sets) (sym turned.same_grid) turned.over)
    (holds_points turn saved grid c.loop-number.number stock c.requires.turn.quarter c.requires.saved
    (let many : c.count_rays-count.result ≡ length (rays_of saved.grid) = c.count_rays-count.ensures.count ∙ ap (λ (h : GridSize). length (rays_of h)) c.grid-old.ensures in
    let test = c.loop-number-test.false in omega (arith, test, many))
    turned)

pub returns-clause-outside : goal.returns-clause-outside
returns-clause-outside c =
    all_inside c.args.turn.now c.args.saved.now c.args.grid.now c.loop-number.number c.loop-number.stock
    (let many : c.count_rays-count.result ≡ length (rays_of c.args.saved.now.grid) = c.count_rays-count.ensures.count ∙ ap (λ (h : GridSize). length (rays_of h)) c.grid-old.ensures in
    let test = c.loop-number-test.false in omega (arith, test, many))
    c.loop-number.invariant.turned

pub returns-clause-kept : goal.returns-clause-kept
returns-clause-kept c =
    let given : AreGiven c.args.turn.now c.args.saved.now.grid c.args.grid.now = record {
      turned = c.requires.turn.quarter;
      step = c.requires.step;
      old = subst IsGrid c.grid-old.ensures c.has_three_axes.ensures.valid;
      new = c.has_three_axes-2.ensures.valid;
    } in
    kept c.args.turn.now c.args.saved.now c.args.grid.now c.loop-number.number c.loop-number.stock given
    (let many : c.count_rays-count.result ≡ length (rays_of c.args.saved.now.grid) = c.count_rays-count.ensures.count ∙ ap (λ (h : GridSize). length (rays_of h)) c.grid-old.ensures in
    let test = c.loop-number-test.false in omega (arith, test, many))
    c.loop-number.invariant.turned

pub returns-clause-many : goal.returns-clause-many
returns-clause-many c =
    as_many c.args.turn.now c.args.saved.now c.args.grid.now c.loop-number.number c.loop-number.stock c.requires.saved
    (let many : c.count_rays-count.result ≡ length (rays_of c.args.saved.now.grid) = c.count_rays-count.ensures.count ∙ ap (λ (h : GridSize). length (rays_of h)) c.grid-old.ensures in
    let test = c.loop-number-test.false in omega (arith, test, many))
    c.loop-number.invariant.turned
