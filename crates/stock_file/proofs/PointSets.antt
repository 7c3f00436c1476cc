-- The points that pass a test: what their sets have, and that no other sets have the same.
use Rattle.std.proofs.Common.{◌≡◌, ℕ, ◌<◌, ◌≤◌, false, Bool, List, [], map, length, get_or, sym, subst, ap, ◌∙◌, ⊎_elim, arith}
use Rattle.std.specs.Option.{option_map}
use Rattle.std.proofs.lemmas.Bool.{cases_lt}
use Rattle.std.proofs.lemmas.List.{ext_get_or, get_or_past, length-map}
use Rattle.std.proofs.lemmas.List.FromFn.{get_or-map-range_with_len, length-map-range_with_len}
use Rattle.std.proofs.lemmas.Option.{get_or_from_slice_get, slice_get-map}
use Rattle.vf_spans.specs.Members.{has}
use Rattle.vf_spans.proofs.Same.{same_sets}
use Rattle.ray_grid.specs.Grids.{GridSize}
use Rattle.ray_grid.specs.Lattice.{IsRay, points_of}
use Rattle.ray_grid.specs.Points.{LatticePoint, point_in, rays_of}
use Rattle.ray_grid.specs.Ranges.{IsGrid}
use Rattle.ray_grid.specs.Strips.{ray_number}
use Rattle.ray_grid.specs.declared.ray.Ray.{Ray}
use Rattle.ray_grid.proofs.Numbered.{number_is_place}
use Rattle.ray_shapes.specs.Sets.{AreSetsOver, HoldsPointsOf}
use Rattle.stock_file.specs.PointSets.{saved_where, set_where, sets_where}
use Rattle.stock_file.specs.Saved.{Saved, set_of}
use Rattle.stock_file.proofs.RayOrder.{numbered}

-- the set of a ray among those of all
pub set_at : (grid : GridSize) (inside : LatticePoint → Bool) (ray : Ray) → IsRay grid ray
    → get_or (sets_where grid inside) (ray_number grid ray) [] ≡ set_where grid inside ray
set_at grid inside ray on =
    get_or_from_slice_get (sets_where grid inside) (ray_number grid ray) (set_where grid inside ray) []
    (slice_get-map (set_where grid inside) (rays_of grid) (ray_number grid ray) ∙ ap (option_map (set_where grid inside)) (number_is_place grid ray on))

pub length-set : (grid : GridSize) (inside : LatticePoint → Bool) (ray : Ray) → length (set_where grid inside ray) ≡ points_of grid ray.family
length-set grid inside ray = length-map-range_with_len (λ l. inside (point_in grid ray l)) 0 (points_of grid ray.family)

pub has-set : (grid : GridSize) (inside : LatticePoint → Bool) (ray : Ray) (l : ℕ) → l < points_of grid ray.family
    → has (set_where grid inside ray) l ≡ inside (point_in grid ray l)
has-set grid inside ray l low =
    get_or-map-range_with_len (λ k. inside (point_in grid ray k)) 0 (points_of grid ray.family) l l false low (omega arith)

pub sets_over : (grid : GridSize) (inside : LatticePoint → Bool) → AreSetsOver grid (sets_where grid inside)
sets_over grid inside = record {
  many = length-map (rays_of grid) (set_where grid inside);
  bounds = λ ray on. ap length (set_at grid inside ray on) ∙ length-set grid inside ray;
}

-- a set that holds just these points of a ray is the set of them
pub set_is : (grid : GridSize) (inside : LatticePoint → Bool) (ray : Ray) (set : List Bool) → HoldsPointsOf grid ray inside set
    → set ≡ set_where grid inside ray
set_is grid inside ray set holds =
    let size = length-set grid inside ray in
    let bound = holds.bound in
    same_sets set (set_where grid inside ray) (record {
      bound = bound ∙ sym size;
      indices = λ l. ⊎_elim
          (λ (low : l < points_of grid ray.family). holds.points l low ∙ sym (has-set grid inside ray l low))
          (λ (past : points_of grid ray.family ≤ l).
          get_or_past set l false (omega (arith, bound, past)) ∙ sym (get_or_past (set_where grid inside ray) l false (omega (arith, size, past))))
          (cases_lt l (points_of grid ray.family));
    })

-- and sets that do so on each ray are those of all rays
pub sets_are : (grid : GridSize) (inside : LatticePoint → Bool) (sets : List (List Bool)) → IsGrid grid → AreSetsOver grid sets
    → ((ray : Ray) → IsRay grid ray → HoldsPointsOf grid ray inside (get_or sets (ray_number grid ray) []))
    → sets ≡ sets_where grid inside
sets_are grid inside sets is over holds =
    let many = over.many in
    ext_get_or [] sets (sets_where grid inside) (many ∙ sym (length-map (rays_of grid) (set_where grid inside)))
    (λ k low.
    let one = numbered grid is k (omega (arith, many, low)) in
    subst (λ (n : ℕ). get_or sets n [] ≡ get_or (sets_where grid inside) n []) one.1.same
    (set_is grid inside one.0 (get_or sets (ray_number grid one.0) []) (holds one.0 one.1.on) ∙ sym (set_at grid inside one.0 one.1.on)))

pub saved_is : (grid : GridSize) (inside : LatticePoint → Bool) (stock : Saved) → IsGrid grid → stock.grid ≡ grid → AreSetsOver stock.grid stock.sets
    → ((ray : Ray) → IsRay grid ray → HoldsPointsOf grid ray inside (set_of stock ray)) → stock ≡ saved_where grid inside
saved_is grid inside stock is same over holds =
    let sets = sets_are grid inside stock.sets is (subst (λ (g : GridSize). AreSetsOver g stock.sets) same over)
    (λ ray on. subst (λ (g : GridSize). HoldsPointsOf grid ray inside (get_or stock.sets (ray_number g ray) [])) same (holds ray on)) in
    saved_same stock grid (sets_where grid inside) same sets
  where
    saved_same : (stock : Saved) (grid : GridSize) (sets : List (List Bool)) → stock.grid ≡ grid → stock.sets ≡ sets
        → stock ≡ record { grid = grid; sets = sets }
    saved_same stock grid sets same all = λ i. record { grid = same i; sets = all i }
