-- Sets, and lists of one set for each ray.
use Rattle.std.proofs.Common.{◌≡◌, ℕ, ◌+◌, ◌<◌, ◌≤◌, ◌&&◌, ◌||◌, Bool, true, false, List, [], ◌∷◌, ◌++◌, length, map, replicate, set, take, get_or, leb, ltb, arith, refl, sym, ap, ◌∙◌, length-set, get_or-set_same, get_or-set_other, ⊎_elim}
use Rattle.std.proofs.lemmas.Bool.{cases_eq, cases_lt}
use Rattle.std.proofs.lemmas.Bool.Decides.{nat_tests}
use Rattle.std.proofs.lemmas.List.{get_or-map, get_or-replicate, get_or_past, length-map, length-replicate, map-append, take_more}
use Rattle.std.proofs.lemmas.List.FromFn.{get_or-map-range_with_len, length-map-range_with_len}
use Rattle.vf_spans.specs.Members.{has}
use Rattle.vf_spans.specs.Edges.{flags_of}
use Rattle.vf_spans.proofs.Flags.{has-flags, length-flags, no_edges}
use Rattle.vf_spans.proofs.Same.{same_sets}
use Rattle.ray_grid.specs.Grids.{GridSize}
use Rattle.ray_grid.specs.Lattice.{IsRay, points_of}
use Rattle.ray_grid.specs.Points.{rays_of}
use Rattle.ray_grid.specs.Strips.{ray_number}
use Rattle.ray_grid.specs.declared.ray.Ray.{Ray}
use Rattle.ray_shapes.specs.Sets.{AreSetsOver}
use Rattle.stock_file.specs.Rays.{IsRayAt}
use Rattle.stock_file.specs.Saved.{no_flags, no_sets, with_set}
use Rattle.stock_file.specs.Taken.{with_range}
use Rattle.stock_file.proofs.RayOrder.{number_low, ray_at, same_number}

-- a set without an index is a list of falses
has_no : (bound i : ℕ) → has (replicate bound false) i ≡ false
has_no bound i =
    ⊎_elim (λ (low : i < bound). get_or-replicate bound i false false low)
    (λ (past : bound ≤ i). let size = length-replicate bound false in get_or_past (replicate bound false) i false (omega arith)) (cases_lt i bound)

pub empty_is : (flags : List Bool) (bound : ℕ) → length flags ≡ bound → ((i : ℕ) → has flags i ≡ false) → flags ≡ replicate bound false
empty_is flags bound size none =
    same_sets flags (replicate bound false) (record { bound = size ∙ sym (length-replicate bound false); indices = λ i. none i ∙ sym (has_no bound i) })

-- the set with a range has the indices of both
pub has_with : (flags : List Bool) (lo hi i : ℕ) → hi ≤ length flags → has (with_range flags lo hi) i ≡ (has flags i || (leb lo i && ltb i hi))
has_with flags lo hi i within =
    let test : ℕ → Bool = λ k. has flags k || (leb lo k && ltb k hi) in
    ⊎_elim (λ (low : i < length flags). get_or-map-range_with_len test 0 (length flags) i i false low (omega arith))
    (λ (past : length flags ≤ i). let size = length-map-range_with_len test 0 (length flags) in
    let new : has (with_range flags lo hi) i ≡ false = get_or_past (with_range flags lo hi) i false (omega arith) in
    let old : has flags i ≡ false = get_or_past flags i false past in
    let over : ltb i hi ≡ false = grind (arith, nat_tests) in
    new ∙ sym (ap (λ b. b || (leb lo i && ltb i hi)) old ∙ ap (λ b. leb lo i && b) over ∙ no_more (leb lo i))) (cases_lt i (length flags))
  where
    no_more : (b : Bool) → (b && false) ≡ false
    no_more true = refl
    no_more false = refl

pub length-with : (flags : List Bool) (lo hi : ℕ) → length (with_range flags lo hi) ≡ length flags
length-with flags lo hi = length-map-range_with_len (λ k. has flags k || (leb lo k && ltb k hi)) 0 (length flags)

-- and is the only such set
pub with_is : (flags new : List Bool) (lo hi : ℕ) → hi ≤ length flags → length new ≡ length flags
    → ((i : ℕ) → has new i ≡ (has flags i || (leb lo i && ltb i hi))) → new ≡ with_range flags lo hi
with_is flags new lo hi within size same =
    same_sets new (with_range flags lo hi)
    (record { bound = size ∙ sym (length-with flags lo hi); indices = λ i. same i ∙ sym (has_with flags lo hi i within) })

-- the sets without points are those of a grid
pub no_sets_over : (g : GridSize) → AreSetsOver g (no_sets g)
no_sets_over g = record {
  many = length-map (rays_of g) (no_flags g);
  bounds = λ ray is.
      ap (λ (flags : List Bool). length flags)
      (get_or-map (no_flags g) (rays_of g) (ray_number g ray) ray [] (number_low g ray is)
      ∙ ap (no_flags g) (ray_at g (ray_number g ray) ray ray (record { on = is; same = refl })))
      ∙ length-replicate (points_of g ray.family) false;
}

-- and so are sets with another one
pub with_set_over : (g : GridSize) (ray : Ray) (flags : List Bool) (sets : List (List Bool)) → AreSetsOver g sets → IsRay g ray → length flags ≡ points_of g ray.family
    → AreSetsOver g (with_set g ray flags sets)
with_set_over g ray flags sets over is size = record {
  many = length-set sets (ray_number g ray) flags ∙ over.many;
  bounds = λ other are.
      let low = number_low g ray is in
      ⊎_elim
      (λ (same : ray_number g other ≡ ray_number g ray). ap (λ (n : ℕ). length (get_or (set sets (ray_number g ray) flags) n [])) same
      ∙ ap (λ (one : List Bool). length one) (get_or-set_same sets (ray_number g ray) flags [] (let all = over.many in omega arith))
      ∙ size ∙ ap (λ (r : Ray). points_of g r.family) (sym (same_number g other ray are is same)))
      (λ (differs : ray_number g other ≡ ray_number g ray → ⊥). ap (λ (one : List Bool). length one) (get_or-set_other sets (ray_number g ray) (ray_number g other) flags [] differs) ∙ over.bounds other are)
      (cases_eq (ray_number g other) (ray_number g ray));
}

-- one more set without points
pub one_more_set : (g : GridSize) (n : ℕ) (ray : Ray) (sets : List (List Bool)) (flags : List Bool) → IsRayAt g n ray → n < length (rays_of g)
    → sets ≡ map (no_flags g) (take n (rays_of g)) → flags ≡ no_flags g ray → sets ++ flags ∷ [] ≡ map (no_flags g) (take (n + 1) (rays_of g))
one_more_set g n ray sets flags numbered low before is =
    ap (λ (front : List (List Bool)). front ++ flags ∷ []) before
    ∙ ap (λ (one : List Bool). map (no_flags g) (take n (rays_of g)) ++ one ∷ []) is
    ∙ sym (map-append (no_flags g) (take n (rays_of g)) (ray ∷ []))
    ∙ ap (λ (r : Ray). map (no_flags g) (take n (rays_of g) ++ r ∷ [])) (sym (ray_at g n ray ray numbered))
    ∙ ap (map (no_flags g)) (sym (take_more (rays_of g) n ray low))

-- a list of falses is the set of no edges
pub no_flags_of : (points : ℕ) → replicate points false ≡ flags_of points []
no_flags_of points = sym (empty_is (flags_of points []) points (length-flags points []) (λ i. has-flags points [] i (no_edges points [] refl)))
