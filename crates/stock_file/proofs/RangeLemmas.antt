-- The bounds of a set's ranges are those of its line, and they stand for the set.
use Rattle.std.proofs.Common.{◌≡◌, ℕ, ◌+◌, ◌<◌, ◌≤◌, ◌&&◌, Bool, true, false, List, [], ◌∷◌, length, map, replicate, get_or, ⊎_elim, Some, None, nat_le, nat_lt, arith, refl, sym, ap, ◌∙◌}
use Rattle.std.specs.List.{list_any}
use Rattle.std.proofs.lemmas.Bool.{and_from, and_parts, cases_lt, le-leb, lt-ltb}
use Rattle.vf_spans.specs.Edges.{AreEdges, flags_of}
use Rattle.vf_spans.specs.Members.{in_range, ranges_from, ranges_of}
use Rattle.std.proofs.lemmas.List.{get_or-map, get_or_past, length-map}
use Rattle.vf_spans.proofs.Flags.{length-flags, no_edges}
use Rattle.ray_grid.specs.Grids.{GridSize}
use Rattle.ray_grid.specs.Lattice.{points_of}
use Rattle.ray_grid.specs.Points.{rays_of}
use Rattle.ray_grid.specs.declared.ray.Ray.{Ray}
use Rattle.stock_file.specs.Saved.{no_flags, no_sets}
use Rattle.vf_spans.proofs.InRanges.{members}
use Rattle.vf_spans.proofs.Ranges.{pairs, ranges-flags}
use Rattle.vf_spans.proofs.Same.{same_sets}
use Rattle.stock_file.specs.RayLines.{are_ranges_from}
use Rattle.stock_file.specs.Spelling.{range_bounds}
use Rattle.stock_file.proofs.BoundLemmas.{from_none}
use Rattle.stock_file.proofs.SetLemmas.{no_flags_of}

-- ranges by their bounds, and bounds by their ranges
pub pairs-bounds : (ranges : List (ℕ × ℕ)) → pairs (range_bounds ranges) ≡ ranges
pairs-bounds [] = refl
pairs-bounds (range ∷ ranges) = ap (λ (rest : List (ℕ × ℕ)). range ∷ rest) (pairs-bounds ranges)

pub bounds-pairs : (points least : ℕ) (bounds : List ℕ) → are_ranges_from points least bounds ≡ true → range_bounds (pairs bounds) ≡ bounds
bounds-pairs points least [] ranges = refl
bounds-pairs points least (lo ∷ []) ranges = absurd (cc)
bounds-pairs points least (lo ∷ hi ∷ bounds) ranges =
    let (from, most) = and_parts (nat_le least lo) (nat_lt lo hi && (nat_le hi points && are_ranges_from points (hi + 1) bounds)) ranges in
    let (order, more) = and_parts (nat_lt lo hi) (nat_le hi points && are_ranges_from points (hi + 1) bounds) most in
    let (end, rest) = and_parts (nat_le hi points) (are_ranges_from points (hi + 1) bounds) more in
    ap (λ (left : List ℕ). lo ∷ hi ∷ left) (bounds-pairs points (hi + 1) bounds rest)

-- one range more
one_range : (points least lo hi : ℕ) (bounds : List ℕ) → least ≤ lo → lo < hi → hi ≤ points → are_ranges_from points (hi + 1) bounds ≡ true
    → are_ranges_from points least (lo ∷ hi ∷ bounds) ≡ true
one_range points least lo hi bounds from order end rest =
    and_from (nat_le least lo) (nat_lt lo hi && (nat_le hi points && are_ranges_from points (hi + 1) bounds)) (le-leb least lo from)
    (and_from (nat_lt lo hi) (nat_le hi points && are_ranges_from points (hi + 1) bounds) (lt-ltb lo hi order)
    (and_from (nat_le hi points) (are_ranges_from points (hi + 1) bounds) (le-leb hi points end) rest))

-- the ranges of flags from an index on, where a range may have begun, are in order
record Ordered (flags : List Bool) : Type 0 where
  outside : (at points least : ℕ) → least ≤ at → at + length flags ≡ points → are_ranges_from points least (range_bounds (ranges_from at None flags)) ≡ true
  within : (at first points least : ℕ) → least ≤ first → first < at → at + length flags ≡ points
      → are_ranges_from points least (range_bounds (ranges_from at (Some first) flags)) ≡ true

ordered : (flags : List Bool) → Ordered flags
ordered [] = record {
  outside = λ at points least from size. refl;
  within = λ at first points least from order size. one_range points least first at [] from order (omega arith) refl;
}
ordered (true ∷ flags) =
    let rest = ordered flags in record {
      outside = λ at points least from size. rest.within (at + 1) at points least from (omega arith) (omega arith);
      within = λ at first points least from order size. rest.within (at + 1) first points least from (omega arith) (omega arith);
    }
ordered (false ∷ flags) =
    let rest = ordered flags in record {
      outside = λ at points least from size. rest.outside (at + 1) points least (omega arith) (omega arith);
      within = λ at first points least from order size.
          one_range points least first at (range_bounds (ranges_from (at + 1) None flags)) from order (omega arith)
          (rest.outside (at + 1) points (at + 1) (omega arith) (omega arith));
    }

pub ranges_ordered : (set : List Bool) (points : ℕ) → length set ≡ points → are_ranges_from points 0 (range_bounds (ranges_of set)) ≡ true
ranges_ordered set points size = (ordered set).outside 0 points 0 (omega arith) (omega arith)

-- the bounds of a set's ranges stand for the set
pub flags-bounds : (set : List Bool) (points : ℕ) → length set ≡ points → flags_of points (range_bounds (ranges_of set)) ≡ set
flags-bounds set points size =
    let bounds = range_bounds (ranges_of set) in
    let edges : AreEdges points bounds = (from_none points (flags_of points []) bounds refl (ranges_ordered set points size)).1 in
    let same : ranges_of (flags_of points bounds) ≡ ranges_of set = ranges-flags points bounds edges ∙ pairs-bounds (ranges_of set) in
    same_sets (flags_of points bounds) set
    (record {
      bound = length-flags points bounds ∙ sym size;
      indices = λ i. members (flags_of points bounds) i ∙ ap (λ (ranges : List (ℕ × ℕ)). list_any (in_range i) ranges) same ∙ sym (members set i);
    })

-- and bounds are those of the ranges of the set that they stand for
pub bounds-flags : (points : ℕ) (bounds : List ℕ) → are_ranges_from points 0 bounds ≡ true → range_bounds (ranges_of (flags_of points bounds)) ≡ bounds
bounds-flags points bounds ranges =
    let edges : AreEdges points bounds = (from_none points (flags_of points []) bounds refl ranges).1 in
    ap range_bounds (ranges-flags points bounds edges) ∙ bounds-pairs points 0 bounds ranges

-- a set without ranges has no index
pub no_ranges : (set : List Bool) (points : ℕ) → length set ≡ points → ranges_of set ≡ [] → set ≡ flags_of points []
no_ranges set points size none = sym (flags-bounds set points size) ∙ ap (λ (ranges : List (ℕ × ℕ)). flags_of points (range_bounds ranges)) none

-- no ray of a stock without points has ranges
pub no_flags_are : (g : GridSize) (k : ℕ) → ranges_of (get_or (no_sets g) k []) ≡ []
no_flags_are g k = ⊎_elim inside (λ (past : length (rays_of g) ≤ k). ap ranges_of (get_or_past (no_sets g) k [] (let size = length-map (rays_of g) (no_flags g) in omega arith))) (cases_lt k (length (rays_of g)))
  where
    none : (points : ℕ) → ranges_of (replicate points false) ≡ []
    none points = ap ranges_of (no_flags_of points) ∙ ranges-flags points [] (no_edges points [] refl)

    first : (rays : List Ray) → k < length rays → ranges_of (get_or (map (no_flags g) rays) k []) ≡ []
    first [] low = absurd (omega arith)
    first (ray ∷ rays) low =
        ap ranges_of (get_or-map (no_flags g) (ray ∷ rays) k ray [] low) ∙ none (points_of g (get_or (ray ∷ rays) k ray).family)

    inside : k < length (rays_of g) → ranges_of (get_or (no_sets g) k []) ≡ []
    inside low = first (rays_of g) low
