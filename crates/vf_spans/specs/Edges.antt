-- How a set is kept: by its edges, the first index of each range and the first one past it, in one ascending list.
use Rattle.std.specs.Prelude.{◌≡◌, ℕ, ◌<◌, ◌≤◌, ◌%◌, Bool, false, not, nat_le, nat_eq, if◌then◌else◌, List, [], ◌∷◌, length, map, slice_index}
use Rattle.std.specs.List.{range_with_len}
use Rattle.vf_spans.specs.declared.edges.Edges.{Edges}
use Rattle.vf_spans.specs.declared.edges.Kept.{Kept}
use Rattle.vf_spans.specs.declared.edges.Kept.TheVariants.{Empty, OneRange, Ranges}

-- x is inside where an odd number of edges are at most x
abbrev pub inside : List ℕ → ℕ → Bool
inside [] x = false
inside (edge ∷ edges) x = if nat_le edge x then not (inside edges x) else inside edges x

-- past that many edges of a set one is inside it
abbrev pub is_odd : ℕ → Bool
is_odd passed = nat_eq (passed % 2) 1

-- the set below a bound that has these edges
abbrev pub flags_of : ℕ → List ℕ → List Bool
flags_of bound edges = map (inside edges) (range_with_len 0 bound)

-- the edges that are kept as none, as those of one range, or as a list of them all
abbrev pub edges_kept : Kept → List ℕ
edges_kept Empty = []
edges_kept (OneRange edges) = edges
edges_kept (Ranges edges) = edges.value.items

-- the edges that are kept
abbrev pub edges_of : Edges → List ℕ
edges_of edges = edges_kept edges.kept

-- the edges ascend
abbrev pub Ascends : List ℕ → Type 0
Ascends edges = (k m : ℕ) → k < m → m < length edges → slice_index edges k < slice_index edges m

-- the edges are those of ranges below a bound: they ascend, none is above the bound, and each range has both
pub record AreEdges (bound : ℕ) (edges : List ℕ) : Type 0 where
  pub ascends : Ascends edges
  pub within : (k : ℕ) → k < length edges → slice_index edges k ≤ bound
  pub paired : length edges % 2 ≡ 0
