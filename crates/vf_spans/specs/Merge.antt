-- The set operations, and one step of the walk over the edges of two sets.
use Rattle.std.specs.Prelude.{◌≡◌, ℕ, ◌+◌, ◌≤◌, ◌<◌, ◌==◌, ◌⊎◌, Bool, not, ◌&&◌, ◌||◌, if◌then◌else◌, List, [], ◌∷◌, ◌++◌, length, take, slice_index}
use Rattle.vf_spans.specs.declared.merge.Operation.{Operation}
use Rattle.vf_spans.specs.declared.merge.Operation.TheVariants.{Union, Minus, Meet}

-- an index is in the result, by whether it is in the first set and in the second
abbrev pub combined : Operation → Bool → Bool → Bool
combined Union p q = p || q
combined Minus p q = p && not q
combined Meet p q = p && q

-- from place i the walk goes past the edge, if the edge is there, to place r
pub record PassesEdge (edges : List ℕ) (i edge r : ℕ) : Type 0 where
  pub within : r ≤ length edges
  pub moved : take r edges ≡ (if r == i then take i edges else take i edges ++ edge ∷ [])
  pub next : (r ≡ i) ⊎ (r ≡ i + 1)
  pub rest : (k : ℕ) → r ≤ k → k < length edges → edge + 1 ≤ slice_index edges k
