-- The bounds of a ray line, read two by two.
use Rattle.std.proofs.Common.{◌≡◌, ℕ, ◌+◌, ◌-◌, ◌<◌, ◌≤◌, ◌&&◌, Bool, true, List, [], ◌∷◌, ◌++◌, length, get_or, nat_le, nat_lt, arith, refl, sym, ap, ◌∙◌, subst, append_assoc, append-nil, length-append}
use Rattle.std.proofs.lemmas.Bool.{and_parts, leb-true, ltb-true}
use Rattle.std.proofs.lemmas.List.{get_or-append_right}
use Rattle.vf_spans.specs.Edges.{AreEdges, flags_of}
use Rattle.vf_spans.proofs.Ends.{edges_push, has_push}
use Rattle.vf_spans.proofs.Flags.{length-flags, no_edges}
use Rattle.vf_spans.proofs.Same.{same_sets}
use Rattle.stock_file.specs.RayLines.{are_ranges_from}
use Rattle.stock_file.specs.Taken.{with_range}
use Rattle.stock_file.proofs.SetLemmas.{has_with, length-with}

-- a set with ranges more
abbrev pub with_ranges : List Bool → List ℕ → List Bool
with_ranges set [] = set
with_ranges set (lo ∷ []) = set
with_ranges set (lo ∷ hi ∷ bounds) = with_ranges (with_range set lo hi) bounds

-- the last bound that was read
abbrev IsLastBelow : List ℕ → ℕ → Type 0
IsLastBelow bounds least = 0 < length bounds → get_or bounds (length bounds - 1) 0 < least

-- adding ranges one by one makes the set of all their bounds
pub grown : (points least : ℕ) (es : List ℕ) (set : List Bool) (bounds : List ℕ) → AreEdges points es → flags_of points es ≡ set → IsLastBelow es least
    → are_ranges_from points least bounds ≡ true → (with_ranges set bounds ≡ flags_of points (es ++ bounds)) × AreEdges points (es ++ bounds)
grown points least es set [] edges is last ranges =
    (sym is ∙ ap (flags_of points) (sym (append-nil es)), subst (λ (all : List ℕ). AreEdges points all) (sym (append-nil es)) edges)
grown points least es set (lo ∷ []) edges is last ranges = absurd (cc)
grown points least es set (lo ∷ hi ∷ bounds) edges is last ranges =
    let (from, most) = and_parts (nat_le least lo) (nat_lt lo hi && (nat_le hi points && are_ranges_from points (hi + 1) bounds)) ranges in
    let (order, more) = and_parts (nat_lt lo hi) (nat_le hi points && are_ranges_from points (hi + 1) bounds) most in
    let (end, rest) = and_parts (nat_le hi points) (are_ranges_from points (hi + 1) bounds) more in
    let low : least ≤ lo = leb-true least lo from in
    let up : lo < hi = ltb-true lo hi order in
    let within : hi ≤ points = leb-true hi points end in
    let before : IsLastBelow es lo = λ some. let q = last some in omega arith in
    let size : length set ≡ points = ap (λ (flags : List Bool). length flags) (sym is) ∙ length-flags points es in
    let new : with_range set lo hi ≡ flags_of points (es ++ lo ∷ hi ∷ []) =
    same_sets (with_range set lo hi) (flags_of points (es ++ lo ∷ hi ∷ []))
    (record {
      bound = length-with set lo hi ∙ size ∙ sym (length-flags points (es ++ lo ∷ hi ∷ []));
      indices = λ i. has_with set lo hi i (omega arith) ∙ sym (has_push points es set lo hi edges is up within before i);
    }) in
    let two : length (es ++ lo ∷ hi ∷ []) ≡ length es + 2 = length-append es (lo ∷ hi ∷ []) in
    let top : get_or (es ++ lo ∷ hi ∷ []) (length (es ++ lo ∷ hi ∷ []) - 1) 0 ≡ hi =
    ap (λ (n : ℕ). get_or (es ++ lo ∷ hi ∷ []) n 0) (let q : length (es ++ lo ∷ hi ∷ []) - 1 ≡ length es + 1 = omega arith in q)
    ∙ get_or-append_right es (lo ∷ hi ∷ []) (length es) (length es + 1) 0 refl (omega arith)
    ∙ ap (λ (n : ℕ). get_or (lo ∷ hi ∷ []) n 0) (let q : length es + 1 - length es ≡ 1 = omega arith in q) in
    let later = grown points (hi + 1) (es ++ lo ∷ hi ∷ []) (with_range set lo hi) bounds (edges_push points es lo hi edges up within before) (sym new) (λ some. omega arith) rest in
    let joined = append_assoc es (lo ∷ hi ∷ []) bounds in
    (later.0 ∙ ap (flags_of points) joined, subst (λ (all : List ℕ). AreEdges points all) joined later.1)

no_last : (least : ℕ) → IsLastBelow [] least
no_last least some = absurd (omega arith)

-- the bounds of a line make the set that they stand for
pub from_none : (points : ℕ) (set : List Bool) (bounds : List ℕ) → flags_of points [] ≡ set → are_ranges_from points 0 bounds ≡ true
    → (with_ranges set bounds ≡ flags_of points bounds) × AreEdges points bounds
from_none points set bounds is ranges = grown points 0 [] set bounds (no_edges points [] refl) is (no_last 0) ranges
