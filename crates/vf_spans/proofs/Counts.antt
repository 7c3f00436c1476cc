-- How many indices a set has: the lengths of its ranges together.
use Rattle.std.proofs.Common.{◌≡◌, ℕ, suc, zero, ◌+◌, ◌*◌, ◌-◌, ◌/◌, ◌<◌, ◌≤◌, List, [], ◌∷◌, length, take, get_or, cond, Bool, true, false, Some, None, arith, refl, sym, ap, ap₂, ◌∙◌, subst}
use Rattle.std.proofs.lemmas.List.Sums.{sum_by-cons}
use Rattle.std.specs.List.{sum_by}
use Rattle.vf_spans.specs.Members.{count_of, ranges_from, ranges_of}
use Rattle.std.specs.List.{slice_get}
use Rattle.std.proofs.lemmas.Option.{slice_get-get_or}
use Rattle.std.proofs.lemmas.List.Sums.{count_by-le-length, sum_by-take-le, sum_by_more}
use Rattle.vf_spans.specs.Edges.{flags_of, Ascends, AreEdges}
use Rattle.vf_spans.proofs.Flags.{length-flags}
use Rattle.vf_spans.proofs.Ranges.{pairs, ranges-flags}

abbrev pub span_of : ℕ × ℕ → ℕ
span_of range = range.1 - range.0

record Counted (fs : List Bool) : Type 0 where
  outside : (at : ℕ) → sum_by span_of (ranges_from at None fs) ≡ count_of fs
  within : (at lo : ℕ) → lo ≤ at → sum_by span_of (ranges_from at (Some lo) fs) ≡ (at - lo) + count_of fs

count_first : (f : Bool) (fs : List Bool) → count_of (f ∷ fs) ≡ cond f 1 0 + count_of fs
count_first f fs = sum_by-cons (λ x. cond x 1 0) f fs

counted : (fs : List Bool) → Counted fs
counted [] = record { outside = λ at. refl; within = λ at lo le. let q : sum_by span_of (ranges_from at (Some lo) []) ≡ 0 + (at - lo) = refl in let n : count_of [] ≡ 0 = refl in omega arith }
counted (true ∷ fs) = record {
  outside = λ at. let q = (counted fs).within (at + 1) at (omega arith) in let n = count_first true fs in omega arith;
  within = λ at lo le. let q = (counted fs).within (at + 1) lo (omega arith) in let n = count_first true fs in omega arith;
}
counted (false ∷ fs) = record {
  outside = λ at. let q = (counted fs).outside (at + 1) in let n = count_first false fs in omega arith;
  within = λ at lo le.
      let first = sum_by-cons span_of (lo, at) (ranges_from (at + 1) None fs) in
      let q = (counted fs).outside (at + 1) in let n = count_first false fs in omega arith;
}

pub sum_by-ranges : (set : List Bool) → sum_by span_of (ranges_of set) ≡ count_of set
sum_by-ranges set = (counted set).outside 0

pub length-pairs : (es : List ℕ) → length (pairs es) ≡ length es / 2
length-pairs [] = refl
length-pairs (e ∷ []) = refl
length-pairs (e ∷ f ∷ es) = let q = length-pairs es in omega arith

pub get_or-pairs : (es : List ℕ) (n : ℕ) (d : ℕ × ℕ) → n < length es / 2 → get_or (pairs es) n d ≡ (get_or es (2 * n) 0, get_or es (2 * n + 1) 0)
get_or-pairs [] n d lt = absurd (omega arith)
get_or-pairs (e ∷ []) n d lt = absurd (omega arith)
get_or-pairs (e ∷ f ∷ es) zero d lt = refl
get_or-pairs (e ∷ f ∷ es) (suc n) d lt =
    get_or-pairs es n d (omega arith)
    ∙ ap₂ (λ k m. (get_or (e ∷ f ∷ es) k 0, get_or (e ∷ f ∷ es) m 0)) (let q : suc (suc (2 * n)) ≡ 2 * suc n = omega arith in q) (let q : suc (suc (2 * n + 1)) ≡ 2 * suc n + 1 = omega arith in q)

pub range_count : (bound : ℕ) (es : List ℕ) (v : List Bool) → AreEdges bound es → flags_of bound es ≡ v → length (ranges_of v) ≡ length es / 2
range_count bound es v h is = ap (λ z. length (ranges_of z)) (sym is) ∙ ap length (ranges-flags bound es h) ∙ length-pairs es

pub range_at : (bound : ℕ) (es : List ℕ) (v : List Bool) (n : ℕ) → AreEdges bound es → flags_of bound es ≡ v → n < length (ranges_of v)
    → slice_get (ranges_of v) n ≡ Some (get_or es (2 * n) 0, get_or es (2 * n + 1) 0)
range_at bound es v n h is lt =
    let size = range_count bound es v h is in
    ap (λ z. slice_get (ranges_of z) n) (sym is) ∙ ap (λ z. slice_get z n) (ranges-flags bound es h)
    ∙ slice_get-get_or (pairs es) n (0, 0) (let q = length-pairs es in omega arith) ∙ ap Some (get_or-pairs es n (0, 0) (omega arith))

rises : (es : List ℕ) → Ascends es → (k : ℕ) → k < length es → k ≤ get_or es k 0
rises es a zero lt = omega arith
rises es a (suc k) lt = let before = rises es a k (omega arith) in let up = a k (suc k) (omega arith) lt in omega arith

-- there are no more edges than numbers up to the bound
pub few : (bound : ℕ) (es : List ℕ) → AreEdges bound es → length es ≤ bound + 1
few bound [] h = omega arith
few bound (e ∷ es) h = let last = rises (e ∷ es) h.ascends (length es) (omega arith) in let w = h.within (length es) (omega arith) in omega arith

-- the lengths of all ranges are the count
pub total_is : (bound : ℕ) (es : List ℕ) (v : List Bool) → AreEdges bound es → flags_of bound es ≡ v → sum_by span_of (pairs es) ≡ count_of v
total_is bound es v h is = ap (sum_by span_of) (sym (ranges-flags bound es h)) ∙ sum_by-ranges (flags_of bound es) ∙ ap count_of is

pub total_small : (bound : ℕ) (es : List ℕ) → AreEdges bound es → sum_by span_of (pairs es) ≤ bound
total_small bound es h =
    let all = total_is bound es (flags_of bound es) h refl in
    let most = count_by-le-length (λ (flag : Bool). flag) (flags_of bound es) in
    let size = length-flags bound es in omega arith

pub total_more : (es : List ℕ) (n : ℕ) → n < length es / 2
    → sum_by span_of (take (n + 1) (pairs es)) ≡ sum_by span_of (take n (pairs es)) + (get_or es (2 * n + 1) 0 - get_or es (2 * n) 0)
total_more es n lt =
    sum_by_more span_of (pairs es) n (0, 0) (let q = length-pairs es in omega arith)
    ∙ ap (λ r. sum_by span_of (take n (pairs es)) + span_of r) (get_or-pairs es n (0, 0) lt)

pub total_part : (bound : ℕ) (es : List ℕ) (n : ℕ) → AreEdges bound es → sum_by span_of (take n (pairs es)) ≤ bound
total_part bound es n h = let part = sum_by-take-le span_of (pairs es) n in let all = total_small bound es h in omega arith

-- the edges that a range reads, through an equal list
pub range_read : (bound : ℕ) (es xs : List ℕ) (v : List Bool) (n : ℕ) → AreEdges bound es → flags_of bound es ≡ v → xs ≡ es → n < length (ranges_of v)
    → (2 * n + 1 < length xs) × (slice_get (ranges_of v) n ≡ Some (get_or xs (2 * n) 0, get_or xs (2 * n + 1) 0)) × (get_or xs (2 * n) 0 < get_or xs (2 * n + 1) 0) × (get_or xs (2 * n + 1) 0 ≤ length v)
range_read bound es xs v n h is same lt =
    let size = range_count bound es v h is in
    let two : 2 * n + 1 < length es = omega arith in
    let wide = sym (length-flags bound es) ∙ ap length is in
    subst (λ (z : List ℕ). (2 * n + 1 < length z) × (slice_get (ranges_of v) n ≡ Some (get_or z (2 * n) 0, get_or z (2 * n + 1) 0)) × (get_or z (2 * n) 0 < get_or z (2 * n + 1) 0) × (get_or z (2 * n + 1) 0 ≤ length v))
    (sym same)
    (two, range_at bound es v n h is lt, h.ascends (2 * n) (2 * n + 1) (omega arith) two, (let top = h.within (2 * n + 1) two in omega arith))
