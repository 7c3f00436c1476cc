-- The edges of a set are those of its ranges: there is one list of edges for each set.
use Rattle.std.proofs.Common.{◌≡◌, ℕ, suc, ◌+◌, ◌<◌, ◌≤◌, List, [], ◌∷◌, length, get_or, cond, Bool, true, false, not, eqb, leb, Some, None, arith, refl, sym, ap, ◌∙◌, subst, get_or}
use Rattle.std.proofs.lemmas.Bool.Decides.{nat_tests}
use native.Mathlib.Decide.{dec_le}
use mathlib.Core.Logic.{dite}
use Rattle.vf_spans.specs.Edges.{inside, flags_of, Ascends, AreEdges}
use Rattle.vf_spans.specs.Members.{ranges_from, ranges_of}
use Rattle.vf_spans.proofs.Walk.{odd, odd_suc}
use Rattle.vf_spans.proofs.Flags.{length-flags, has-flags}

-- the edges two by two
abbrev pub pairs : List ℕ → List (ℕ × ℕ)
pairs [] = []
pairs (first ∷ []) = []
pairs (first ∷ end ∷ edges) = (first, end) ∷ pairs edges

-- the edges ascend from low on and up to high
abbrev pub Between : ℕ → ℕ → List ℕ → Type 0
Between low high [] = Unit {0}
Between low high (e ∷ es) = (low ≤ e) × (e ≤ high) × Between (e + 1) high es

inside_none : (low high : ℕ) (es : List ℕ) (x : ℕ) → Between low high es → x < low → inside es x ≡ false
inside_none low high [] x b lt = refl
inside_none low high (e ∷ es) x b lt =
    let above : x < e = let q = b.0 in omega arith in
    ap (λ t. cond t (not (inside es x)) (inside es x)) (let f : leb e x ≡ false = grind (arith, nat_tests) in f) ∙ inside_none (e + 1) high es x b.2 (omega arith)

inside_first : (e : ℕ) (es : List ℕ) (x : ℕ) → e ≤ x → inside (e ∷ es) x ≡ not (inside es x)
inside_first e es x le = ap (λ t. cond t (not (inside es x)) (inside es x)) (let f : leb e x ≡ true = grind (arith, nat_tests) in f)

-- the flags from an index on give back the edges, from outside a range and from inside one
record Regains (fs : List Bool) : Type 0 where
  outside : (at : ℕ) (es : List ℕ) → Between at (at + length fs) es → odd (length es) ≡ false
      → ((k : ℕ) → k < length fs → get_or fs k false ≡ inside es (at + k)) → ranges_from at None fs ≡ pairs es
  within : (at lo hi : ℕ) (es : List ℕ) → at ≤ hi → hi ≤ at + length fs → Between (hi + 1) (at + length fs) es → odd (length es) ≡ false
      → ((k : ℕ) → k < length fs → get_or fs k false ≡ not (inside (hi ∷ es) (at + k))) → ranges_from at (Some lo) fs ≡ (lo, hi) ∷ pairs es

empty_outside : (at : ℕ) (es : List ℕ) → Between at (at + 0) es → odd (length es) ≡ false → ranges_from at None [] ≡ pairs es
empty_outside at [] b o = refl
empty_outside at (e ∷ []) b o = absurd (cc)
empty_outside at (e ∷ f ∷ es) b o = absurd (let p = b.0 in let q = b.2.0 in let r = b.2.1 in omega arith)

empty_within : (at lo hi : ℕ) (es : List ℕ) → at ≤ hi → hi ≤ at + 0 → Between (hi + 1) (at + 0) es → ranges_from at (Some lo) [] ≡ (lo, hi) ∷ pairs es
empty_within at lo hi [] le up b = let same : at ≡ hi = omega arith in ap (λ n. (lo, n) ∷ []) same
empty_within at lo hi (e ∷ es) le up b = absurd (let p = b.0 in let q = b.1 in omega arith)

-- the same edges, from the next index on
later : (f : Bool) (fs : List Bool) (at : ℕ) (g : ℕ → Bool) → ((k : ℕ) → k < length (f ∷ fs) → get_or (f ∷ fs) k false ≡ g (at + k)) → (k : ℕ) → k < length fs → get_or fs k false ≡ g (at + 1 + k)
later f fs at g h k lt = h (suc k) (omega arith) ∙ ap g (omega arith)

twice : (b : Bool) → not (not b) ≡ b
twice true = refl
twice false = refl

odd_two : (n : ℕ) → odd (suc (suc n)) ≡ odd n
odd_two n = odd_suc (suc n) ∙ ap not (odd_suc n) ∙ twice (odd n)

step_outside : (f : Bool) (fs : List Bool) → Regains fs → (at : ℕ) (es : List ℕ) → Between at (at + length (f ∷ fs)) es → odd (length es) ≡ false
    → ((k : ℕ) → k < length (f ∷ fs) → get_or (f ∷ fs) k false ≡ inside es (at + k)) → ranges_from at None (f ∷ fs) ≡ pairs es
step_outside f fs r at [] b o h =
    let no : f ≡ false = h 0 (omega arith) in
    subst (λ (t : Bool). ranges_from at None (t ∷ fs) ≡ []) (sym no) (r.outside (at + 1) [] tt refl (later f fs at (inside []) h))
step_outside f fs r at (e ∷ []) b o h = absurd (cc)
step_outside f fs r at (e ∷ hi ∷ es) b o h =
    let size : at + length (f ∷ fs) ≡ at + 1 + length fs = omega arith in
    let first : f ≡ inside (e ∷ hi ∷ es) (at + 0) = h 0 (omega arith) in
    dite (dec_le e at)
    (λ le.
    let here : e ≡ at = let q = b.0 in omega arith in
    let yes : f ≡ true = first ∙ inside_first e (hi ∷ es) (at + 0) (omega arith) ∙ ap not (inside_none (e + 1) (at + length (f ∷ fs)) (hi ∷ es) (at + 0) b.2 (omega arith)) in
    let low : at + 1 ≤ hi = let q = b.2.0 in omega arith in
    let up : hi ≤ at + 1 + length fs = let q = b.2.1 in omega arith in
    subst (λ (t : Bool). ranges_from at None (t ∷ fs) ≡ (e, hi) ∷ pairs es) (sym yes)
    (subst (λ (n : ℕ). ranges_from (at + 1) (Some at) fs ≡ (n, hi) ∷ pairs es) (sym here)
    (r.within (at + 1) at hi es low up (subst (λ (n : ℕ). Between (hi + 1) n es) size b.2.2) (sym (odd_two (length es)) ∙ o)
    (λ k lt. later f fs at (inside (e ∷ hi ∷ es)) h k lt ∙ inside_first e (hi ∷ es) (at + 1 + k) (omega arith)))))
    (λ no.
    let above : at < e = omega arith in
    let not_yet : f ≡ false = first ∙ inside_none (at + 1) (at + length (f ∷ fs)) (e ∷ hi ∷ es) (at + 0) (omega arith, b.1, b.2) (omega arith) in
    subst (λ (t : Bool). ranges_from at None (t ∷ fs) ≡ (e, hi) ∷ pairs es) (sym not_yet)
    (r.outside (at + 1) (e ∷ hi ∷ es) (subst (λ (n : ℕ). Between (at + 1) n (e ∷ hi ∷ es)) size (omega arith, b.1, b.2)) o
    (later f fs at (inside (e ∷ hi ∷ es)) h)))

step_within : (f : Bool) (fs : List Bool) → Regains fs → (at lo hi : ℕ) (es : List ℕ) → at ≤ hi → hi ≤ at + length (f ∷ fs) → Between (hi + 1) (at + length (f ∷ fs)) es
    → odd (length es) ≡ false → ((k : ℕ) → k < length (f ∷ fs) → get_or (f ∷ fs) k false ≡ not (inside (hi ∷ es) (at + k)))
    → ranges_from at (Some lo) (f ∷ fs) ≡ (lo, hi) ∷ pairs es
step_within f fs r at lo hi es le up b o h =
    let size : at + length (f ∷ fs) ≡ at + 1 + length fs = omega arith in
    let first : f ≡ not (inside (hi ∷ es) (at + 0)) = h 0 (omega arith) in
    dite (dec_le hi at)
    (λ low.
    let here : at ≡ hi = omega arith in
    let ends : f ≡ false = first ∙ ap not (inside_first hi es (at + 0) (omega arith) ∙ ap not (inside_none (hi + 1) (at + length (f ∷ fs)) es (at + 0) b (omega arith))) in
    subst (λ (t : Bool). ranges_from at (Some lo) (t ∷ fs) ≡ (lo, hi) ∷ pairs es) (sym ends)
    (ap (λ n. (lo, n) ∷ ranges_from (at + 1) None fs) here
    ∙ ap (λ rest. (lo, hi) ∷ rest)
    (r.outside (at + 1) es (subst (λ (n : ℕ). Between n (at + 1 + length fs) es) (let q : hi + 1 ≡ at + 1 = omega arith in q) (subst (λ (n : ℕ). Between (hi + 1) n es) size b)) o
    (λ k lt. later f fs at (λ x. not (inside (hi ∷ es) x)) h k lt ∙ ap not (inside_first hi es (at + 1 + k) (omega arith)) ∙ twice (inside es (at + 1 + k))))))
    (λ no.
    let above : at < hi = omega arith in
    let goes : f ≡ true = first ∙ ap not (inside_none (at + 1) (at + length (f ∷ fs)) (hi ∷ es) (at + 0) (omega arith, omega arith, b) (omega arith)) in
    subst (λ (t : Bool). ranges_from at (Some lo) (t ∷ fs) ≡ (lo, hi) ∷ pairs es) (sym goes)
    (r.within (at + 1) lo hi es (omega arith) (omega arith) (subst (λ (n : ℕ). Between (hi + 1) n es) size b) o
    (later f fs at (λ x. not (inside (hi ∷ es) x)) h)))

regains : (fs : List Bool) → Regains fs
regains [] = record {
  outside = λ at es b o h. empty_outside at es b o;
  within = λ at lo hi es le up b o h. empty_within at lo hi es le up b;
}
regains (f ∷ fs) = record {
  outside = step_outside f fs (regains fs);
  within = step_within f fs (regains fs);
}

-- the edges from a place on ascend from any number that is not above the first
between : (bound low : ℕ) (es : List ℕ) → Ascends es → ((k : ℕ) → k < length es → get_or es k 0 ≤ bound) → (0 < length es → low ≤ get_or es 0 0) → Between low bound es
between bound low [] a w f = tt
between bound low (e ∷ es) a w f =
    (f (omega arith), w 0 (omega arith), between bound (e + 1) es (λ k m lt lm. a (suc k) (suc m) (omega arith) (omega arith)) (λ k lt. w (suc k) (omega arith)) (λ lt. let q = a 0 1 (omega arith) (omega arith) in omega arith))

-- the ranges of the set are its edges two by two
pub ranges-flags : (bound : ℕ) (es : List ℕ) → AreEdges bound es → ranges_of (flags_of bound es) ≡ pairs es
ranges-flags bound es h =
    let l = length-flags bound es in
    (regains (flags_of bound es)).outside 0 es
    (subst (λ (n : ℕ). Between 0 n es) (let q : bound ≡ 0 + length (flags_of bound es) = omega arith in q) (between bound 0 es h.ascends h.within (λ lt. omega arith)))
    (ap (λ n. eqb n 1) h.paired)
    (λ k lt. has-flags bound es k h ∙ ap (inside es) (let q : k ≡ 0 + k = omega arith in q))
