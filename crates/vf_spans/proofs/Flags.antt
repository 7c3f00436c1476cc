-- The set that edges stand for: which flags are set.
use Rattle.std.proofs.Common.{◌≡◌, ℕ, suc, zero, ◌<◌, ◌≤◌, List, [], ◌∷◌, length, get_or, cond, Bool, true, false, not, eqb, leb, arith, refl, sym, ap, ap₂, ◌∙◌, subst}
use Rattle.std.proofs.lemmas.Bool.Decides.{nat_tests}
use Rattle.std.specs.List.Sorted.{IsPartitionedBy, IsPartitionPoint}
use Rattle.std.proofs.lemmas.List.{get_or_past, get_or_default}
use Rattle.std.proofs.lemmas.List.FromFn.{length-map-range_with_len, get_or-map-range_with_len}
use native.Mathlib.Decide.{dec_le}
use mathlib.Core.Logic.{dite}
use Rattle.vf_spans.specs.Edges.{inside, flags_of, Ascends, AreEdges}
use Rattle.vf_spans.specs.declared.merge.Operation.{Operation}
use Rattle.vf_spans.specs.Merge.{combined}
use Rattle.vf_spans.specs.Members.{has}
use Rattle.vf_spans.proofs.Walk.{odd, odd_suc, has_above}

pub length-flags : (bound : ℕ) (es : List ℕ) → length (flags_of bound es) ≡ bound
length-flags bound es = length-map-range_with_len (inside es) 0 bound

-- r edges are at most x
pub inside_at : (es : List ℕ) (x r : ℕ) → r ≤ length es → ((k : ℕ) → k < r → get_or es k 0 ≤ x) → ((k : ℕ) → r ≤ k → k < length es → x < get_or es k 0) → inside es x ≡ odd r
inside_at [] x r le low high = let z : r ≡ 0 = omega arith in ap odd (sym z)
inside_at (e ∷ es) x zero le low high =
    let above : x < e = high 0 (omega arith) (omega arith) in
    ap (λ b. cond b (not (inside es x)) (inside es x)) (let f : leb e x ≡ false = grind (arith, nat_tests) in f)
    ∙ inside_at es x 0 (omega arith) (λ k lt. absurd (omega arith)) (λ k le' lt. high (suc k) (omega arith) (omega arith))
inside_at (e ∷ es) x (suc r) le low high =
    let below : e ≤ x = low 0 (omega arith) in
    ap (λ b. cond b (not (inside es x)) (inside es x)) (let f : leb e x ≡ true = grind (arith, nat_tests) in f)
    ∙ ap not (inside_at es x r (omega arith) (λ k lt. low (suc k) (omega arith)) (λ k le' lt. high (suc k) (omega arith) (omega arith)))
    ∙ sym (odd_suc r)

-- beyond the bound nothing is inside
pub inside_past : (bound : ℕ) (es : List ℕ) (x : ℕ) → AreEdges bound es → bound ≤ x → inside es x ≡ false
inside_past bound es x h le =
    has_above es x (λ k lt. let w = h.within k lt in omega arith) ∙ (let p : odd (length es) ≡ false = ap (λ n. eqb n 1) h.paired in p)

pub has-flags : (bound : ℕ) (es : List ℕ) (x : ℕ) → AreEdges bound es → has (flags_of bound es) x ≡ inside es x
has-flags bound es x h =
    dite (dec_le bound x)
    (λ le. get_or_past (flags_of bound es) x false (let l = length-flags bound es in omega arith) ∙ sym (inside_past bound es x h le))
    (λ no. get_or-map-range_with_len (inside es) 0 bound x x false (omega arith) (omega arith))

pub no_edges : (bound : ℕ) (es : List ℕ) → es ≡ [] → AreEdges bound es
no_edges bound es e =
    subst (AreEdges bound) (sym e)
    (record {
      ascends = λ k m lt lm. absurd (omega arith);
      within = λ k lt. absurd (omega arith);
      paired = refl;
    })

-- what a binary search among the edges needs, and what it gives
pub parted : (es : List ℕ) (x : ℕ) → Ascends es → IsPartitionedBy (λ edge. leb edge x) es
parted es x a i j d le lt t =
    dite (dec_le j i)
    (λ ge. let same : i ≡ j = omega arith in subst (λ (m : ℕ). leb (get_or es m d) x ≡ true) (sym same) t)
    (λ no.
    let up = a i j (omega arith) lt in
    let di : get_or es i d ≡ get_or es i 0 = get_or_default es i d 0 (omega arith) in
    let dj : get_or es j d ≡ get_or es j 0 = get_or_default es j d 0 lt in
    grind (arith, nat_tests))

pub inside_split : (es : List ℕ) (x r : ℕ) → r ≤ length es → IsPartitionPoint (λ y. leb y x ≡ true) (λ y. leb y x ≡ false) es r → inside es x ≡ odd r
inside_split es x r le p =
    inside_at es x r le
    (λ k lt. let q = p.0 k 0 (omega arith) lt in grind (arith, nat_tests))
    (λ k ge lt. let q = p.1 k 0 ge lt in grind (arith, nat_tests))

-- two sets with one bound keep it
pub same_bound : (b b' : ℕ) (es es' : List ℕ) (v v' : List Bool) → flags_of b es ≡ v → flags_of b' es' ≡ v' → length v' ≡ length v → b' ≡ b
same_bound b b' es es' v v' p q e = sym (length-flags b' es') ∙ ap length q ∙ e ∙ sym (ap length p) ∙ length-flags b es

pub bound_is : (bound : ℕ) (es : List ℕ) (v : List Bool) → flags_of bound es ≡ v → bound ≡ length v
bound_is bound es v is = sym (length-flags bound es) ∙ ap length is

-- the edges that one walk made of two sets, and what is in their set
-- the edges that are read ascend as those that are kept
pub ascends_here : (bound : ℕ) (es given : List ℕ) → given ≡ es → AreEdges bound es → Ascends given
ascends_here bound es given is h = subst (λ (z : List ℕ). Ascends z) (sym is) h.ascends

pub combined_edges : (op : Operation) (b b' : ℕ) (es es' xs xs' out : List ℕ) (v v' : List Bool) → flags_of b es ≡ v → flags_of b' es' ≡ v' → length v' ≡ length v → AreEdges b es → AreEdges b' es'
    → xs ≡ es → xs' ≡ es' → ((bound : ℕ) → AreEdges bound xs → AreEdges bound xs' → AreEdges bound out) → AreEdges b out
combined_edges op b b' es es' xs xs' out v v' p q e h h' s s' make =
    make b (subst (λ (z : List ℕ). AreEdges b z) (sym s) h) (subst (λ (z : List ℕ). AreEdges b z) (sym s') (subst (λ (n : ℕ). AreEdges n es') (same_bound b b' es es' v v' p q e) h'))

pub combined_has : (op : Operation) (b b' : ℕ) (es es' xs xs' out : List ℕ) (v v' : List Bool) → flags_of b es ≡ v → flags_of b' es' ≡ v' → AreEdges b es → AreEdges b' es' → AreEdges b out
    → xs ≡ es → xs' ≡ es' → ((x : ℕ) → inside out x ≡ combined op (inside xs x) (inside xs' x)) → (x : ℕ) → has (flags_of b out) x ≡ combined op (has v x) (has v' x)
combined_has op b b' es es' xs xs' out v v' p q h h' o s s' same x =
    has-flags b out x o ∙ same x
    ∙ ap₂ (combined op) (ap (λ z. inside z x) s ∙ sym (has-flags b es x h) ∙ ap (λ z. has z x) p) (ap (λ z. inside z x) s' ∙ sym (has-flags b' es' x h') ∙ ap (λ z. has z x) q)
