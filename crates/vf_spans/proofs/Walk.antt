-- One turn of the walk over the edges of two sets.
use Rattle.std.proofs.Common.{◌≡◌, ℕ, suc, zero, inl, inr, ◌+◌, ◌%◌, ◌<◌, ◌≤◌, ◌⊎◌, ⊎_elim, List, [], ◌∷◌, ◌++◌, length, take, get_or, cond, Bool, true, false, not, eqb, leb, arith, refl, sym, ap, ap₂, ◌∙◌, subst, length-append}
use Rattle.std.proofs.Math.Seq.{take-length}
use Rattle.std.proofs.lemmas.Bool.{cond_both}
use Rattle.std.proofs.lemmas.Bool.Decides.{nat_tests}
use Rattle.std.proofs.lemmas.List.{length-take-le}
use native.Mathlib.Decide.{dec_le}
use mathlib.Core.Logic.{dite}
use mathlib.Core.Bool.{beq}
use Rattle.vf_spans.specs.declared.merge.Operation.{Operation}
use Rattle.vf_spans.specs.declared.merge.Operation.TheVariants.{Union, Minus, Meet}
use Rattle.vf_spans.specs.Edges.{inside, Ascends}
use Rattle.vf_spans.specs.Merge.{combined, PassesEdge}

-- each is below the number, or from it on, or not above it
abbrev pub AllBelow : ℕ → List ℕ → Type 0
AllBelow low es = (k : ℕ) → k < length es → get_or es k 0 < low

abbrev pub AllFrom : ℕ → ℕ → List ℕ → Type 0
AllFrom low i es = (k : ℕ) → i ≤ k → k < length es → low ≤ get_or es k 0

abbrev pub AllWithin : ℕ → List ℕ → Type 0
AllWithin bound es = (k : ℕ) → k < length es → get_or es k 0 ≤ bound

-- so far the sets agree
pub record Agrees (op : Operation) (a b out : List ℕ) (i j low : ℕ) : Type 0 where
  pub i_in : i ≤ length a
  pub j_in : j ≤ length b
  pub out_below : AllBelow low out
  pub out_ascends : Ascends out
  pub out_within : (bound : ℕ) → AllWithin bound a → AllWithin bound b → AllWithin bound out
  pub a_below : AllBelow low (take i a)
  pub b_below : AllBelow low (take j b)
  pub a_from : AllFrom low i a
  pub b_from : AllFrom low j b
  pub parity : combined op (eqb (i % 2) 1) (eqb (j % 2) 1) ≡ eqb (length out % 2) 1
  pub same : (x : ℕ) → inside out x ≡ combined op (inside (take i a) x) (inside (take j b) x)

abbrev pub odd : ℕ → Bool
odd n = eqb (n % 2) 1

pub odd_suc : (n : ℕ) → odd (suc n) ≡ not (odd n)
odd_suc n = grind (arith, nat_tests)

has_below : (es : List ℕ) (e x : ℕ) → x < e → inside (es ++ e ∷ []) x ≡ inside es x
has_below [] e x lt = grind (arith, nat_tests)
has_below (d ∷ es) e x lt = ap (λ b. cond (leb d x) (not b) b) (has_below es e x lt)

at_most_rest : (d : ℕ) (es : List ℕ) (x : ℕ) → ((k : ℕ) → k < length (d ∷ es) → get_or (d ∷ es) k 0 ≤ x) → (k : ℕ) → k < length es → get_or es k 0 ≤ x
at_most_rest d es x h k lt = h (suc k) (omega arith)

test_true : (d x : ℕ) → d ≤ x → leb d x ≡ true
test_true d x h = grind (arith, nat_tests)

pub has_above : (es : List ℕ) (x : ℕ) → ((k : ℕ) → k < length es → get_or es k 0 ≤ x) → inside es x ≡ odd (length es)
has_above [] x h = refl
has_above (d ∷ es) x h =
    ap (λ b. cond b (not (inside es x)) (inside es x)) (test_true d x (h 0 (omega arith)))
    ∙ ap not (has_above es x (at_most_rest d es x h)) ∙ sym (odd_suc (length es))

-- p became q at the edge e
record Grown (e : ℕ) (p q : List ℕ) : Type 0 where
  below : (x : ℕ) → x < e → inside q x ≡ inside p x
  above : (x : ℕ) → e ≤ x → inside q x ≡ odd (length q)
  all : AllBelow (e + 1) q

-- an element of a list with one more is one of the list, or that one
push_at : (p : List ℕ) (e k : ℕ) → k < length (p ++ e ∷ [])
    → ((k < length p) × (get_or (p ++ e ∷ []) k 0 ≡ get_or p k 0)) ⊎ ((k ≡ length p) × (get_or (p ++ e ∷ []) k 0 ≡ e))
push_at [] e zero lt = inr (refl, refl)
push_at [] e (suc k) lt = absurd (omega arith)
push_at (d ∷ p) e zero lt = inl (omega arith, refl)
push_at (d ∷ p) e (suc k) lt =
    ⊎_elim (λ t. inl (let q = t.0 in omega arith, t.1)) (λ t. inr (let q = t.0 in omega arith, t.1)) (push_at p e k (omega arith))

pub all_push : (p : List ℕ) (e : ℕ) → AllBelow e p → AllBelow (e + 1) (p ++ e ∷ [])
all_push p e h k lt = ⊎_elim (λ t. let q = h k t.0 in let r = t.1 in omega arith) (λ t. let r = t.1 in omega arith) (push_at p e k lt)

grown_same : (e : ℕ) (p : List ℕ) → AllBelow e p → Grown e p p
grown_same e p h = record {
  below = λ x lt. refl;
  above = λ x le. has_above p x (λ k lt. let q = h k lt in omega arith);
  all = λ k lt. let q = h k lt in omega arith;
}

grown_push : (e : ℕ) (p : List ℕ) → AllBelow e p → Grown e p (p ++ e ∷ [])
grown_push e p h = record {
  below = λ x lt. has_below p e x lt;
  above = λ x le. has_above (p ++ e ∷ []) x (λ k lt. let q = all_push p e h k lt in omega arith);
  all = all_push p e h;
}

grown_passed : (es : List ℕ) (i e r : ℕ) → AllBelow e (take i es) → PassesEdge es i e r → Grown e (take i es) (take r es)
grown_passed es i e r h p =
    subst (λ (q : List ℕ). Grown e (take i es) q) (sym p.moved)
    (cond_both (eqb r i) (take i es) (take i es ++ e ∷ []) (λ q. Grown e (take i es) q) (λ _. grown_same e (take i es) h) (λ _. grown_push e (take i es) h))

more_below : (low e : ℕ) (es : List ℕ) → low ≤ e → AllBelow low es → AllBelow e es
more_below low e es le h k lt = let q = h k lt in omega arith

pub ascends_push : (p : List ℕ) (e : ℕ) → Ascends p → AllBelow e p → Ascends (p ++ e ∷ [])
ascends_push p e a h k m lt lm =
    let size = length-append p (e ∷ []) in
    let low : k < length p = omega (arith, lm) in
    let here : get_or (p ++ e ∷ []) k 0 ≡ get_or p k 0 = ⊎_elim (λ t. t.1) (λ t. absurd (let q = t.0 in omega arith)) (push_at p e k (omega arith)) in
    ⊎_elim (λ t. let q = a k m lt t.0 in let r = t.1 in omega arith) (λ t. let q = h k low in let r = t.1 in omega arith) (push_at p e m lm)

pub within_push : (p : List ℕ) (e bound : ℕ) → AllWithin bound p → e ≤ bound → AllWithin bound (p ++ e ∷ [])
within_push p e bound h le k lt = ⊎_elim (λ t. let q = h k t.0 in let r = t.1 in omega arith) (λ t. let r = t.1 in omega arith) (push_at p e k lt)

grown_out : (e : ℕ) (p q : List ℕ) → AllBelow e p → (q ≡ p) ⊎ (q ≡ p ++ e ∷ []) → Grown e p q
grown_out e p q h c = ⊎_elim (λ s. subst (λ (r : List ℕ). Grown e p r) (sym s) (grown_same e p h)) (λ s. subst (λ (r : List ℕ). Grown e p r) (sym s) (grown_push e p h)) c

ascends_out : (e : ℕ) (p q : List ℕ) → Ascends p → AllBelow e p → (q ≡ p) ⊎ (q ≡ p ++ e ∷ []) → Ascends q
ascends_out e p q a h c = ⊎_elim (λ s. subst Ascends (sym s) a) (λ s. subst Ascends (sym s) (ascends_push p e a h)) c

pub one_within : (a b : List ℕ) (i j e : ℕ) → ((i < length a) × (e ≡ get_or a i 0)) ⊎ ((j < length b) × (e ≡ get_or b j 0)) → (bound : ℕ) → AllWithin bound a → AllWithin bound b → e ≤ bound
one_within a b i j e c bound wa wb = ⊎_elim (λ t. let q = wa i t.0 in let r = t.1 in omega arith) (λ t. let q = wb j t.0 in let r = t.1 in omega arith) c

-- a pushed edge is one of a or of b
within_out : (a b out next : List ℕ) (e : ℕ) → ((bound : ℕ) → AllWithin bound a → AllWithin bound b → e ≤ bound) → (next ≡ out) ⊎ (next ≡ out ++ e ∷ [])
    → ((bound : ℕ) → AllWithin bound a → AllWithin bound b → AllWithin bound out) → (bound : ℕ) → AllWithin bound a → AllWithin bound b → AllWithin bound next
within_out a b out next e one c h bound wa wb =
    let now = h bound wa wb in
    let here = one bound wa wb in
    ⊎_elim (λ s. subst (λ (r : List ℕ). AllWithin bound r) (sym s) now) (λ s. subst (λ (r : List ℕ). AllWithin bound r) (sym s) (within_push out e bound now here)) c

pub turn : (op : Operation) (a b out next : List ℕ) (i j i' j' low e : ℕ) → Agrees op a b out i j low → low ≤ e
    → ((bound : ℕ) → AllWithin bound a → AllWithin bound b → e ≤ bound) → PassesEdge a i e i' → PassesEdge b j e j'
    → (next ≡ out) ⊎ (next ≡ out ++ e ∷ []) → combined op (odd i') (odd j') ≡ odd (length next) → Agrees op a b next i' j' (e + 1)
turn op a b out next i j i' j' low e h le one p q c parity =
    let out_below = more_below low e out le h.out_below in
    let ga = grown_passed a i e i' (more_below low e (take i a) le h.a_below) p in
    let gb = grown_passed b j e j' (more_below low e (take j b) le h.b_below) q in
    let go = grown_out e out next out_below c in
    let la : length (take i' a) ≡ i' = length-take-le i' a p.within in
    let lb : length (take j' b) ≡ j' = length-take-le j' b q.within in
    record {
      i_in = p.within;
      j_in = q.within;
      out_below = go.all;
      out_ascends = ascends_out e out next h.out_ascends out_below c;
      out_within = within_out a b out next e one c h.out_within;
      a_below = ga.all;
      b_below = gb.all;
      a_from = p.rest;
      b_from = q.rest;
      parity = parity;
      same = λ x. dite (dec_le e x)
          (λ above.
          go.above x above ∙ sym parity
          ∙ ap₂ (combined op) (ap odd (sym la) ∙ sym (ga.above x above)) (ap odd (sym lb) ∙ sym (gb.above x above)))
          (λ no.
          let lt : x < e = omega arith in
          go.below x lt ∙ h.same x ∙ ap₂ (combined op) (sym (ga.below x lt)) (sym (gb.below x lt)));
    }

pub equal_flags : (p q : Bool) → not (beq p q) ≡ false → p ≡ q
equal_flags true true h = refl
equal_flags false false h = refl
equal_flags true false h = cc
equal_flags false true h = cc

pub other_flag : (p q : Bool) → not (beq p q) ≡ true → p ≡ not q
other_flag true true h = cc
other_flag false false h = cc
other_flag true false h = refl
other_flag false true h = refl

pub odd_push : (es : List ℕ) (e : ℕ) → odd (length (es ++ e ∷ [])) ≡ not (odd (length es))
odd_push es e = let l = length-append es (e ∷ []) in ap odd (l ∙ (let q : length es + 1 ≡ suc (length es) = omega arith in q)) ∙ odd_suc (length es)

-- past all the edges of both sets the walk has made the set
pub agreed_set : (op : Operation) (a b out : List ℕ) (i j low : ℕ) → Agrees op a b out i j low → length a ≤ i → length b ≤ j
    → (x : ℕ) → inside out x ≡ combined op (inside a x) (inside b x)
agreed_set op a b out i j low h past_a past_b x =
    let in_a = h.i_in in
    let in_b = h.j_in in
    let all_a : i ≡ length a = omega arith in
    let all_b : j ≡ length b = omega arith in
    h.same x
    ∙ ap₂ (λ m n. combined op (inside (take m a) x) (inside (take n b) x)) all_a all_b
    ∙ ap₂ (λ xs ys. combined op (inside xs x) (inside ys x)) (take-length a) (take-length b)

even_flag : (n : ℕ) → n % 2 ≡ 0 → odd n ≡ false
even_flag n even = ap (λ m. eqb m 1) even

flag_even : (n : ℕ) → odd n ≡ false → n % 2 ≡ 0
flag_even n flag = grind (arith, nat_tests)

no_flags : (op : Operation) → combined op false false ≡ false
no_flags Union = refl
no_flags Minus = refl
no_flags Meet = refl

-- and it has both edges of each range, where they have
pub agreed_paired : (op : Operation) (a b out : List ℕ) (i j low : ℕ) → Agrees op a b out i j low → length a ≤ i → length b ≤ j
    → length a % 2 ≡ 0 → length b % 2 ≡ 0 → length out % 2 ≡ 0
agreed_paired op a b out i j low h past_a past_b even_a even_b =
    let in_a = h.i_in in
    let in_b = h.j_in in
    let all_a : i ≡ length a = omega arith in
    let all_b : j ≡ length b = omega arith in
    flag_even (length out)
    (sym h.parity
    ∙ ap₂ (λ m n. combined op (odd m) (odd n)) all_a all_b
    ∙ ap₂ (λ p q. combined op p q) (even_flag (length a) even_a) (even_flag (length b) even_b)
    ∙ no_flags op)
