-- The walk that counts: between two edges that come next to each other no set changes.
use Rattle.std.proofs.Common.{◌≡◌, ℕ, ◌+◌, ◌-◌, ◌<◌, ◌≤◌, ◌⊎◌, ⊎_elim, List, [], ◌∷◌, ◌++◌, length, take, get_or, cond, Bool, true, false, not, ◌&&◌, eqb, IsTrue, arith, refl, sym, ap, ap₂, ◌∙◌}
use Rattle.std.proofs.lemmas.Bool.Decides.{nat_tests}
use Rattle.std.specs.List.{range_with_len}
use Rattle.std.proofs.lemmas.List.Sums.{count_by-le-length}
use Rattle.std.proofs.lemmas.List.FromFn.{length-range_with_len}
use Rattle.std.proofs.lemmas.List.{get_or-take, get_or-append_right, length-take-le}
use native.Mathlib.Decide.{dec_le}
use mathlib.Core.Logic.{dite}
use Rattle.vf_spans.specs.Edges.{inside, Ascends, AreEdges}
use Rattle.vf_spans.specs.Merge.{PassesEdge}
use Rattle.vf_spans.specs.Members.{count_below}
use Rattle.vf_spans.proofs.Walk.{odd, has_above, AllWithin}
use Rattle.vf_spans.proofs.Flags.{inside_at}
use Rattle.vf_spans.proofs.Below.{more_below, same_bound_same}

-- inside the first two sets and outside the third
abbrev pub counts_at : List ℕ → List ℕ → List ℕ → ℕ → Bool
counts_at a b c x = inside a x && (inside b x && not (inside c x))

-- the edges before the place are not above the number, and the others are not below it
pub record Passed (es : List ℕ) (i from : ℕ) : Type 0 where
  pub place : i ≤ length es
  pub before : (m : ℕ) → m < i → get_or es m 0 ≤ from
  pub after : (m : ℕ) → i ≤ m → m < length es → from ≤ get_or es m 0

-- the numbers below `from` are counted
pub record Tallied (a b c : List ℕ) (i j k from total : ℕ) : Type 0 where
  pub first : Passed a i from
  pub second : Passed b j from
  pub third : Passed c k from
  pub within : (bound : ℕ) → AllWithin bound a → AllWithin bound b → AllWithin bound c → from ≤ bound
  pub counted : total ≡ count_below from (counts_at a b c)

pub at_start : (es : List ℕ) → Passed es 0 0
at_start es = record {
  place = omega arith;
  before = λ m lt. absurd (omega arith);
  after = λ m le lt. omega arith;
}

pub start : (a b c : List ℕ) → Tallied a b c 0 0 0 0 0
start a b c = record {
  first = at_start a;
  second = at_start b;
  third = at_start c;
  within = λ bound wa wb wc. omega arith;
  counted = refl;
}

-- up to the next edge the flag stays
between : (es : List ℕ) (i from e x : ℕ) → Passed es i from → Ascends es → (i < length es → e ≤ get_or es i 0) → from ≤ x → x < e → inside es x ≡ odd i
between es i from e x p up next le lt =
    inside_at es x i p.place (λ m lm. let q = p.before m lm in omega arith)
    (λ m ge lm. let here = next (omega arith) in
    dite (dec_le m i)
    (λ low. let same : i ≡ m = omega arith in let q : get_or es i 0 ≡ get_or es m 0 = ap (λ n. get_or es n 0) same in omega arith)
    (λ no. let q = up i m (omega arith) lm in omega arith))

-- the place was moved past the edge
edge_there : (es : List ℕ) (i e r : ℕ) → r ≤ length es → r ≡ i + 1 → take r es ≡ cond (eqb r i) (take i es) (take i es ++ e ∷ []) → get_or es i 0 ≡ e
edge_there es i e r le next moved =
    let other : eqb r i ≡ false = grind (arith, nat_tests) in
    let size : length (take i es) ≡ i = length-take-le i es (omega arith) in
    let none : i - i ≡ 0 = omega arith in
    sym (get_or-take r es i 0 (omega arith))
    ∙ ap (λ z. get_or z i 0) (moved ∙ ap (λ t. cond t (take i es) (take i es ++ e ∷ [])) other)
    ∙ get_or-append_right (take i es) (e ∷ []) i i 0 size (omega arith)
    ∙ ap (λ n. get_or (e ∷ []) n 0) none

pub passed_on : (es : List ℕ) (i from e r : ℕ) → Passed es i from → from ≤ e → PassesEdge es i e r → Passed es r e
passed_on es i from e r p le q = record {
  place = q.within;
  before = λ m lt.
      dite (dec_le i m)
      (λ at. let same : m ≡ i = ⊎_elim (λ s. omega arith) (λ s. omega arith) q.next in
      let there = edge_there es i e r q.within (⊎_elim (λ s. absurd (omega arith)) (λ s. s) q.next) q.moved in
      let here : get_or es m 0 ≡ get_or es i 0 = ap (λ n. get_or es n 0) same in omega arith)
      (λ no. let b = p.before m (omega arith) in omega arith);
  after = λ m ge lt. let b = q.rest m ge lt in omega arith;
}

-- one turn of the walk
pub tallied_on : (a b c : List ℕ) (i j k i' j' k' from e total stretch : ℕ) → Tallied a b c i j k from total → Ascends a → Ascends b → Ascends c
    → (i < length a → e ≤ get_or a i 0) → (j < length b → e ≤ get_or b j 0) → (k < length c → e ≤ get_or c k 0) → from ≤ e
    → ((bound : ℕ) → AllWithin bound a → AllWithin bound b → AllWithin bound c → e ≤ bound)
    → PassesEdge a i e i' → PassesEdge b j e j' → PassesEdge c k e k'
    → stretch ≡ cond (odd i && (odd j && not (odd k))) (e - from) 0 → Tallied a b c i' j' k' e (total + stretch)
tallied_on a b c i j k i' j' k' from e total stretch t ua ub uc na nb nc le one pa pb pc s = record {
  first = passed_on a i from e i' t.first le pa;
  second = passed_on b j from e j' t.second le pb;
  third = passed_on c k from e k' t.third le pc;
  within = one;
  counted =
      let more = more_below (counts_at a b c) (odd i && (odd j && not (odd k))) from (e - from)
      (λ x ge lt. ap₂ (λ p q. p && q) (between a i from e x t.first ua na ge (omega arith))
      (ap₂ (λ p q. p && not q) (between b j from e x t.second ub nb ge (omega arith)) (between c k from e x t.third uc nc ge (omega arith)))) in
      let so_far = t.counted in
      let size = same_bound_same (counts_at a b c) (from + (e - from)) e (omega arith) in
      omega arith;
}

cond_small : (b : Bool) (n : ℕ) → cond b n 0 ≤ n
cond_small true n = omega arith
cond_small false n = omega arith

-- no more numbers are counted than there are
pub small : (a b c : List ℕ) (i j k from e total stretch : ℕ) → Tallied a b c i j k from total → from ≤ e
    → stretch ≡ cond (odd i && (odd j && not (odd k))) (e - from) 0 → total + stretch ≤ e
small a b c i j k from e total stretch t le s =
    let some = t.counted in
    let all = count_by-le-length (counts_at a b c) (range_with_len 0 from) in
    let size = length-range_with_len 0 from in
    let more = cond_small (odd i && (odd j && not (odd k))) (e - from) in
    omega arith

-- the next edge is one of the three sets'
pub next_here : (a b c : List ℕ) (i j k from total d e : ℕ) → Tallied a b c i j k from total → ((i < length a) × (d ≡ get_or a i 0)) ⊎ ((j < length b) × (d ≡ get_or b j 0))
    → (e ≡ d) ⊎ ((k < length c) × (e ≡ get_or c k 0)) → (from ≤ e) × ((bound : ℕ) → AllWithin bound a → AllWithin bound b → AllWithin bound c → e ≤ bound)
next_here a b c i j k from total d e t first sooner =
    let there : (from ≤ d) × ((bound : ℕ) → AllWithin bound a → AllWithin bound b → d ≤ bound) =
    ⊎_elim (λ f. ((let q = t.first.after i (omega arith) f.0 in let r = f.1 in omega arith), λ bound wa wb. let q = wa i f.0 in let r = f.1 in omega arith))
    (λ f. ((let q = t.second.after j (omega arith) f.0 in let r = f.1 in omega arith), λ bound wa wb. let q = wb j f.0 in let r = f.1 in omega arith)) first in
    ⊎_elim (λ s. ((let q = there.0 in omega arith), λ bound wa wb wc. let q = there.1 bound wa wb in omega arith))
    (λ s. ((let q = t.third.after k (omega arith) s.0 in let r = s.1 in omega arith), λ bound wa wb wc. let q = wc k s.0 in let r = s.1 in omega arith)) sooner

and_false : (b : Bool) → (b && false) ≡ false
and_false true = refl
and_false false = refl

-- past the last edge nothing is inside
done : (bound : ℕ) (es : List ℕ) (i from x : ℕ) → AreEdges bound es → Passed es i from → length es ≤ i → from ≤ x → inside es x ≡ false
done bound es i from x h p le ge =
    has_above es x (λ m lt. let q = p.before m (omega arith) in omega arith) ∙ ap (λ n. eqb n 1) h.paired

-- at the end of the first set, or of the second, all is counted
pub all_counted : (a b c : List ℕ) (i j k from total bound : ℕ) → Tallied a b c i j k from total → (length a ≤ i) ⊎ (length b ≤ j)
    → AreEdges bound a → AreEdges bound b → AreEdges bound c → total ≡ count_below bound (counts_at a b c)
all_counted a b c i j k from total bound t ends ha hb hc =
    let in_it = t.within bound ha.within hb.within hc.within in
    let more = more_below (counts_at a b c) false from (bound - from)
    (λ x ge lt. ⊎_elim
    (λ e. ap (λ p. p && (inside b x && not (inside c x))) (done bound a i from x ha t.first e ge))
    (λ e. ap (λ p. inside a x && (p && not (inside c x))) (done bound b j from x hb t.second e ge) ∙ and_false (inside a x)) ends) in
    let so_far = t.counted in
    let size = same_bound_same (counts_at a b c) (from + (bound - from)) bound (omega arith) in
    omega arith

first_edge : (e : ℕ) (es : List ℕ) (m : ℕ) → m ≡ 0 → get_or (e ∷ es) m 0 ≡ e
first_edge e es m z = ap (λ n. get_or (e ∷ es) n 0) z

pub no_edge : (es : List ℕ) (r : Bool) → r ≡ eqb (length es) 0 → IsTrue r → es ≡ []
no_edge [] r e t = refl
no_edge (d ∷ es) r e t = absurd (let no : r ≡ false = e ∙ (let p : eqb (length (d ∷ es)) 0 ≡ false = grind (arith, nat_tests) in p) in let yes : r ≡ true = t in cc)

pub edge_none : (es : List ℕ) (r : Bool) → r ≡ eqb (length es) 0 → es ≡ [] → IsTrue r
edge_none es r e none = e ∙ ap (λ z. eqb (length z) 0) none

-- no index is in the set exactly where it has no edge
pub none_inside : (bound : ℕ) (es : List ℕ) → AreEdges bound es → ((x : ℕ) → inside es x ≡ false) → es ≡ []
none_inside bound [] h none = refl
none_inside bound (e ∷ es) h none =
    let here : inside (e ∷ es) e ≡ odd 1 =
    inside_at (e ∷ es) e 1 (omega arith) (λ m lt. let q = first_edge e es m (omega arith) in omega arith)
    (λ m ge lt. h.ascends 0 m (omega arith) lt) in
    absurd (let no : inside (e ∷ es) e ≡ false = none e in let yes : inside (e ∷ es) e ≡ true = here in cc)
