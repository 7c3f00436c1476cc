-- A range is added above all that a set has.
use Rattle.std.proofs.Common.{◌≡◌, ℕ, suc, zero, ◌+◌, ◌-◌, ◌%◌, ◌<◌, ◌≤◌, List, [], ◌∷◌, ◌++◌, length, get_or, set, cond, Bool, true, false, not, ◌&&◌, ◌||◌, eqb, leb, ltb, IsTrue, arith, refl, sym, ap, ◌∙◌, subst, ◌≢◌, append_assoc, length-append, length-set, get_or-set_same, get_or-set_other}
use Rattle.std.proofs.lemmas.Bool.Decides.{nat_tests}
use native.Mathlib.Decide.{dec_le}
use mathlib.Core.Logic.{dite}
use Rattle.vf_spans.specs.Edges.{inside, flags_of, AreEdges}
use Rattle.vf_spans.specs.Members.{has}
use Rattle.vf_spans.proofs.Walk.{has_above, AllBelow, ascends_push, all_push, within_push}
use Rattle.vf_spans.proofs.Flags.{length-flags, has-flags, inside_at}

-- an edge e changes the flag from e on
abbrev pub flip : ℕ → ℕ → Bool → Bool
flip e x b = cond (leb e x) (not b) b

cond_swap : (p q b : Bool) → cond p (not (cond q (not b) b)) (cond q (not b) b) ≡ cond q (not (cond p (not b) b)) (cond p (not b) b)
cond_swap true true b = refl
cond_swap true false b = refl
cond_swap false true b = refl
cond_swap false false b = refl

flip_flip : (e d x : ℕ) (b : Bool) → flip e x (flip d x b) ≡ flip d x (flip e x b)
flip_flip e d x b = cond_swap (leb e x) (leb d x) b

pub inside-push : (es : List ℕ) (e x : ℕ) → inside (es ++ e ∷ []) x ≡ flip e x (inside es x)
inside-push [] e x = refl
inside-push (d ∷ es) e x = ap (flip d x) (inside-push es e x) ∙ flip_flip d e x (inside es x)

not_twice : (b : Bool) → not (not b) ≡ b
not_twice true = refl
not_twice false = refl

cond_twice : (p b : Bool) → cond p (not (cond p (not b) b)) (cond p (not b) b) ≡ b
cond_twice true b = not_twice b
cond_twice false b = refl

flip_twice : (e x : ℕ) (b : Bool) → flip e x (flip e x b) ≡ b
flip_twice e x b = cond_twice (leb e x) b

-- an edge that is put in the place of another
pub inside-set : (es : List ℕ) (k e x : ℕ) → k < length es → inside (set es k e) x ≡ flip e x (flip (get_or es k 0) x (inside es x))
inside-set [] k e x lt = absurd (omega arith)
inside-set (d ∷ es) zero e x lt = ap (flip e x) (sym (flip_twice d x (inside es x)))
inside-set (d ∷ es) (suc k) e x lt =
    ap (flip d x) (inside-set es k e x (omega arith)) ∙ flip_flip d e x (flip (get_or es k 0) x (inside es x))
    ∙ ap (flip e x) (flip_flip d (get_or es k 0) x (inside es x))

-- the last edge is not above a number that all held indices are below
pub last_below : (bound : ℕ) (es : List ℕ) (lo : ℕ) → AreEdges bound es → ((i : ℕ) → IsTrue (has (flags_of bound es) i) → i < lo) → 0 < length es → get_or es (length es - 1) 0 ≤ lo
last_below bound es lo h above some =
    dite (dec_le (get_or es (length es - 1) 0) lo) (λ le. le)
    (λ no.
    let last = get_or es (length es - 1) 0 in
    let two : 2 ≤ length es = let p = h.paired in omega arith in
    let before : get_or es (length es - 2) 0 < last = h.ascends (length es - 2) (length es - 1) (omega arith) (omega arith) in
    let x = last - 1 in
    let is : inside es x ≡ true =
    inside_at es x (length es - 1) (omega arith)
    (λ k lt. let q = h.ascends k (length es - 1) lt (omega arith) in omega arith)
    (λ k le lt. let same : k ≡ length es - 1 = omega arith in subst (λ (m : ℕ). x < get_or es m 0) (sym same) (omega arith))
    ∙ (let p = h.paired in let one : (length es - 1) % 2 ≡ 1 = omega arith in ap (λ n. eqb n 1) one) in
    absurd (let q = above x (subst (λ (b : Bool). IsTrue b) (sym (has-flags bound es x h ∙ is)) refl) in omega arith))

keeps : (b : Bool) → b ≡ (b || false)
keeps true = refl
keeps false = refl

-- the range from lo to hi is added where nothing from lo on was held
pub added : (lo hi x : ℕ) (b : Bool) → lo < hi → (lo ≤ x → b ≡ false) → flip hi x (flip lo x b) ≡ (b || (leb lo x && ltb x hi))
added lo hi x b lt none =
    dite (dec_le lo x)
    (λ le.
    subst (λ (t : Bool). flip hi x (flip lo x t) ≡ (t || (leb lo x && ltb x hi))) (sym (none le))
    (let here : leb lo x ≡ true = grind (arith, nat_tests) in
    dite (dec_le hi x)
    (λ past. let p : leb hi x ≡ true = grind (arith, nat_tests) in let q : ltb x hi ≡ false = grind (arith, nat_tests) in simp (here, p, q))
    (λ no. let p : leb hi x ≡ false = grind (arith, nat_tests) in let q : ltb x hi ≡ true = grind (arith, nat_tests) in simp (here, p, q))))
    (λ no.
    let p : leb lo x ≡ false = grind (arith, nat_tests) in
    let q : leb hi x ≡ false = grind (arith, nat_tests) in
    simp (p, q) (keeps b))

-- no edge is above the last
all_below : (bound : ℕ) (es : List ℕ) (top : ℕ) → AreEdges bound es → (0 < length es → get_or es (length es - 1) 0 ≤ top) → (k : ℕ) → k < length es → get_or es k 0 ≤ top
all_below bound es top h last k lt =
    let end = last (omega arith) in
    dite (dec_le (length es - 1) k)
    (λ le. let same : k ≡ length es - 1 = omega arith in subst (λ (m : ℕ). get_or es m 0 ≤ top) (sym same) end)
    (λ no. let q = h.ascends k (length es - 1) (omega arith) (omega arith) in omega arith)

none_from : (bound : ℕ) (es : List ℕ) (lo x : ℕ) → AreEdges bound es → (0 < length es → get_or es (length es - 1) 0 ≤ lo) → lo ≤ x → inside es x ≡ false
none_from bound es lo x h last le =
    has_above es x (λ k lt. let q = all_below bound es lo h last k lt in omega arith) ∙ ap (λ n. eqb n 1) h.paired

-- the edges after a range that begins above the last
pub edges_push : (bound : ℕ) (es : List ℕ) (lo hi : ℕ) → AreEdges bound es → lo < hi → hi ≤ bound → (0 < length es → get_or es (length es - 1) 0 < lo) → AreEdges bound (es ++ lo ∷ hi ∷ [])
edges_push bound es lo hi h lt le last =
    subst (λ (z : List ℕ). AreEdges bound z) (append_assoc es (lo ∷ []) (hi ∷ []))
    (let below : AllBelow lo es = λ k kl. let q = all_below bound es (lo - 1) h (λ p. let l = last p in omega arith) k kl in let l = last (omega arith) in omega arith in
    let first = ascends_push es lo h.ascends below in
    let size : length (es ++ lo ∷ []) ≡ length es + 1 = length-append es (lo ∷ []) in
    let size2 : length ((es ++ lo ∷ []) ++ hi ∷ []) ≡ length (es ++ lo ∷ []) + 1 = length-append (es ++ lo ∷ []) (hi ∷ []) in
    record {
      ascends = ascends_push (es ++ lo ∷ []) hi first (λ k kl. let q = all_push es lo below k kl in omega arith);
      within = within_push (es ++ lo ∷ []) hi bound (within_push es lo bound h.within (omega arith)) le;
      paired = let p = h.paired in omega arith;
    })

-- the edges after the last range grew
pub edges_set : (bound : ℕ) (es : List ℕ) (lo hi : ℕ) → AreEdges bound es → lo < hi → hi ≤ bound → 0 < length es → get_or es (length es - 1) 0 ≡ lo → AreEdges bound (set es (length es - 1) hi)
edges_set bound es lo hi h lt le some last =
    let size : length (set es (length es - 1) hi) ≡ length es = length-set es (length es - 1) hi in
    let end : get_or (set es (length es - 1) hi) (length es - 1) 0 ≡ hi = get_or-set_same es (length es - 1) hi 0 (omega arith) in
    record {
      ascends = λ k m km ml.
          let other : get_or (set es (length es - 1) hi) k 0 ≡ get_or es k 0 = let ne : k ≢ length es - 1 = omega arith in get_or-set_other es (length es - 1) k hi 0 ne in
          let up = h.ascends k m km (omega arith) in
          dite (dec_le (length es - 1) m)
          (λ q. let same : m ≡ length es - 1 = omega arith in
          let top : get_or es m 0 ≡ lo = ap (λ n. get_or es n 0) same ∙ last in
          let new : get_or (set es (length es - 1) hi) m 0 ≡ hi = ap (λ n. get_or (set es (length es - 1) hi) n 0) same ∙ end in omega arith)
          (λ no. let new : get_or (set es (length es - 1) hi) m 0 ≡ get_or es m 0 = let ne : m ≢ length es - 1 = omega arith in get_or-set_other es (length es - 1) m hi 0 ne in omega arith);
      within = λ k kl.
          dite (dec_le (length es - 1) k)
          (λ q. let same : k ≡ length es - 1 = omega arith in
          let new : get_or (set es (length es - 1) hi) k 0 ≡ hi = ap (λ n. get_or (set es (length es - 1) hi) n 0) same ∙ end in omega arith)
          (λ no. let new : get_or (set es (length es - 1) hi) k 0 ≡ get_or es k 0 = let ne : k ≢ length es - 1 = omega arith in get_or-set_other es (length es - 1) k hi 0 ne in
          let w = h.within k (omega arith) in omega arith);
      paired = let p = h.paired in omega arith;
    }

-- what the set has then
pub has_push : (bound : ℕ) (es : List ℕ) (v : List Bool) (lo hi : ℕ) → AreEdges bound es → flags_of bound es ≡ v → lo < hi → hi ≤ bound → (0 < length es → get_or es (length es - 1) 0 < lo)
    → (x : ℕ) → has (flags_of bound (es ++ lo ∷ hi ∷ [])) x ≡ (has v x || (leb lo x && ltb x hi))
has_push bound es v lo hi h is lt le last x =
    has-flags bound (es ++ lo ∷ hi ∷ []) x (edges_push bound es lo hi h lt le last)
    ∙ ap (λ z. inside z x) (sym (append_assoc es (lo ∷ []) (hi ∷ [])))
    ∙ inside-push (es ++ lo ∷ []) hi x ∙ ap (flip hi x) (inside-push es lo x)
    ∙ added lo hi x (inside es x) lt (none_from bound es lo x h (λ p. let q = last p in omega arith))
    ∙ ap (λ t. t || (leb lo x && ltb x hi)) (sym (has-flags bound es x h) ∙ ap (λ z. has z x) is)

pub has_set : (bound : ℕ) (es : List ℕ) (v : List Bool) (lo hi : ℕ) → AreEdges bound es → flags_of bound es ≡ v → lo < hi → hi ≤ bound → 0 < length es → get_or es (length es - 1) 0 ≡ lo
    → (x : ℕ) → has (flags_of bound (set es (length es - 1) hi)) x ≡ (has v x || (leb lo x && ltb x hi))
has_set bound es v lo hi h is lt le some last x =
    has-flags bound (set es (length es - 1) hi) x (edges_set bound es lo hi h lt le some last)
    ∙ inside-set es (length es - 1) hi x (omega arith)
    ∙ ap (λ n. flip hi x (flip n x (inside es x))) last
    ∙ added lo hi x (inside es x) lt (none_from bound es lo x h (λ p. omega arith))
    ∙ ap (λ t. t || (leb lo x && ltb x hi)) (sym (has-flags bound es x h) ∙ ap (λ z. has z x) is)

-- the last edge is below a range that does not begin there
pub last_under : (bound : ℕ) (es xs : List ℕ) (v : List Bool) (lo : ℕ) → AreEdges bound es → flags_of bound es ≡ v → ((i : ℕ) → IsTrue (has v i) → i < lo) → xs ≡ es
    → ¬ ((0 < length xs) × (get_or xs (length xs - 1) 0 ≡ lo)) → 0 < length es → get_or es (length es - 1) 0 < lo
last_under bound es xs v lo h is above same not_there some =
    let le = last_below bound es lo h (λ i t. above i (subst (λ (z : List Bool). IsTrue (has z i)) is t)) some in
    dite (dec_le lo (get_or es (length es - 1) 0))
    (λ ge. absurd (not_there (subst (λ (z : List ℕ). (0 < length z) × (get_or z (length z - 1) 0 ≡ lo)) (sym same) (some, (let q : get_or es (length es - 1) 0 ≡ lo = omega arith in q)))))
    (λ lt. omega arith)

pub last_here : (es xs : List ℕ) (lo : ℕ) → xs ≡ es → (0 < length xs) × (get_or xs (length xs - 1) 0 ≡ lo) → (0 < length es) × (get_or es (length es - 1) 0 ≡ lo)
last_here es xs lo same there = subst (λ (z : List ℕ). (0 < length z) × (get_or z (length z - 1) 0 ≡ lo)) same there

pub room : (bound hi : ℕ) (es : List ℕ) (v : List Bool) → flags_of bound es ≡ v → hi ≤ length v → hi ≤ bound
room bound hi es v is le = let q = length-flags bound es in let r = ap length is in omega arith

pub one_index : (n i : ℕ) → (leb n i && ltb i (n + 1)) ≡ eqb i n
one_index n i = grind (arith, nat_tests)
