-- The slabs between neighbours of the bounds: the step of a loop, what each of them is, and which of them holds a height.
use Rattle.std.proofs.Common.{◌≡◌, ℕ, zero, suc, ◌+◌, ◌*◌, ◌≤◌, ◌<◌, List, [], ◌∷◌, ◌++◌, if◌then◌else◌, nat_lt, int_lt, pos, map, length, arith, refl, ap, sym, Bool, true, false, cond, subst, ◌∙◌, zero-add, add-one, ⊎_elim}
use Rattle.std.specs.List.{All, Contains, filter, range_with_len}
use Rattle.std.proofs.Math.Nat.{mul-le-mul, mul-le-mul_left, mul-le-mul_right}
use Rattle.std.proofs.lemmas.Bool.{cases_lt, cond-true, cond_both, lt-ltb, ltb-true}
use Rattle.std.proofs.lemmas.List.Elements.{All-cons, All-nil, All-filter, Contains-append_left, Contains-push}
use Rattle.std.proofs.lemmas.List.FromFn.{filter_of_map_range_with_len_more}
use Rattle.bern_form.specs.Slab.{SlabSize}
use Rattle.cutter_slabs.specs.Stacks.{has_height, slab_of, slabs_between}

-- the slabs between the bounds z with the diameters dia
abbrev pub slabs_by : (ℕ → ℕ → ℕ) → (ℕ → ℕ) → ℕ → List SlabSize
slabs_by dia z n = slabs_between (λ lo hi. slab_of lo hi (dia lo hi)) z n

-- one bound more
pub slabs_more : (dia : ℕ → ℕ → ℕ) (z : ℕ → ℕ) (n : ℕ)
    → slabs_by dia z (n + 1) ≡ slabs_by dia z n ++ (if nat_lt (z n) (z (n + 1)) then slab_of (z n) (z (n + 1)) (dia (z n) (z (n + 1))) ∷ [] else [])
slabs_more dia z n = filter_of_map_range_with_len_more has_height (λ j. slab_of (z j) (z (j + 1)) (dia (z j) (z (j + 1)))) 0 n n (zero-add n)

-- a stack that has got the slab to one bound more
pub slabs_grown : (dia : ℕ → ℕ → ℕ) (z : ℕ → ℕ) (n lo hi d : ℕ) (old new : List SlabSize) → lo ≡ z n → hi ≡ z (n + 1) → d ≡ dia lo hi → old ≡ slabs_by dia z n
    → new ≡ old ++ (if nat_lt lo hi then slab_of lo hi d ∷ [] else []) → new ≡ slabs_by dia z (n + 1)
slabs_grown dia z n lo hi d old new e f g h k =
    let more = slabs_more dia z n in
    let last : d ≡ dia (z n) (z (n + 1)) = g ∙ ap (λ x. dia x hi) e ∙ ap (λ x. dia (z n) x) f in
    k ∙ ap (λ l. l ++ (if nat_lt lo hi then slab_of lo hi d ∷ [] else [])) h ∙ ap (λ x. slabs_by dia z n ++ (if nat_lt x hi then slab_of x hi d ∷ [] else [])) e
    ∙ ap (λ x. slabs_by dia z n ++ (if nat_lt (z n) x then slab_of (z n) x d ∷ [] else [])) f
    ∙ ap (λ x. slabs_by dia z n ++ (if nat_lt (z n) (z (n + 1)) then slab_of (z n) (z (n + 1)) x ∷ [] else [])) last ∙ sym more

-- what is true of each slab between two neighbours is true of each in the list
each_from : (P : SlabSize → Type 0) (slab : ℕ → SlabSize) (a n : ℕ) → ((j : ℕ) → a ≤ j → j < a + n → P (slab j)) → All P (map slab (range_with_len a n))
each_from P slab a zero each = All-nil P
each_from P slab a (suc n) each =
    All-cons P (slab a) (map slab (range_with_len (a + 1) n)) (each a (omega arith) (omega arith)) (each_from P slab (a + 1) n (λ j l g. each j (omega arith) (omega arith)))

-- between bounds that don't rise there are none
pub no_slabs : (z w : ℕ → ℕ) (a n : ℕ) → ((j : ℕ) → z (j + 1) ≤ z j)
    → filter has_height (map (λ j. slab_of (z j) (z (j + 1)) (w j)) (range_with_len a n)) ≡ []
no_slabs z w a zero level = refl
no_slabs z w a (suc n) level =
    let rest = no_slabs z w (a + 1) n level in
    let slabs : List SlabSize = filter has_height (map (λ j. slab_of (z j) (z (j + 1)) (w j)) (range_with_len (a + 1) n)) in
    let here = level a in
    cond_both (int_lt (pos (z a)) (pos (z (a + 1)))) (slab_of (z a) (z (a + 1)) (w a) ∷ slabs) slabs (λ l. l ≡ [])
    (λ up. let k = ltb-true (z a) (z (a + 1)) up in absurd (omega (arith, here, k)))
    (λ flat. rest)

pub each_slab : (P : SlabSize → Type 0) (dia : ℕ → ℕ → ℕ) (z : ℕ → ℕ) (n : ℕ) → ((j : ℕ) → j < n → P (slab_of (z j) (z (j + 1)) (dia (z j) (z (j + 1))))) → All P (slabs_by dia z n)
each_slab P dia z n each =
    let slab : ℕ → SlabSize = λ j. slab_of (z j) (z (j + 1)) (dia (z j) (z (j + 1))) in
    All-filter has_height P (map slab (range_with_len 0 n)) (each_from P slab 0 n (λ j l g. each j (omega arith)))

-- a slab between two neighbours that differ is in the list
pub among_slabs : (dia : ℕ → ℕ → ℕ) (z : ℕ → ℕ) (n j : ℕ) → j < n → z j < z (j + 1) → Contains (slabs_by dia z n) (slab_of (z j) (z (j + 1)) (dia (z j) (z (j + 1))))
among_slabs dia z zero j l up = absurd (omega arith)
among_slabs dia z (suc n) j l up =
    let s = slab_of (z j) (z (j + 1)) (dia (z j) (z (j + 1))) in
    let last = if nat_lt (z n) (z (n + 1)) then slab_of (z n) (z (n + 1)) (dia (z n) (z (n + 1))) ∷ [] else [] in
    subst (λ k. Contains (slabs_by dia z k) s) (add-one n)
    (subst (λ l. Contains l s) (sym (slabs_more dia z n))
    (⊎_elim (λ before. Contains-append_left (slabs_by dia z n) last s (among_slabs dia z n j before up))
    (λ at_last.
    let e : n ≡ j = omega arith in
    subst (λ k. Contains (slabs_by dia z n ++ (if nat_lt (z k) (z (k + 1)) then slab_of (z k) (z (k + 1)) (dia (z k) (z (k + 1))) ∷ [] else [])) s) (sym e)
    (subst (λ l. Contains (slabs_by dia z n ++ l) s) (sym (cond-true (nat_lt (z j) (z (j + 1))) (s ∷ []) [] (lt-ltb (z j) (z (j + 1)) up))) (Contains-push (slabs_by dia z n) s)))
    (cases_lt j n)))

longer : (b : Bool) (s t : SlabSize) (x y : List SlabSize) → length x ≡ length y → length (cond b (s ∷ x) x) ≡ length (cond b (t ∷ y) y)
longer true s t x y e = ap suc e
longer false s t x y e = e

-- between the same bounds there are equally many slabs
as_many_from : (f g : ℕ → ℕ → ℕ) (z : ℕ → ℕ) (a n : ℕ)
    → length (filter has_height (map (λ j. slab_of (z j) (z (j + 1)) (f (z j) (z (j + 1)))) (range_with_len a n)))
    ≡ length (filter has_height (map (λ j. slab_of (z j) (z (j + 1)) (g (z j) (z (j + 1)))) (range_with_len a n)))
as_many_from f g z a zero = refl
as_many_from f g z a (suc n) =
    let rest = as_many_from f g z (a + 1) n in
    let x : List SlabSize = filter has_height (map (λ j. slab_of (z j) (z (j + 1)) (f (z j) (z (j + 1)))) (range_with_len (a + 1) n)) in
    let y : List SlabSize = filter has_height (map (λ j. slab_of (z j) (z (j + 1)) (g (z j) (z (j + 1)))) (range_with_len (a + 1) n)) in
    let s = slab_of (z a) (z (a + 1)) (f (z a) (z (a + 1))) in let t = slab_of (z a) (z (a + 1)) (g (z a) (z (a + 1))) in
    longer (int_lt (pos (z a)) (pos (z (a + 1)))) s t x y rest

pub as_many_slabs : (f g : ℕ → ℕ → ℕ) (z : ℕ → ℕ) (n : ℕ) → length (slabs_by f z n) ≡ length (slabs_by g z n)
as_many_slabs f g z n = as_many_from f g z 0 n

-- two neighbours between which the height u / sqrt(N) lies, the bounds taken times b
pub record Between (z : ℕ → ℕ) (n b u N : ℕ) : Type 0 where
  pub at : ℕ
  pub within : at < n
  pub apart : z at < z (at + 1)
  pub above : ((b * z at) * (b * z at)) * N ≤ u * u
  pub below : u * u ≤ ((b * z (at + 1)) * (b * z (at + 1))) * N

later : (z : ℕ → ℕ) (n b u N : ℕ) → Between z n b u N → Between z (suc n) b u N
later z n b u N f = let within = f.within in record { at = f.at; within = omega arith; apart = f.apart; above = f.above; below = f.below }

pub above_tip : (x b u N : ℕ) → u * u < ((b * x) * (b * x)) * N → 0 < x
above_tip zero b u N h = absurd (omega arith)
above_tip (suc x) b u N h = omega arith

-- from the tip to the last bound there are such neighbours
pub between : (z : ℕ → ℕ) (n b u N : ℕ) → z 0 ≡ 0 → 0 < z n → u * u ≤ ((b * z n) * (b * z n)) * N → Between z n b u N
between z zero b u N first some h = absurd (omega arith)
between z (suc n) b u N first some h =
    let some' : 0 < z (n + 1) = subst (λ k. 0 < z k) (sym (add-one n)) some in
    let h' : u * u ≤ ((b * z (n + 1)) * (b * z (n + 1))) * N = subst (λ k. u * u ≤ ((b * z k) * (b * z k)) * N) (sym (add-one n)) h in
    ⊎_elim
    (λ up. ⊎_elim
    (λ l. later z n b u N (between z n b u N first (above_tip (z n) b u N l) (omega arith)))
    (λ g. record { at = n; within = omega arith; apart = up; above = g; below = h' })
    (cases_lt (u * u) (((b * z n) * (b * z n)) * N)))
    (λ down.
    let k = mul-le-mul_left b down in let m = mul-le-mul_right N (mul-le-mul k k) in
    later z n b u N (between z n b u N first (omega arith) (omega arith)))
    (cases_lt (z n) (z (n + 1)))
