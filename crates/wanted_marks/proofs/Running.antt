-- What is between two places that slabs of a rising stack hold, and no wider than the lower one, is held: slabs touch, and none
-- is narrower than one below it.
use Rattle.std.proofs.Common.{◌≡◌, Bool, true, ◌&&◌, ℕ, zero, suc, ◌+◌, ◌-◌, ◌*◌, ◌≤◌, ◌<◌, ◌⊎◌, List, [], ◌∷◌, length, get_or, ℤ, pos, negsuc, ◌*ℤ◌, ◌≤ℤ◌, ◌<ℤ◌, int_le, inl, inr, arith, refl, ⊎_elim, subst, sym}
use Rattle.std.proofs.lemmas.Bool.{and_parts, cases_lt}
use Rattle.std.proofs.lemmas.Int.{ints}
use Rattle.std.proofs.Math.Nat.{mul-le-mul}
use Rattle.space.proofs.Tests.{decides_le}
use Rattle.bern_form.specs.Cells.{scaled_square}
use Rattle.bern_form.specs.Slab.{IsSlab, SlabSize}
use Rattle.cutter_slabs.specs.Rising.{IsRising, LiesOn}
use Rattle.box_bisect.specs.SlabTests.{no_slab, some_covers}
use Rattle.width_bisect.specs.Bounds.{bounds_of, meets, no_bounds}
use Rattle.width_bisect.specs.declared.bounds.Bounds.{Bounds}
use Rattle.width_bisect.proofs.Bounding.{none_meets, slab_holds}
use Rattle.wanted_marks.specs.Nears.{AreBoundsIn}
use Rattle.wanted_marks.proofs.Amid.{IsAmid, amid_turned}
use Rattle.wanted_marks.proofs.Exceeding.{less_or_not}
use Rattle.wanted_marks.proofs.Widest.{square_more}

abbrev pub nth : List SlabSize → ℕ → SlabSize
nth slabs i = get_or slabs i no_slab

-- the slabs of a rising stack
lies_on : (slabs : List SlabSize) (i : ℕ) → IsRising slabs → suc i < length slabs → LiesOn (nth slabs (suc i)) (nth slabs i)
lies_on [] i r l = absurd (omega (arith, l))
lies_on (s ∷ []) i r l = absurd (omega (arith, l))
lies_on (s ∷ t ∷ rest) zero r l = r.1.0
lies_on (s ∷ t ∷ rest) (suc i) r l = lies_on (t ∷ rest) i r.1.1 (omega (arith, l))

pub slab_in : (slabs : List SlabSize) (i : ℕ) → IsRising slabs → i < length slabs → IsSlab (nth slabs i)
slab_in [] i r l = absurd (omega (arith, l))
slab_in (s ∷ rest) zero r l = r.0
slab_in (s ∷ rest) (suc i) r l = slab_in rest i r.1.1 (omega (arith, l))

-- a slab k above another begins and ends no lower, and is no narrower
pub record IsAbove (upper lower : SlabSize) : Type 0 where
  pub low : lower.lo ≤ℤ upper.lo
  pub high : lower.hi ≤ℤ upper.hi
  pub wider : lower.dia ≤ℤ upper.dia

above_itself : (s : SlabSize) → IsAbove s s
above_itself s = record { low = omega (arith, ints); high = omega (arith, ints); wider = omega (arith, ints) }

above_next : (s t u : SlabSize) → LiesOn t s → IsSlab t → IsAbove u t → IsAbove u s
above_next s t u on valid h =
    let a = on.touches in let b = on.higher in let c = on.wider in let d = valid.ordered in let e = h.low in let f = h.high in let g = h.wider in
    record { low = omega (arith, ints, b, e); high = omega (arith, ints, a, d, f); wider = omega (arith, ints, c, g) }

pub above : (slabs : List SlabSize) (i k j : ℕ) → IsRising slabs → j ≡ k + i → j < length slabs → IsAbove (nth slabs j) (nth slabs i)
above slabs i zero j r e l = let same : j ≡ i = omega (arith, e) in subst (λ x. IsAbove (nth slabs x) (nth slabs i)) (sym same) (above_itself (nth slabs i))
above slabs i (suc k) j r e l =
    let within : suc i < length slabs = omega (arith, e, l) in
    above_next (nth slabs i) (nth slabs (suc i)) (nth slabs j) (lies_on slabs i r within) (slab_in slabs (suc i) r within) (above slabs (suc i) k j r (omega (arith, e)) l)

-- squares of lengths times n
pub weighed : (S : ℕ) (a b n : ℤ) → pos 0 ≤ℤ n → pos 0 ≤ℤ a → a ≤ℤ b → (scaled_square S a *ℤ n) ≤ℤ (scaled_square S b *ℤ n)
weighed S a b (pos q) t h k =
    let s = square_more S a b h k in let l : s.0 * q ≤ s.1 * q = mul-le-mul s.2 (omega arith) in
    let plain : (pos s.0 *ℤ pos q) ≤ℤ (pos s.1 *ℤ pos q) = omega (arith, ints, l) in
    subst (λ z. (z *ℤ pos q) ≤ℤ (scaled_square S b *ℤ pos q)) (sym s.3) (subst (λ z. (pos s.0 *ℤ pos q) ≤ℤ (z *ℤ pos q)) (sym s.4) plain)
weighed S a b (negsuc q) t h k = absurd (omega (arith, ints, t))

three : (a b c : Bool) → a ≡ true → b ≡ true → c ≡ true → ((a && b) && c) ≡ true
three a b c p q r = cc

at_most_then : (a b c : ℤ) → a ≤ℤ b → b ≤ℤ c → a ≤ℤ c
at_most_then a b c h k = omega (arith, ints, h, k)

less_then : (a b : ℤ) → a <ℤ b → a ≤ℤ b
less_then a b h = omega (arith, ints, h)

-- a place that meets the bounds of one slab
covered_by : (S : ℕ) (n : ℤ) (slabs : List SlabSize) (u w : ℤ) (i : ℕ) → i < length slabs → pos 0 ≤ℤ u
    → (scaled_square S (nth slabs i).lo *ℤ n) ≤ℤ (u *ℤ u) → (u *ℤ u) ≤ℤ (scaled_square S (nth slabs i).hi *ℤ n) → (pos 4 *ℤ w) ≤ℤ (scaled_square S (nth slabs i).dia *ℤ n)
    → some_covers (pos S) u n w slabs ≡ true
covered_by S n slabs u w i l ahead low high narrow =
    let s = nth slabs i in
    (slab_holds S n slabs i l).held u w ahead
    (three (int_le (scaled_square S s.lo *ℤ n) (u *ℤ u)) (int_le (u *ℤ u) (scaled_square S s.hi *ℤ n)) (int_le (pos 4 *ℤ w) (scaled_square S s.dia *ℤ n))
    ((decides_le (scaled_square S s.lo *ℤ n) (u *ℤ u)).1 low) ((decides_le (u *ℤ u) (scaled_square S s.hi *ℤ n)).1 high) ((decides_le (pos 4 *ℤ w) (scaled_square S s.dia *ℤ n)).1 narrow))

-- a place between the beginning of one slab and the end of another, no wider than the lower one
covered : (S : ℕ) (n : ℤ) (slabs : List SlabSize) (u w : ℤ) (i k j : ℕ) → IsRising slabs → pos 0 ≤ℤ n → j ≡ k + i → j < length slabs → pos 0 ≤ℤ u
    → (scaled_square S (nth slabs i).lo *ℤ n) ≤ℤ (u *ℤ u) → (u *ℤ u) ≤ℤ (scaled_square S (nth slabs j).hi *ℤ n) → (pos 4 *ℤ w) ≤ℤ (scaled_square S (nth slabs i).dia *ℤ n)
    → some_covers (pos S) u n w slabs ≡ true
covered S n slabs u w i zero j r t e l ahead low high narrow =
    let same : j ≡ i = omega (arith, e) in
    covered_by S n slabs u w i (omega (arith, l, same)) ahead low (subst (λ x. (u *ℤ u) ≤ℤ (scaled_square S (nth slabs x).hi *ℤ n)) same high) narrow
covered S n slabs u w i (suc k) j r t e l ahead low high narrow =
    let s = nth slabs i in let next = nth slabs (suc i) in let top = scaled_square S s.hi *ℤ n in
    let within : suc i < length slabs = omega (arith, e, l) in let on = lies_on slabs i r within in
    let valid = slab_in slabs i r (omega (arith, within)) in
    ⊎_elim
    (λ (past : top <ℤ (u *ℤ u)).
    covered S n slabs u w (suc i) k j r t (omega (arith, e)) l ahead
    (subst (λ z. (scaled_square S z *ℤ n) ≤ℤ (u *ℤ u)) (sym on.touches) (less_then top (u *ℤ u) past)) high
    (at_most_then (pos 4 *ℤ w) (scaled_square S s.dia *ℤ n) (scaled_square S next.dia *ℤ n) narrow (weighed S s.dia next.dia n t valid.thick on.wider)))
    (λ (under : (u *ℤ u) ≤ℤ top). covered_by S n slabs u w i (omega (arith, within)) ahead low under narrow) (less_or_not top (u *ℤ u))

-- bounds that are met
pub record IsMet (b : Bounds) (u width : ℤ) : Type 0 where
  pub low : b.low ≤ℤ (u *ℤ u)
  pub high : (u *ℤ u) ≤ℤ b.high
  pub narrow : width ≤ℤ b.width

pub is_met : (b : Bounds) (u width : ℤ) → meets b u width ≡ true → IsMet b u width
is_met b u width met =
    let x = u *ℤ u in let both = and_parts (int_le b.low x && int_le x b.high) (int_le width b.width) met in
    let ends = and_parts (int_le b.low x) (int_le x b.high) both.0 in
    record { low = (decides_le b.low x).0 ends.0; high = (decides_le x b.high).0 ends.1; narrow = (decides_le width b.width).0 both.1 }

run_up : (S : ℕ) (n : ℤ) (slabs : List SlabSize) (u1 W1 u2 W2 u w : ℤ) (i k j : ℕ) → IsRising slabs → pos 0 ≤ℤ n → j ≡ k + i → j < length slabs
    → IsMet (bounds_of S n (nth slabs i)) u1 W1 → IsMet (bounds_of S n (nth slabs j)) u2 W2 → W2 ≤ℤ (scaled_square S (nth slabs i).dia *ℤ n) → IsAmid u1 W1 u2 W2 u (pos 4 *ℤ w)
    → some_covers (pos S) u n w slabs ≡ true
run_up S n slabs u1 W1 u2 W2 u w i k j r t e l first last less amid =
    let s = nth slabs i in let t2 = nth slabs j in let valid = slab_in slabs i r (omega (arith, e, l)) in let up = above slabs i k j r e l in
    let bottom = λ (z : SlabSize). scaled_square S z.lo *ℤ n in let top = λ (z : SlabSize). scaled_square S z.hi *ℤ n in
    covered S n slabs u w i k j r t e l amid.ahead
    (amid.low (bottom s) first.low (at_most_then (bottom s) (bottom t2) (u2 *ℤ u2) (weighed S s.lo t2.lo n t valid.above_tip up.low) last.low))
    (amid.high (top t2) (at_most_then (u1 *ℤ u1) (top s) (top t2) first.high (weighed S s.hi t2.hi n t (at_most_then (pos 0) s.lo s.hi valid.above_tip valid.ordered) up.high)) last.high)
    (amid.narrow (scaled_square S s.dia *ℤ n) first.narrow less)

abbrev IsEither : Bounds → ℕ → ℤ → List SlabSize → Type 0
IsEither b S n slabs = (b ≡ no_bounds) ⊎ ((i : ℕ) × (i < length slabs) × (b ≡ bounds_of S n (nth slabs i)))

not_nowhere : (b : Bounds) (S : ℕ) (n u w : ℤ) → b ≡ no_bounds → pos 0 ≤ℤ u → meets b u (pos 4 *ℤ w) ≡ true → ⊥
not_nowhere b S n u w e ahead met =
    let none = (none_meets S n []).held u w ahead (subst (λ z. meets z u (pos 4 *ℤ w) ≡ true) e met) in cc

-- between two places that meet bounds, each no wider than both
run_held_by : (b c : Bounds) (S : ℕ) (n : ℤ) (slabs : List SlabSize) (u1 w1 u2 w2 u w : ℤ) → IsRising slabs → pos 0 ≤ℤ n → IsEither b S n slabs → IsEither c S n slabs
    → pos 0 ≤ℤ u1 → pos 0 ≤ℤ u2 → meets b u1 (pos 4 *ℤ w1) ≡ true → meets c u2 (pos 4 *ℤ w2) ≡ true → (pos 4 *ℤ w1) ≤ℤ c.width → (pos 4 *ℤ w2) ≤ℤ b.width
    → IsAmid u1 (pos 4 *ℤ w1) u2 (pos 4 *ℤ w2) u (pos 4 *ℤ w) → some_covers (pos S) u n w slabs ≡ true
run_held_by b c S n slabs u1 w1 u2 w2 u w r t (inl e) q f g met met2 less more amid = absurd (not_nowhere b S n u1 w1 e f met)
run_held_by b c S n slabs u1 w1 u2 w2 u w r t (inr p) (inl e) f g met met2 less more amid = absurd (not_nowhere c S n u2 w2 e g met2)
run_held_by b c S n slabs u1 w1 u2 w2 u w r t (inr p) (inr q) f g met met2 less more amid =
    let i = p.0 in let j = q.0 in
    let first = is_met (bounds_of S n (nth slabs i)) u1 (pos 4 *ℤ w1) (subst (λ z. meets z u1 (pos 4 *ℤ w1) ≡ true) p.2 met) in
    let last = is_met (bounds_of S n (nth slabs j)) u2 (pos 4 *ℤ w2) (subst (λ z. meets z u2 (pos 4 *ℤ w2) ≡ true) q.2 met2) in
    ⊎_elim
    (λ (h : j < i).
    run_up S n slabs u2 (pos 4 *ℤ w2) u1 (pos 4 *ℤ w1) u w j (i - j) i r t (omega (arith, h)) p.1 last first (subst (λ (z : Bounds). (pos 4 *ℤ w1) ≤ℤ z.width) q.2 less)
    (amid_turned u1 (pos 4 *ℤ w1) u2 (pos 4 *ℤ w2) u (pos 4 *ℤ w) amid))
    (λ (h : i ≤ j).
    run_up S n slabs u1 (pos 4 *ℤ w1) u2 (pos 4 *ℤ w2) u w i (j - i) j r t (omega (arith, h)) q.1 first last (subst (λ (z : Bounds). (pos 4 *ℤ w2) ≤ℤ z.width) p.2 more) amid)
    (cases_lt j i)

pub run_held : (b c : Bounds) (S : ℕ) (n : ℤ) (slabs : List SlabSize) (u1 w1 u2 w2 u w : ℤ) → IsRising slabs → pos 0 ≤ℤ n → AreBoundsIn b S n slabs → AreBoundsIn c S n slabs
    → pos 0 ≤ℤ u1 → pos 0 ≤ℤ u2 → meets b u1 (pos 4 *ℤ w1) ≡ true → meets c u2 (pos 4 *ℤ w2) ≡ true → (pos 4 *ℤ w1) ≤ℤ c.width → (pos 4 *ℤ w2) ≤ℤ b.width
    → IsAmid u1 (pos 4 *ℤ w1) u2 (pos 4 *ℤ w2) u (pos 4 *ℤ w) → some_covers (pos S) u n w slabs ≡ true
run_held b c S n slabs u1 w1 u2 w2 u w r t bs cs f g met met2 less more amid = run_held_by b c S n slabs u1 w1 u2 w2 u w r t bs.either cs.either f g met met2 less more amid

-- the bounds that a sample gives for the slab below a number
pub bounds_are : (b : Bounds) (S : ℕ) (n : ℤ) (slabs : List SlabSize) (reached : ℕ) → reached ≤ length slabs → (reached ≡ 0 → b ≡ no_bounds)
    → ((i : ℕ) → reached ≡ i + 1 → b ≡ bounds_of S n (nth slabs i)) → AreBoundsIn b S n slabs
bounds_are b S n slabs zero l none slab = record { either = inl (none refl) }
bounds_are b S n slabs (suc i) l none slab = record { either = inr (i, omega (arith, l), slab i (omega arith)) }

-- a single place that meets them
one_held_by : (b : Bounds) (S : ℕ) (n : ℤ) (slabs : List SlabSize) (u w : ℤ) → IsEither b S n slabs → pos 0 ≤ℤ u → meets b u (pos 4 *ℤ w) ≡ true → some_covers (pos S) u n w slabs ≡ true
one_held_by b S n slabs u w (inl e) ahead met = absurd (not_nowhere b S n u w e ahead met)
one_held_by b S n slabs u w (inr p) ahead met = (slab_holds S n slabs p.0 p.1).held u w ahead (subst (λ z. meets z u (pos 4 *ℤ w) ≡ true) p.2 met)

pub one_held : (b : Bounds) (S : ℕ) (n : ℤ) (slabs : List SlabSize) (u w : ℤ) → AreBoundsIn b S n slabs → pos 0 ≤ℤ u → meets b u (pos 4 *ℤ w) ≡ true → some_covers (pos S) u n w slabs ≡ true
one_held b S n slabs u w are ahead met = one_held_by b S n slabs u w are.either ahead met
