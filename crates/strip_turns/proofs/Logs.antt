-- Counts over logs that grow.
use Rattle.std.proofs.Common.{◌≡◌, ℕ, ◌+◌, ◌≤◌, ◌≢◌, List, [], ◌∷◌, ◌++◌, Bool, cond, eqb, max, arith, refl, ap, eq-eqb, ne_eqb}
use Rattle.std.proofs.lemmas.Bool.Decides.{nat_tests}
use Rattle.strip_turns.specs.declared.view.LogEntry.{LogEntry}
use Rattle.strip_turns.specs.declared.view.LogEntry.TheVariants.{Draw, Miss, Trip}
use Rattle.strip_turns.specs.declared.view.Met.{Met}
use Rattle.strip_turns.specs.Log.{tally, drew, missed, missed_at, once_between, did, outside, strayed, logged_version, met_at}

pub tally_both : (f : LogEntry → ℕ) (xs ys : List LogEntry) → tally f (xs ++ ys) ≡ tally f xs + tally f ys
tally_both f [] ys = omega arith
tally_both f (x ∷ xs) ys = let e = tally_both f xs ys in omega arith

pub tally_more : (f : LogEntry → ℕ) (xs : List LogEntry) (y : LogEntry) → tally f (xs ++ y ∷ []) ≡ tally f xs + f y
tally_more f xs y = let e = tally_both f xs (y ∷ []) in omega arith

pub met_both : (k : ℕ) (xs ys : List Met) → met_at k (xs ++ ys) ≡ met_at k xs + met_at k ys
met_both k [] ys = omega arith
met_both k (x ∷ xs) ys = let e = met_both k xs ys in omega arith

pub met_here : (k m : ℕ) (xs : List Met) → met_at k (xs ++ record { strip = k; misses = m } ∷ []) ≡ met_at k xs + m
met_here k m xs = let e = met_both k xs (record { strip = k; misses = m } ∷ []) in let q : cond {A = ℕ} (eqb k k) m 0 ≡ m = ap (λ (b : Bool). cond {A = ℕ} b m 0) (eq-eqb k k refl) in omega arith

pub met_else : (k j m : ℕ) (xs : List Met) → j ≢ k → met_at k (xs ++ record { strip = j; misses = m } ∷ []) ≡ met_at k xs
met_else k j m xs ne = let e = met_both k xs (record { strip = j; misses = m } ∷ []) in let q : cond {A = ℕ} (eqb j k) m 0 ≡ 0 = ap (λ (b : Bool). cond {A = ℕ} b m 0) (ne_eqb j k ne) in omega arith

pub missed_le : (k : ℕ) (es : List LogEntry) → tally (missed_at k) es ≤ tally missed es
missed_le k [] = omega arith
missed_le k (Draw t ∷ es) = let e = missed_le k es in omega arith
missed_le k (Miss s ∷ es) = let e = missed_le k es in grind (arith, nat_tests)
missed_le k (Trip s from to ∷ es) = let e = missed_le k es in omega arith

outside_further : (a b c from to : ℕ) → b ≤ c → outside a c from to ≤ outside a b from to
outside_further a b c from to le = grind (arith, nat_tests)

stray_further : (k a b c : ℕ) (e : LogEntry) → b ≤ c → strayed k a c e ≤ strayed k a b e
stray_further k a b c (Draw t) le = omega arith
stray_further k a b c (Miss s) le = omega arith
stray_further k a b c (Trip s from to) le = let e = outside_further a b c from to le in grind (arith, nat_tests)

-- a trip that stays within a and b does so within a and more
pub strays_further : (k a b c : ℕ) (es : List LogEntry) → b ≤ c → tally (strayed k a c) es ≤ tally (strayed k a b) es
strays_further k a b c [] le = omega arith
strays_further k a b c (e ∷ es) le = let p = stray_further k a b c e le in let q = strays_further k a b c es le in omega arith

pub seen_both : (k v : ℕ) (xs ys : List LogEntry) → logged_version k v (xs ++ ys) ≡ logged_version k (logged_version k v xs) ys
seen_both k v [] ys = refl
seen_both k v (Draw t ∷ xs) ys = seen_both k v xs ys
seen_both k v (Miss s ∷ xs) ys = seen_both k v xs ys
seen_both k v (Trip s from to ∷ xs) ys = seen_both k (cond (eqb s k) (max v to) v) xs ys

top_within : (s k v a b from to : ℕ) → cond (eqb s k) (outside a b from to) 0 ≡ 0 → v ≤ b → cond (eqb s k) (max v to) v ≤ b
top_within s k v a b from to e le = grind (arith, nat_tests)

-- what was seen isn't past b
pub seen_within : (k v a b : ℕ) (es : List LogEntry) → tally (strayed k a b) es ≡ 0 → v ≤ b → logged_version k v es ≤ b
seen_within k v a b [] e le = le
seen_within k v a b (Draw t ∷ es) e le = seen_within k v a b es (omega arith) le
seen_within k v a b (Miss s ∷ es) e le = seen_within k v a b es (omega arith) le
seen_within k v a b (Trip s from to ∷ es) e le = seen_within k (cond (eqb s k) (max v to) v) a b es (omega arith) (top_within s k v a b from to (omega arith) le)

pub did_here : (k x from to : ℕ) → did k x (Trip k from to) ≡ once_between from to x
did_here k x from to = ap (λ (b : Bool). cond {A = ℕ} b (once_between from to x) 0) (eq-eqb k k refl)

pub did_else : (k j x from to : ℕ) → j ≢ k → did k x (Trip j from to) ≡ 0
did_else k j x from to ne = ap (λ (b : Bool). cond {A = ℕ} b (once_between from to x) 0) (ne_eqb j k ne)

pub stray_here : (k a b from to : ℕ) → a ≤ from → from ≤ to → to ≤ b → strayed k a b (Trip k from to) ≡ 0
stray_here k a b from to h i j = grind (arith, nat_tests)

pub stray_else : (k j a b from to : ℕ) → j ≢ k → strayed k a b (Trip j from to) ≡ 0
stray_else k j a b from to ne = ap (λ (c : Bool). cond {A = ℕ} c (outside a b from to) 0) (ne_eqb j k ne)

pub miss_here : (k : ℕ) → missed_at k (Miss k) ≡ 1
miss_here k = ap (λ (b : Bool). cond {A = ℕ} b 1 0) (eq-eqb k k refl)

pub miss_else : (k j : ℕ) → j ≢ k → missed_at k (Miss j) ≡ 0
miss_else k j ne = ap (λ (b : Bool). cond {A = ℕ} b 1 0) (ne_eqb j k ne)

pub between_further : (a b c x : ℕ) → a ≤ b → b ≤ c → once_between a c x ≡ once_between a b x + once_between b c x
between_further a b c x h i = grind (arith, nat_tests)

pub seen_here : (k v from to : ℕ) (xs : List LogEntry) → logged_version k v xs ≤ to → logged_version k v (xs ++ Trip k from to ∷ []) ≡ to
seen_here k v from to xs le =
    let e = seen_both k v xs (Trip k from to ∷ []) in
    let q : cond {A = ℕ} (eqb k k) (max (logged_version k v xs) to) (logged_version k v xs) ≡ max (logged_version k v xs) to = ap (λ (b : Bool). cond {A = ℕ} b (max (logged_version k v xs) to) (logged_version k v xs)) (eq-eqb k k refl) in omega arith

pub draw_here : (x : ℕ) → drew x (Draw x) ≡ 1
draw_here x = ap (λ (b : Bool). cond {A = ℕ} b 1 0) (eq-eqb x x refl)
