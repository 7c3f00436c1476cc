-- What a list of intervals covers_some, one interval after the other.
use Rattle.std.proofs.Common.{◌≡◌, ℕ, ◌+◌, ◌<◌, ◌≤◌, max, List, length, take, drop, get_or, Bool, true, false, ◌&&◌, ◌||◌, leb, ltb, IsTrue, arith, refl, sym, ap, ◌∙◌}
use Rattle.std.specs.List.{list_all}
use Rattle.std.proofs.lemmas.Bool.{and_parts, and_from, ltb-true, lt-ltb, leb-true, le-leb, lt-leb}
use Rattle.std.proofs.lemmas.List.Folds.{list_any_more, list_all-append}
use Rattle.std.proofs.lemmas.List.{take-append-drop, get_or_default}
use native.Mathlib.Decide.{dec_le}
use mathlib.Core.Logic.{dite}
use Rattle.ray_shapes.specs.declared.half_line.IndexRange.{IndexRange}
use Rattle.ray_shapes.specs.Parts.{is_in, covers_some, InOrder}

-- what all elements pass, the first of them pass
pub all_first : {X : Type 0} → (p : X → Bool) (xs : List X) (n : ℕ) → list_all p xs ≡ true → list_all p (take n xs) ≡ true
all_first p xs n h = (and_parts (list_all p (take n xs)) (list_all p (drop n xs)) (sym (list_all-append p (take n xs) (drop n xs)) ∙ ap (list_all p) (take-append-drop n xs) ∙ h)).0

pub or_false : (a : Bool) → a ≡ (a || false)
or_false true = refl
or_false false = refl

or_true : (a : Bool) → (a || true) ≡ true
or_true true = refl
or_true false = refl

-- an interval that covers only what is held adds nothing
absorbed : (held before here : Bool) → held ≡ before → (here ≡ true → held ≡ true) → held ≡ (before || here)
absorbed held before true same covered = covered refl ∙ sym (or_true before)
absorbed held before false same covered = same ∙ or_false before

-- what is covered with one more interval
covers_more : (parts : List IndexRange) (k i : ℕ) (part : IndexRange) → k < length parts → get_or parts k part ≡ part → covers_some (take (k + 1) parts) i ≡ (covers_some (take k parts) i || is_in i part)
covers_more parts k i part lt is = list_any_more (is_in i) parts k part lt ∙ ap (λ (p : IndexRange). covers_some (take k parts) i || is_in i p) is

and_second : (a : Bool) (i n : ℕ) → (a && ltb i n) ≡ true → i < n
and_second a i n h = ltb-true i n (and_parts a (ltb i n) h).1

in_parts : (i : ℕ) (part : IndexRange) → is_in i part ≡ true → (part.lo ≤ i) × (i < part.hi)
in_parts i part h = let q = and_parts (leb part.lo i) (ltb i part.hi) h in (leb-true part.lo i q.0, ltb-true i part.hi q.1)

-- a part that lies before the end of what is held, and begins after its first index, adds nothing; an empty one neither
pub nothing_new : (i from end : ℕ) (part : IndexRange) (held : Bool) → from ≤ part.lo → (from ≤ i → i < end → IsTrue held) → part.hi ≤ max part.lo end → held ≡ (held || is_in i part)
nothing_new i from end part held low full beyond =
    absorbed held held (is_in i part) refl (λ t. let q = in_parts i part t in let a = q.0 in let b = q.1 in full (omega arith) (omega arith))

pub empty_part : (i : ℕ) (part : IndexRange) (held : Bool) → part.hi ≤ part.lo → held ≡ (held || is_in i part)
empty_part i part held none = absorbed held held (is_in i part) refl (λ t. absurd (let q = in_parts i part t in let a = q.0 in let b = q.1 in omega arith))

same_test : (m n i : ℕ) → (m ≤ i → n ≤ i) → (n ≤ i → m ≤ i) → leb m i ≡ leb n i
same_test m n i p q =
    dite (dec_le m i)
    (λ le. le-leb m i le ∙ sym (le-leb n i (p le)))
    (λ no. lt-leb m i (omega arith) ∙ sym (lt-leb n i (dite (dec_le n i) (λ ge. absurd (no (q ge))) (λ lt. omega arith))))

-- of a part only what lies beyond the end of what is held has to be added
pub beyond_end : (i from end : ℕ) (part : IndexRange) (held new : Bool) → from ≤ part.lo → (from ≤ i → i < end → IsTrue held)
    → new ≡ (held || (leb (max part.lo end) i && ltb i part.hi)) → new ≡ (held || is_in i part)
beyond_end i from end part held new low full pushed =
    dite (dec_le end i)
    (λ past.
    let same : leb (max part.lo end) i ≡ leb part.lo i = same_test (max part.lo end) part.lo i (omega arith) (omega arith) in
    pushed ∙ ap (λ b. held || (b && ltb i part.hi)) same)
    (λ no.
    let none : leb (max part.lo end) i ≡ false = lt-leb (max part.lo end) i (omega arith) in
    pushed ∙ ap (λ b. held || (b && ltb i part.hi)) none ∙ sym (or_false held)
    ∙ absorbed held held (is_in i part) refl (λ t. let q = in_parts i part t in let a = q.0 in full (omega arith) (omega arith)))

-- what covers the parts so far, and then one more, covers them with that one
pub part_more : (parts : List IndexRange) (k i : ℕ) (part : IndexRange) (held next : Bool) → k < length parts → get_or parts k part ≡ part → held ≡ covers_some (take k parts) i
    → next ≡ (held || is_in i part) → next ≡ covers_some (take (k + 1) parts) i
part_more parts k i part held next lt is before added = added ∙ ap (λ b. b || is_in i part) before ∙ sym (covers_more parts k i part lt is)

-- what is held after a range was pushed
pub below_push : (held new : Bool) (i lo hi end : ℕ) → new ≡ (held || (leb lo i && ltb i hi)) → (IsTrue held → i < end) → end ≤ hi → IsTrue new → i < hi
below_push true new i lo hi end pushed below le t = let q = below refl in omega arith
below_push false new i lo hi end pushed below le t = and_second (leb lo i) i hi (sym pushed ∙ t)

both_tests : (lo i hi : ℕ) → lo ≤ i → i < hi → (leb lo i && ltb i hi) ≡ true
both_tests lo i hi le lt = and_from (leb lo i) (ltb i hi) (le-leb lo i le) (lt-ltb i hi lt)

pub full_push : (held new : Bool) (i lo hi : ℕ) → new ≡ (held || (leb lo i && ltb i hi)) → (i < lo → IsTrue held) → i < hi → IsTrue new
full_push true new i lo hi pushed full lt = pushed
full_push false new i lo hi pushed full lt =
    dite (dec_le lo i)
    (λ le. pushed ∙ both_tests lo i hi le lt)
    (λ no. let q : false ≡ true = full (omega arith) in cc)

-- the element of a place, whatever is read past the end
pub read_itself : (parts : List IndexRange) (k : ℕ) (d : IndexRange) → k < length parts → get_or parts k (get_or parts k d) ≡ get_or parts k d
read_itself parts k d lt = get_or_default parts k (get_or parts k d) d lt

pub later : (parts : List IndexRange) (k m : ℕ) (d e : IndexRange) → InOrder parts → k ≤ m → m < length parts → (get_or parts k d).lo ≤ (get_or parts m e).lo
later parts k m d e order le lt =
    let up = order k m e le lt in
    let same = ap (λ (p : IndexRange). p.lo) (get_or_default parts k d e (omega arith)) in
    omega arith
