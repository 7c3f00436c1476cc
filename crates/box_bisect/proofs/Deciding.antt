-- One slab of a rising stack decides: where a test holds up to some slab and no further, and what is kept is kept by each next slab up to
-- there, some slab is kept exactly where that one is.
use Rattle.std.proofs.Common.{◌≡◌, Bool, true, false, ◌||◌, ℕ, zero, suc, ◌+◌, ◌<◌, [], ◌∷◌, List, length, get_or, arith, refl, ap, subst, sym, ◌∙◌}
use Rattle.std.specs.List.{list_any}
use Rattle.std.proofs.lemmas.List.{get_or_default}
use Rattle.bern_form.specs.Slab.{IsSlab, SlabSize}
use Rattle.cutter_slabs.specs.Rising.{IsRising, LiesOn}
use Rattle.box_bisect.specs.SlabTests.{TurnsAt, TurnsBetween, no_slab}

-- what is kept is reached, what lies below a slab that is reached is too, and so what is kept is kept upwards
pub record GoesUp (kept reached : SlabSize → Bool) : Type 0 where
  pub needed : (s : SlabSize) → reached s ≡ false → kept s ≡ false
  pub lower : (s t : SlabSize) → IsSlab s → IsSlab t → LiesOn t s → reached t ≡ true → reached s ≡ true
  pub carried : (s t : SlabSize) → IsSlab s → IsSlab t → LiesOn t s → reached t ≡ true → kept s ≡ true → kept t ≡ true

neither : (a b : Bool) → a ≡ false → b ≡ false → (a || b) ≡ false
neither a b p q = cc

only : (a b : Bool) → b ≡ false → (a || b) ≡ a
only true b q = refl
only false b q = q

absorbed : (a b : Bool) → (a ≡ true → b ≡ true) → (a || b) ≡ b
absorbed true b h = let e = h refl in cc
absorbed false b h = refl

unless : (a b : Bool) → (a ≡ true → b ≡ true) → b ≡ false → a ≡ false
unless true b h e = let q = h refl in cc
unless false b h e = refl

-- above a slab that isn't reached none is kept
none_above : (kept reached : SlabSize → Bool) → GoesUp kept reached → (s : SlabSize) (rest : List SlabSize) → IsRising (s ∷ rest) → reached s ≡ false → list_any kept (s ∷ rest) ≡ false
none_above kept reached up s [] rises out = neither (kept s) false (up.needed s out) refl
none_above kept reached up s (t ∷ rest) rises out =
    let above = unless (reached t) (reached s) (up.lower s t rises.0 rises.1.1.0 rises.1.0) out in
    neither (kept s) (list_any kept (t ∷ rest)) (up.needed s out) (none_above kept reached up t rest rises.1.1 above)

-- below a slab that is reached each is, and what is kept is kept by that one
down : (kept reached : SlabSize → Bool) → GoesUp kept reached → (s : SlabSize) (rest : List SlabSize) (i : ℕ) → IsRising (s ∷ rest) → i < length rest
    → reached (get_or rest i no_slab) ≡ true → reached s ≡ true
down kept reached up s [] i rises l met = absurd (omega (arith, l))
down kept reached up s (t ∷ rest) zero rises l met = up.lower s t rises.0 rises.1.1.0 rises.1.0 met
down kept reached up s (t ∷ rest) (suc i) rises l met = up.lower s t rises.0 rises.1.1.0 rises.1.0 (down kept reached up t rest i rises.1.1 (omega (arith, l)) met)

upwards : (kept reached : SlabSize → Bool) → GoesUp kept reached → (s : SlabSize) (rest : List SlabSize) (i : ℕ) → IsRising (s ∷ rest) → i < length rest
    → reached (get_or rest i no_slab) ≡ true → kept s ≡ true → kept (get_or rest i no_slab) ≡ true
upwards kept reached up s [] i rises l met is = absurd (omega (arith, l))
upwards kept reached up s (t ∷ rest) zero rises l met is = up.carried s t rises.0 rises.1.1.0 rises.1.0 met is
upwards kept reached up s (t ∷ rest) (suc i) rises l met is =
    let first = down kept reached up t rest i rises.1.1 (omega (arith, l)) met in
    upwards kept reached up t rest i rises.1.1 (omega (arith, l)) met (up.carried s t rises.0 rises.1.1.0 rises.1.0 first is)

decided : (kept reached : SlabSize → Bool) → GoesUp kept reached → (slabs : List SlabSize) (i : ℕ) → IsRising slabs → i < length slabs
    → reached (get_or slabs i no_slab) ≡ true → ((k : ℕ) → k ≡ i + 1 → k < length slabs → reached (get_or slabs k no_slab) ≡ false)
    → list_any kept slabs ≡ kept (get_or slabs i no_slab)
decided kept reached up [] i rises l met out = absurd (omega (arith, l))
decided kept reached up (s ∷ []) zero rises l met out = only (kept s) false refl
decided kept reached up (s ∷ t ∷ rest) zero rises l met out =
    only (kept s) (list_any kept (t ∷ rest)) (none_above kept reached up t rest rises.1.1 (out 1 (omega arith) (omega arith)))
decided kept reached up (s ∷ rest) (suc i) rises l met out =
    let shorter : i < length rest = omega (arith, l) in
    ap (λ b. kept s || b) (decided kept reached up rest i rises.1.1 shorter met (λ k e m. out (suc k) (omega (arith, e)) (omega (arith, m))))
    ∙ absorbed (kept s) (kept (get_or rest i no_slab)) (upwards kept reached up s rest i rises shorter met)

-- the slab that is read from a list
read_as : (slabs : List SlabSize) (i : ℕ) (x : SlabSize) → i < length slabs → x ≡ get_or slabs i x → get_or slabs i no_slab ≡ x
read_as slabs i x l e = get_or_default slabs i no_slab x l ∙ sym e

-- by the slab before the one at which the test turns
pub one_decides : (kept reached : SlabSize → Bool) → GoesUp kept reached → (slabs : List SlabSize) (j i : ℕ) (x : SlabSize) → IsRising slabs → TurnsAt reached slabs j → j ≡ i + 1
    → x ≡ get_or slabs i x → list_any kept slabs ≡ kept x
one_decides kept reached up slabs j i x rises first_unreached e is =
    let within = first_unreached.within in let l : i < length slabs = omega (arith, e, within) in
    decided kept reached up slabs i rises l (first_unreached.before i e) (λ k f m. let same : j ≡ k = omega (arith, e, f) in rw (← same) (first_unreached.after (omega (arith, same, m))))
    ∙ ap kept (read_as slabs i x l is)

-- which passes the test
pub one_reached : (test : SlabSize → Bool) (slabs : List SlabSize) (j i : ℕ) (x : SlabSize) → TurnsAt test slabs j → j ≡ i + 1 → x ≡ get_or slabs i x → test x ≡ true
one_reached test slabs j i x first_unreached e is = let within = first_unreached.within in ap test (sym (read_as slabs i x (omega (arith, e, within)) is)) ∙ first_unreached.before i e

-- where it turns at the first slab, none is kept
pub none_reached : (kept reached : SlabSize → Bool) → GoesUp kept reached → (slabs : List SlabSize) (j : ℕ) → IsRising slabs → TurnsAt reached slabs j → j ≡ 0 → list_any kept slabs ≡ false
none_reached kept reached up [] j rises first_unreached e = refl
none_reached kept reached up (s ∷ rest) j rises first_unreached e =
    none_above kept reached up s rest rises (rw e at (first_unreached.after (omega (arith, e))))

-- the two steps of a search
pub turned_up : (test : SlabSize → Bool) (slabs : List SlabSize) (low high middle : ℕ) (x : SlabSize) → TurnsBetween test slabs low high → middle < high → x ≡ get_or slabs middle x → test x ≡ true
    → TurnsBetween test slabs (middle + 1) high
turned_up test slabs low high middle x t less is met =
    let within = t.within in record {
      within = within;
      before = λ i e.
          let same : middle ≡ i = omega (arith, e) in
          subst (λ k. test (get_or slabs k no_slab) ≡ true) same (ap test (read_as slabs middle x (omega (arith, less, within)) is) ∙ met);
      after = t.after;
    }

pub turned_down : (test : SlabSize → Bool) (slabs : List SlabSize) (low high middle : ℕ) (x : SlabSize) → TurnsBetween test slabs low high → middle < high → x ≡ get_or slabs middle x
    → test x ≡ false → TurnsBetween test slabs low middle
turned_down test slabs low high middle x t less is out =
    let within = t.within in record {
      within = omega (arith, less, within);
      before = t.before;
      after = λ l. ap test (read_as slabs middle x l is) ∙ out;
    }
