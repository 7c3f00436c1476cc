-- One slab of a rising stack decides: where a test turns at some slab, and what is out of a slab under that one is out of the slab it
-- lies on, each slab is out exactly where the one before the turn is.
use Rattle.std.proofs.Common.{◌≡◌, Bool, true, false, ◌&&◌, ℕ, zero, suc, ◌+◌, ◌<◌, [], ◌∷◌, List, length, get_or, arith, refl, ap, subst, sym, ◌∙◌}
use Rattle.std.specs.List.{list_all}
use Rattle.std.proofs.lemmas.Bool.{and_from}
use Rattle.std.proofs.lemmas.List.{get_or_default}
use Rattle.bern_form.specs.Slab.{IsSlab, SlabSize}
use Rattle.cutter_slabs.specs.Rising.{IsRising, LiesOn}
use Rattle.cert_boxes.specs.SlabOrder.{SwitchesAt, SwitchesBetween, absent_slab}

-- what is below a slab is out of it, and below each higher one; what isn't below a slab and is out of it is out of the slab it lies on
pub record GoesUp (out below : SlabSize → Bool) : Type 0 where
  pub needed : (s : SlabSize) → below s ≡ true → out s ≡ true
  pub higher : (s t : SlabSize) → IsSlab s → IsSlab t → LiesOn t s → below s ≡ true → below t ≡ true
  pub carried : (s t : SlabSize) → IsSlab s → IsSlab t → LiesOn t s → below t ≡ false → out t ≡ true → out s ≡ true

only : (a b : Bool) → b ≡ true → (a && b) ≡ a
only true b q = q
only false b q = refl

absorbed : (a b : Bool) → (b ≡ true → a ≡ true) → (a && b) ≡ b
absorbed true b h = refl
absorbed false true h = let e = h refl in cc
absorbed false false h = refl

unless : (a b : Bool) → (a ≡ true → b ≡ true) → b ≡ false → a ≡ false
unless true b h e = let q = h refl in cc
unless false b h e = refl

-- above a slab that it is below it is below each
all_above : (out below : SlabSize → Bool) → GoesUp out below → (s : SlabSize) (rest : List SlabSize) → IsRising (s ∷ rest) → below s ≡ true → list_all out (s ∷ rest) ≡ true
all_above out below up s [] rises is = and_from (out s) true (up.needed s is) refl
all_above out below up s (t ∷ rest) rises is =
    and_from (out s) (list_all out (t ∷ rest)) (up.needed s is) (all_above out below up t rest rises.1.1 (up.higher s t rises.0 rises.1.1.0 rises.1.0 is))

-- under a slab that it isn't below it isn't below any, and it is out of each where it is out of that one
down : (out below : SlabSize → Bool) → GoesUp out below → (s : SlabSize) (rest : List SlabSize) (i : ℕ) → IsRising (s ∷ rest) → i < length rest
    → below (get_or rest i absent_slab) ≡ false → below s ≡ false
down out below up s [] i rises l over = absurd (omega (arith, l))
down out below up s (t ∷ rest) zero rises l over = unless (below s) (below t) (up.higher s t rises.0 rises.1.1.0 rises.1.0) over
down out below up s (t ∷ rest) (suc i) rises l over =
    unless (below s) (below t) (up.higher s t rises.0 rises.1.1.0 rises.1.0) (down out below up t rest i rises.1.1 (omega (arith, l)) over)

downwards : (out below : SlabSize → Bool) → GoesUp out below → (s : SlabSize) (rest : List SlabSize) (i : ℕ) → IsRising (s ∷ rest) → i < length rest
    → below (get_or rest i absent_slab) ≡ false → out (get_or rest i absent_slab) ≡ true → out s ≡ true
downwards out below up s [] i rises l over is = absurd (omega (arith, l))
downwards out below up s (t ∷ rest) zero rises l over is = up.carried s t rises.0 rises.1.1.0 rises.1.0 over is
downwards out below up s (t ∷ rest) (suc i) rises l over is =
    up.carried s t rises.0 rises.1.1.0 rises.1.0 (down out below up t rest i rises.1.1 (omega (arith, l)) over)
    (downwards out below up t rest i rises.1.1 (omega (arith, l)) over is)

decided : (out below : SlabSize → Bool) → GoesUp out below → (slabs : List SlabSize) (i : ℕ) → IsRising slabs → i < length slabs
    → below (get_or slabs i absent_slab) ≡ false → ((k : ℕ) → k ≡ i + 1 → k < length slabs → below (get_or slabs k absent_slab) ≡ true)
    → list_all out slabs ≡ out (get_or slabs i absent_slab)
decided out below up [] i rises l over high = absurd (omega (arith, l))
decided out below up (s ∷ []) zero rises l over high = only (out s) true refl
decided out below up (s ∷ t ∷ rest) zero rises l over high =
    only (out s) (list_all out (t ∷ rest)) (all_above out below up t rest rises.1.1 (high 1 (omega arith) (omega arith)))
decided out below up (s ∷ rest) (suc i) rises l over high =
    let shorter : i < length rest = omega (arith, l) in
    ap (λ b. out s && b) (decided out below up rest i rises.1.1 shorter over (λ k e m. high (suc k) (omega (arith, e)) (omega (arith, m))))
    ∙ absorbed (out s) (out (get_or rest i absent_slab)) (downwards out below up s rest i rises shorter over)

-- the slab that is read from a list
read_as : (slabs : List SlabSize) (i : ℕ) (x : SlabSize) → i < length slabs → x ≡ get_or slabs i x → get_or slabs i absent_slab ≡ x
read_as slabs i x l e = get_or_default slabs i absent_slab x l ∙ sym e

-- by the slab before the one at which the test turns
pub one_decides : (out below : SlabSize → Bool) → GoesUp out below → (slabs : List SlabSize) (j i : ℕ) (x : SlabSize) → IsRising slabs → SwitchesAt below slabs j → j ≡ i + 1
    → x ≡ get_or slabs i x → list_all out slabs ≡ out x
one_decides out below up slabs j i x rises turns e is =
    let within = turns.within in let l : i < length slabs = omega (arith, e, within) in
    decided out below up slabs i rises l (turns.before i e) (λ k f m. let same : j ≡ k = omega (arith, e, f) in rw (← same) (turns.after (omega (arith, same, m))))
    ∙ ap out (read_as slabs i x l is)

-- where it turns at the first slab, each is out
pub all_out : (out below : SlabSize → Bool) → GoesUp out below → (slabs : List SlabSize) (j : ℕ) → IsRising slabs → SwitchesAt below slabs j → j ≡ 0 → list_all out slabs ≡ true
all_out out below up [] j rises turns e = refl
all_out out below up (s ∷ rest) j rises turns e = all_above out below up s rest rises (rw e at (turns.after (omega (arith, e))))

-- the two steps of a search
pub turned_low : (test : SlabSize → Bool) (slabs : List SlabSize) (low high middle : ℕ) (x : SlabSize) → SwitchesBetween test slabs low high → middle < high → x ≡ get_or slabs middle x → test x ≡ true
    → SwitchesBetween test slabs low middle
turned_low test slabs low high middle x t less is met =
    let within = t.within in record {
      within = omega (arith, less, within);
      before = t.before;
      after = λ l. ap test (read_as slabs middle x l is) ∙ met;
    }

pub turned_high : (test : SlabSize → Bool) (slabs : List SlabSize) (low high middle : ℕ) (x : SlabSize) → SwitchesBetween test slabs low high → middle < high → x ≡ get_or slabs middle x
    → test x ≡ false → SwitchesBetween test slabs (middle + 1) high
turned_high test slabs low high middle x t less is over =
    let within = t.within in record {
      within = within;
      before = λ i e.
          let same : middle ≡ i = omega (arith, e) in
          subst (λ k. test (get_or slabs k absent_slab) ≡ false) same (ap test (read_as slabs middle x (omega (arith, less, within)) is) ∙ over);
      after = t.after;
    }
