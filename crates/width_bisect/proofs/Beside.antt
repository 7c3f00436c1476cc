-- Where the point is beside a slab it is beside those below it, so all are excluded where it is below those above.
use Rattle.std.proofs.Common.{◌≡◌, Bool, true, false, not, ◌||◌, ℕ, zero, suc, ◌+◌, ◌≤◌, ◌<◌, [], ◌∷◌, List, length, get_or, ℤ, pos, negsuc, ◌*ℤ◌, ◌<ℤ◌, ◌≤ℤ◌, ◌-◌, arith, refl, ap, subst, sym, ◌∙◌, ⊎_elim}
use Rattle.std.proofs.Math.Nat.{mul-le-mul, mul-le-mul_left, mul-le-mul_right}
use Rattle.std.proofs.lemmas.Bool.{cases_Bool, cases_lt}
use Rattle.std.proofs.lemmas.Int.{ints}
use Rattle.std.proofs.lemmas.List.{get_or_default, get_or_past}
use Rattle.space.specs.Vectors.{at}
use Rattle.space.proofs.Naturals.{square_not_negative}
use Rattle.bern_form.specs.Cells.{scaled_square}
use Rattle.bern_form.specs.Forms.{all_positive, difference4, scaled4}
use Rattle.bern_form.specs.Slab.{SlabSize}
use Rattle.bern_form.proofs.Decided.{decides_positive}
use Rattle.cutter_slabs.specs.Rising.{IsRising}
use Rattle.box_bisect.specs.SlabTests.{TurnsAt, TurnsBetween, is_below_by, is_excluded_by, is_unexcluded_by, no_slab}
use Rattle.box_bisect.proofs.Deciding.{none_reached, one_decides}
use Rattle.box_bisect.proofs.Leaving.{cell_goes_up}
use Rattle.box_bisect.proofs.Raised.{all_over, less_or_not, not_over}

-- a limit rises with its length, and its products with it
square_rises : (S : ℕ) (x y : ℤ) → pos 0 ≤ℤ x → x ≤ℤ y → scaled_square S x ≤ℤ scaled_square S y
square_rises S (pos x) (pos y) h k =
    let l : x ≤ y = omega (arith, ints, k) in let m = mul-le-mul_left S l in let e = mul-le-mul m m in omega (arith, ints, e)
square_rises S (pos x) (negsuc y) h k = absurd (omega (arith, ints, k))
square_rises S (negsuc x) y h k = absurd (omega (arith, ints, h))

product_rises : (f g r : ℤ) → pos 0 ≤ℤ f → f ≤ℤ g → pos 0 ≤ℤ r → (f *ℤ r) ≤ℤ (g *ℤ r)
product_rises (pos f) (pos g) (pos r) h k l = let m : f ≤ g = omega (arith, ints, k) in let e = mul-le-mul_right r m in omega (arith, ints, e)
product_rises (pos f) (negsuc g) r h k l = absurd (omega (arith, ints, k))
product_rises (negsuc f) g r h k l = absurd (omega (arith, ints, h))
product_rises (pos f) (pos g) (negsuc r) h k l = absurd (omega (arith, ints, l))

not_negative : (r : List ℤ) (k : ℕ) → all_positive r ≡ true → pos 0 ≤ℤ at r k
not_negative r k above =
    ⊎_elim (λ l. let e = (decides_positive r).0 above k (pos 0) l in omega (arith, ints, e)) (λ l. let e : at r k ≡ pos 0 = get_or_past r k (pos 0) l in omega (arith, ints, e)) (cases_lt k (length r))

both_ways : (b : Bool) → b ≡ true → b ≡ false → ⊥
both_ways b e f = cc

each_over : (c r : List ℤ) (f : ℤ) → all_positive (difference4 c (scaled4 f r)) ≡ true → (k : ℕ) → k < 5 → (f *ℤ at r k) <ℤ at c k
each_over c r f over k l = ⊎_elim (λ more. more) (λ out. absurd (both_ways _ over (not_over c r f k l out))) (less_or_not (f *ℤ at r k) (at c k))

up_to_less : (a b c : ℤ) → a ≤ℤ b → b <ℤ c → a <ℤ c
up_to_less a b c h k = omega (arith, ints)

still_beside : (S : ℕ) (c r : List ℤ) (x y : ℤ) → all_positive r ≡ true → pos 0 ≤ℤ x → x ≤ℤ y
    → all_positive (difference4 c (scaled4 (scaled_square S y) r)) ≡ true → all_positive (difference4 c (scaled4 (scaled_square S x) r)) ≡ true
still_beside S c r x y above h k over =
    let f = scaled_square S x in let g = scaled_square S y in
    all_over c r f (λ i l. up_to_less (f *ℤ at r i) (g *ℤ at r i) (at c i)
    (product_rises f g (at r i) (square_not_negative (pos S *ℤ x)) (square_rises S x y h k) (not_negative r i above)) (each_over c r g over i l))

-- each slab is no wider than any above it
record IsNarrow (most : ℤ) (s : SlabSize) : Type 0 where
  pub thick : pos 0 ≤ℤ s.dia
  pub narrow : s.dia ≤ℤ most

narrow_above : (s : SlabSize) (rest : List SlabSize) (j : ℕ) → IsRising (s ∷ rest) → j < length (s ∷ rest) → IsNarrow (get_or (s ∷ rest) j no_slab).dia s
narrow_above s rest zero rises l = record { thick = rises.0.thick; narrow = omega (arith, ints) }
narrow_above s [] (suc j) rises l = absurd (omega (arith, l))
narrow_above s (t ∷ rest) (suc j) rises l =
    let later = narrow_above t rest j rises.1.1 (omega (arith, l)) in let step = rises.1.0.wider in let more = later.narrow in
    record { thick = rises.0.thick; narrow = omega (arith, ints, step, more) }

narrow_below : (slabs : List SlabSize) (j i : ℕ) → IsRising slabs → j < length slabs → i ≤ j → IsNarrow (get_or slabs j no_slab).dia (get_or slabs i no_slab)
narrow_below [] j i rises l h = absurd (omega (arith, l))
narrow_below (s ∷ rest) j zero rises l h = narrow_above s rest j rises l
narrow_below (s ∷ rest) zero (suc i) rises l h = absurd (omega (arith, h))
narrow_below (s ∷ rest) (suc j) (suc i) rises l h = narrow_below rest j i rises.1.1 (omega (arith, l)) (omega (arith, h))

-- where the test turns, at or below a slab that fails it
record TurnsBelow (test : SlabSize → Bool) (slabs : List SlabSize) (high : ℕ) : Type 0 where
  pub number : ℕ
  pub at_most : number ≤ high
  pub turns : TurnsAt test slabs number

turn_below : (test : SlabSize → Bool) (slabs : List SlabSize) (high : ℕ) → TurnsBetween test slabs 0 high → TurnsBelow test slabs high
turn_below test slabs zero t = record { number = 0; at_most = omega arith; turns = t }
turn_below test slabs (suc h) t =
    let within = t.within in
    ⊎_elim
    (λ (met : test (get_or slabs h no_slab) ≡ true). record {
      number = suc h;
      at_most = omega arith;
      turns = record { within = within; before = λ i e. let same : h ≡ i = omega (arith, e) in subst (λ k. test (get_or slabs k no_slab) ≡ true) same met; after = t.after };
    })
    (λ (out : test (get_or slabs h no_slab) ≡ false).
    let lower = turn_below test slabs h record { within = omega (arith, within); before = t.before; after = λ l. out } in let most = lower.at_most in
    record { number = lower.number; at_most = omega (arith, most); turns = lower.turns })
    (cases_Bool (test (get_or slabs h no_slab)))

beside_out : (x h w : Bool) → w ≡ true → not (false || (x || (h || w))) ≡ false
beside_out true h w e = refl
beside_out false true w e = refl
beside_out false false w e = ap not e

pub none_beside : (S : ℕ) (raised height width : List ℤ) (slabs : List SlabSize) (high h : ℕ) (x : SlabSize) → high ≡ h + 1 → x ≡ get_or slabs h x → IsRising slabs → all_positive raised ≡ true
    → all_positive (difference4 width (scaled4 (scaled_square S x.dia) raised)) ≡ true → TurnsBetween (λ s. not (is_below_by S raised height s)) slabs 0 high
    → is_unexcluded_by S false raised height width slabs ≡ false
none_beside S raised height width slabs high h x eh is rising above beside turns =
    let reached = λ (s : SlabSize). not (is_below_by S raised height s) in let kept = λ (s : SlabSize). not (is_excluded_by S false raised height width s) in
    let up = cell_goes_up S false raised height width above in
    let low = turn_below reached slabs high turns in let most = low.at_most in let within = turns.within in
    let top : get_or slabs h no_slab ≡ x = get_or_default slabs h no_slab x (omega (arith, eh, within)) ∙ sym is in
    ⊎_elim
    (λ (some : 0 < low.number).
    let i = low.number - 1 in let e : low.number ≡ i + 1 = omega (arith, some) in let s = get_or slabs i no_slab in
    let l : i < length slabs = omega (arith, most, eh, within, some) in
    let narrow = subst (λ (z : SlabSize). IsNarrow z.dia s) top (narrow_below slabs h i rising (omega (arith, eh, within)) (omega (arith, most, eh, some))) in
    one_decides kept reached up slabs low.number i s rising low.turns e (get_or_default slabs i no_slab s l)
    ∙ beside_out (is_below_by S raised height s) _ _ (still_beside S width raised s.dia x.dia above narrow.thick narrow.narrow beside))
    (λ (none : low.number ≤ 0). none_reached kept reached up slabs low.number rising low.turns (omega (arith, none)))
    (cases_lt 0 low.number)

pub none_at_all : (S : ℕ) (raised height width : List ℤ) (slabs : List SlabSize) (high : ℕ) → high ≡ 0 → IsRising slabs → all_positive raised ≡ true
    → TurnsBetween (λ s. not (is_below_by S raised height s)) slabs 0 high → is_unexcluded_by S false raised height width slabs ≡ false
none_at_all S raised height width slabs high e rising above turns =
    let reached = λ (s : SlabSize). not (is_below_by S raised height s) in let kept = λ (s : SlabSize). not (is_excluded_by S false raised height width s) in
    none_reached kept reached (cell_goes_up S false raised height width above) slabs high rising (subst (λ k. TurnsBetween reached slabs k high) (sym e) turns) e
