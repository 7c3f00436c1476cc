-- The stacks of a cutter rise: their bounds do, and its profile with them.
use Rattle.std.proofs.Common.{◌≡◌, ℕ, zero, suc, ◌+◌, ◌*◌, ◌-◌, ◌/◌, ◌≤◌, ◌<◌, ◌≤ℤ◌, List, [], ◌∷◌, ◌++◌, int_lt, pos, map, arith, refl, sym, subst, append-nil, ⊎_elim}
use Rattle.std.specs.List.{filter, range_with_len}
use Rattle.std.proofs.Math.Nat.{div-mul-le_self, mul-le-mul, mul-le-mul_left, mul-le-mul_right}
use Rattle.std.proofs.lemmas.Bool.{cond_both, ltb-true, ltb-false}
use Rattle.std.proofs.lemmas.Int.{ints}
use Rattle.std.proofs.lemmas.Nat.{le-div, mul-lt}
use Rattle.space.specs.Flanks.{least_widening, lower_tangent, most_widening}
use Rattle.bern_form.specs.Roots.{ceil_root, floor_root}
use Rattle.bern_form.specs.Slab.{SlabSize}
use Rattle.bern_form.proofs.Roots.{ceil_root-least, ceil_root-reaches, floor_root-greatest, floor_root-within, root_le}
use Rattle.cutter_slabs.specs.Cutter.{CutterSize, IsCutter, flat_of, top_diameter}
use Rattle.cutter_slabs.specs.Rising.{IsRising}
use Rattle.cutter_slabs.specs.Stacks.{bound_of, has_height, inner_stack, level_of, outer_stack, slab_of, top_slab}
use Rattle.cutter_slabs.proofs.Bounds.{bound_of-last, bound_of-none, bound_of-within, level_of-within}
use Rattle.cutter_slabs.proofs.Inner.{gain_core, square_within}
use Rattle.cutter_slabs.proofs.Slabs.{no_slabs}
use Rattle.cutter_slabs.proofs.Widening.{least_most, most_rises}

-- slabs that begin at the height z, where there are any, and are at least d wide
abbrev Begins : ℕ → ℕ → List SlabSize → Type 0
Begins z d [] = Unit
Begins z d (s ∷ rest) = (s.lo ≡ pos z) × (pos d ≤ℤ s.dia)

narrower : (y z d e : ℕ) (rest : List SlabSize) → y ≡ z → d ≤ e → Begins z e rest → Begins y d rest
narrower y z d e [] same less b = tt
narrower y z d e (s ∷ rest) same less b = let low = b.0 in let wide = b.1 in (omega (arith, ints, low), omega (arith, ints, wide))

-- a slab below them
laid : (lo hi dia : ℕ) (rest : List SlabSize) → lo < hi → hi ≤ 300000 → dia ≤ 200000 → IsRising rest → Begins hi dia rest → IsRising (slab_of lo hi dia ∷ rest)
laid lo hi dia [] up high wide r b =
    (record { above_tip = omega (arith, ints); ordered = omega (arith, ints); height = omega (arith, ints); thick = omega (arith, ints); width = omega (arith, ints) }, (tt, tt))
laid lo hi dia (t ∷ rest) up high wide r b =
    let low = b.0 in (
      record { above_tip = omega (arith, ints); ordered = omega (arith, ints); height = omega (arith, ints); thick = omega (arith, ints); width = omega (arith, ints) },
      (record { touches = b.0; higher = omega (arith, ints, low); wider = b.1 }, r),
    )

-- the bounds z and the diameters w of the first n slabs rise
record Rises (z w : ℕ → ℕ) (n top : ℕ) : Type 0 where
  bounds : (j : ℕ) → j < n → z j ≤ z (j + 1)
  high : (j : ℕ) → j < n → z (j + 1) ≤ 300000
  widths : (j k : ℕ) → j ≤ k → k < n → w j ≤ w k
  within : (j : ℕ) → j < n → w j ≤ top
  wide : top ≤ 200000

abbrev slabs_from : (ℕ → ℕ) → (ℕ → ℕ) → ℕ → ℕ → List SlabSize
slabs_from z w a n = filter has_height (map (λ j. slab_of (z j) (z (j + 1)) (w j)) (range_with_len a n))

-- with slabs on top of them
stacked : (z w : ℕ → ℕ) (end top : ℕ) (tail : List SlabSize) → Rises z w end top → IsRising tail → Begins (z end) top tail → (a n : ℕ) → a + n ≡ end
    → IsRising (slabs_from z w a n ++ tail) × ((d : ℕ) → ((j : ℕ) → a ≤ j → j < end → d ≤ w j) → d ≤ top → Begins (z a) d (slabs_from z w a n ++ tail))
stacked z w end top tail rises r b a zero e =
    let same : a ≡ end = omega (arith, e) in
    (r, λ d low most. subst (λ k. Begins (z k) d tail) (sym same) (narrower (z end) (z end) d top tail refl most b))
stacked z w end top tail rises r b a (suc n) e =
    let rest = stacked z w end top tail rises r b (a + 1) n (omega (arith, e)) in
    let here : a < end = omega (arith, e) in
    let bound = rises.bounds a here in
    let most = rises.within a here in
    let wide = rises.wide in
    let slabs = slabs_from z w (a + 1) n in
    cond_both (int_lt (pos (z a)) (pos (z (a + 1)))) (slab_of (z a) (z (a + 1)) (w a) ∷ slabs) slabs
    (λ l. IsRising (l ++ tail) × ((d : ℕ) → ((j : ℕ) → a ≤ j → j < end → d ≤ w j) → d ≤ top → Begins (z a) d (l ++ tail)))
    (λ up. (
      laid (z a) (z (a + 1)) (w a) (slabs ++ tail) (ltb-true (z a) (z (a + 1)) up) (rises.high a here) (omega arith) rest.0
          (rest.1 (w a) (λ j l g. rises.widths a j (omega arith) g) most),
      λ d low t. (refl, let k = low a (omega arith) here in omega (arith, ints, k)),
    ))
    (λ flat. (
      rest.0,
      λ d low t.
          let k = ltb-false (z a) (z (a + 1)) flat in
          narrower (z a) (z (a + 1)) d d (slabs ++ tail) (omega (arith, bound, k)) (omega arith) (rest.1 d (λ j l g. low j (omega arith) g) t),
    ))

rising_with : (z w : ℕ → ℕ) (n top : ℕ) (tail : List SlabSize) → Rises z w n top → IsRising tail → Begins (z n) top tail → IsRising (slabs_from z w 0 n ++ tail)
rising_with z w n top tail rises r b = (stacked z w n top tail rises r b 0 n (omega arith)).0

-- the bounds rise
quotient_rises : (x y k : ℕ) → 0 < k → x ≤ y → x / k ≤ y / k
quotient_rises x y k some h = let a = div-mul-le_self x k in le-div (x / k) y k some (omega arith)

bound_rises : (r n j k : ℕ) → 0 < n → j ≤ k → bound_of r n j ≤ bound_of r n k
bound_rises r n j k some h = quotient_rises (r * (j * j)) (r * (k * k)) (n * n) (mul-lt 0 0 n n some some) (mul-le-mul_left r (mul-le-mul h h))

level_rises : (h n j k : ℕ) → 0 < n → j ≤ k → level_of h n j ≤ level_of h n k
level_rises h n j k some l = quotient_rises (h * j) (h * k) n some (mul-le-mul_left h l)

-- the corner's profile rises up to its radius
square_rises : (r x y : ℕ) → x ≤ y → y ≤ r → 2 * r * x - x * x ≤ 2 * r * y - y * y
square_rises r x y h k =
    let xx = mul-le-mul_right x h in let xr : x ≤ r = omega arith in let xs = mul-le-mul_right x xr in let ys = mul-le-mul_right y k in
    let y' : x + (y - x) ≡ y = omega arith in
    let r' : x + (y - x) + (r - y) ≡ r = omega arith in
    let core = gain_core x (y - x) (r - y) (2 * r * x - x * x) (2 * r * y - y * y) in
    core (subst (λ q. 2 * r * x - x * x + x * x ≤ 2 * x * q) (sym r') (omega arith))
    (subst (λ q. 2 * r * y - y * y + q * q ≡ 2 * q * (x + (y - x) + (r - y))) (sym y') (subst (λ q. 2 * r * y - y * y + y * y ≡ 2 * y * q) (sym r') (omega arith)))

square_small : (r x : ℕ) → x ≤ r → 2 * r * x - x * x ≤ r * r
square_small r x h = let xs = mul-le-mul_right x h in square_within r x (2 * r * x - x * x) h (omega arith)

floor_rises : (m n : ℕ) → m ≤ n → floor_root m ≤ floor_root n
floor_rises m n h = let k = floor_root-within m in floor_root-greatest n (floor_root m) (omega arith)

ceil_rises : (m n : ℕ) → m ≤ n → ceil_root m ≤ ceil_root n
ceil_rises m n h = let k = ceil_root-reaches n in ceil_root-least m (ceil_root n) (omega arith)

floor_small : (r m : ℕ) → m ≤ r * r → floor_root m ≤ r
floor_small r m h = let k = floor_root-within m in root_le (floor_root m) r (omega arith)

-- under an upright flank
corner_rises : (c : CutterSize) (n : ℕ) (w : ℕ → ℕ) → IsCutter c → 0 < n → ((j k : ℕ) → j ≤ k → k < n → w j ≤ w k) → ((j : ℕ) → j < n → w j ≤ c.r)
    → Rises (bound_of c.r n) (λ j. flat_of c + 2 * w j) n c.d
corner_rises c n w valid some widths within =
    let rounded = valid.rounded in let height = valid.height in let corner = valid.corner in record {
      bounds = λ j l. bound_rises c.r n j (j + 1) some (omega arith);
      high = λ j l. let k = bound_of-within c.r n (j + 1) some (omega arith) in omega arith;
      widths = λ j k l g. let e = widths j k l g in omega arith;
      within = λ j l. let e = within j l in omega arith;
      wide = valid.width;
    }

inner_corner : (c : CutterSize) (n : ℕ) → IsCutter c → 0 < n → Rises (bound_of c.r n) (λ j. flat_of c + 2 * floor_root (2 * c.r * bound_of c.r n j - bound_of c.r n j * bound_of c.r n j)) n c.d
inner_corner c n valid some =
    let z = bound_of c.r n in let r = c.r in
    corner_rises c n (λ j. floor_root (2 * r * z j - z j * z j)) valid some
    (λ j k l g. floor_rises _ _ (square_rises r (z j) (z k) (bound_rises r n j k some l) (bound_of-within r n k some (omega arith))))
    (λ j l. floor_small r _ (square_small r (z j) (bound_of-within r n j some (omega arith))))

outer_corner : (c : CutterSize) (n : ℕ) → IsCutter c → 0 < n
    → Rises (bound_of c.r n) (λ j. flat_of c + 2 * ceil_root (2 * c.r * bound_of c.r n (j + 1) - bound_of c.r n (j + 1) * bound_of c.r n (j + 1))) n c.d
outer_corner c n valid some =
    let z = bound_of c.r n in let r = c.r in
    corner_rises c n (λ j. ceil_root (2 * r * z (j + 1) - z (j + 1) * z (j + 1))) valid some
    (λ j k l g. ceil_rises _ _ (square_rises r (z (j + 1)) (z (k + 1)) (bound_rises r n (j + 1) (k + 1) some (omega arith)) (bound_of-within r n (k + 1) some (omega arith))))
    (λ j l. ceil_root-least _ r (square_small r (z (j + 1)) (bound_of-within r n (j + 1) some (omega arith))))

-- the slab above the corner
pub top_ordered : (c : CutterSize) → IsCutter c → c.r + c.base ≤ c.h
top_ordered c valid =
    let rounded = valid.rounded in let hollow = valid.hollow in
    ⊎_elim (λ tip. omega (arith, rounded, tip)) (λ flat. let r = flat.0 in omega (arith, hollow, r)) valid.plain

top_alone : (c : CutterSize) → IsCutter c → IsRising (top_slab c ∷ [])
top_alone c valid =
    let ordered = top_ordered c valid in let height = valid.height in let width = valid.width in
    (record { above_tip = omega (arith, ints); ordered = omega (arith, ints); height = omega (arith, ints); thick = omega (arith, ints); width = omega (arith, ints) }, (tt, tt))

with_top : (c : CutterSize) (n : ℕ) (w : ℕ → ℕ) → IsCutter c → 0 < n → Rises (bound_of c.r n) w n c.d → IsRising (slabs_from (bound_of c.r n) w 0 n ++ top_slab c ∷ [])
with_top c n w valid some rises =
    let z = bound_of c.r n in
    ⊎_elim
    (λ tip.
    rising_with z w n c.d (top_slab c ∷ []) rises (top_alone c valid)
    (let last = bound_of-last c.r n some in (omega (arith, ints, last, tip), omega (arith, ints))))
    (λ flat.
    subst (λ l. IsRising (l ++ top_slab c ∷ []))
    (sym (no_slabs z w 0 n (λ j. let e = bound_of-none c.r n (j + 1) flat.0 some in omega (arith, e)))) (top_alone c valid))
    valid.plain

-- under a leaning flank
least_rises : (degrees x y : ℕ) → x ≤ y → least_widening degrees x ≤ least_widening degrees y
least_rises degrees x y h = quotient_rises (x * lower_tangent degrees) (y * lower_tangent degrees) 1000000 (omega arith) (mul-le-mul_right (lower_tangent degrees) h)

cone_rises : (c : CutterSize) (n : ℕ) (w : ℕ → ℕ) → IsCutter c → 0 < n → ((j k : ℕ) → j ≤ k → k < n → w j ≤ w k) → ((j : ℕ) → j < n → w j ≤ most_widening c.flank c.h)
    → Rises (level_of c.h n) (λ j. c.d + 2 * w j) n (top_diameter c)
cone_rises c n w valid some widths within =
    let height = valid.height in record {
      bounds = λ j l. level_rises c.h n j (j + 1) some (omega arith);
      high = λ j l. let k = level_of-within c.h n (j + 1) (omega arith) in omega arith;
      widths = λ j k l g. let e = widths j k l g in omega arith;
      within = λ j l. let e = within j l in omega arith;
      wide = valid.top;
    }

inner_cone : (c : CutterSize) (n : ℕ) → IsCutter c → 0 < n → Rises (level_of c.h n) (λ j. c.d + 2 * least_widening c.flank (level_of c.h n j)) n (top_diameter c)
inner_cone c n valid some =
    let z = level_of c.h n in
    cone_rises c n (λ j. least_widening c.flank (z j)) valid some (λ j k l g. least_rises c.flank (z j) (z k) (level_rises c.h n j k some l))
    (λ j l.
    let a = least_most c.flank (z j) in let b = most_rises c.flank (z j) c.h (level_of-within c.h n j (omega arith)) in
    omega (arith, a, b))

outer_cone : (c : CutterSize) (n : ℕ) → IsCutter c → 0 < n → Rises (level_of c.h n) (λ j. c.d + 2 * most_widening c.flank (level_of c.h n (j + 1))) n (top_diameter c)
outer_cone c n valid some =
    let z = level_of c.h n in
    cone_rises c n (λ j. most_widening c.flank (z (j + 1))) valid some
    (λ j k l g. most_rises c.flank (z (j + 1)) (z (k + 1)) (level_rises c.h n (j + 1) (k + 1) some (omega arith)))
    (λ j l. most_rises c.flank (z (j + 1)) c.h (level_of-within c.h n (j + 1) (omega arith)))

alone : (z w : ℕ → ℕ) (n top : ℕ) → Rises z w n top → IsRising (slabs_from z w 0 n)
alone z w n top rises = subst IsRising (append-nil (slabs_from z w 0 n)) (rising_with z w n top [] rises tt tt)

pub inner_rises : (c : CutterSize) (n : ℕ) → IsCutter c → 0 < n → IsRising (inner_stack c n)
inner_rises c n valid some = cond_both _ _ _ IsRising (λ _. with_top c n _ valid some (inner_corner c n valid some)) (λ _. alone (level_of c.h n) _ n (top_diameter c) (inner_cone c n valid some))

pub outer_rises : (c : CutterSize) (n : ℕ) → IsCutter c → 0 < n → IsRising (outer_stack c n)
outer_rises c n valid some = cond_both _ _ _ IsRising (λ _. with_top c n _ valid some (outer_corner c n valid some)) (λ _. alone (level_of c.h n) _ n (top_diameter c) (outer_cone c n valid some))
