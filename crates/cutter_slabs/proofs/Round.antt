-- The stacks under an upright flank: each place of an inner slab is in the cutter, and each place of the cutter in an outer slab.
use Rattle.std.proofs.Common.{◌≡◌, ℕ, ◌+◌, ◌*◌, ◌-◌, ◌≤◌, ◌<◌, List, [], ◌∷◌, ◌++◌, pos, arith, ap, sym, subst, ⊎_elim}
use Rattle.std.specs.List.{All}
use Rattle.std.proofs.Math.Nat.{mul-le-mul, mul-le-mul_left, mul-le-mul_right}
use Rattle.std.proofs.lemmas.Bool.{cases_lt}
use Rattle.std.proofs.lemmas.List.Elements.{All-nil, All-push, Contains-append_left, Contains-push}
use Rattle.bern_form.specs.Roots.{ceil_root, floor_root}
use Rattle.bern_form.specs.Slab.{SlabSize}
use Rattle.bern_form.proofs.Relations.{Covers}
use Rattle.bern_form.proofs.Roots.{floor_root-within, root_le}
use Rattle.cutter_slabs.specs.Cutter.{CutterSize, IsCutter, flat_of}
use Rattle.cutter_slabs.specs.Stacks.{bound_of, inner_slab, outer_slab, slab_of, slabs_between, top_slab}
use Rattle.cutter_slabs.proofs.Bounds.{bound_of-first, bound_of-last, bound_of-none, bound_of-within}
use Rattle.cutter_slabs.proofs.Corners.{InCutter, InSlab}
use Rattle.cutter_slabs.proofs.Inner.{slab_inside, square_within}
use Rattle.cutter_slabs.proofs.Outer.{slab_holds}
use Rattle.cutter_slabs.proofs.Places.{Found, covers_down, covers_up}
use Rattle.cutter_slabs.proofs.Slabs.{above_tip, among_slabs, between, each_slab, no_slabs}

-- the stacks of a cutter with an upright flank
abbrev pub round_inner : CutterSize → ℕ → List SlabSize
round_inner c n = slabs_between (inner_slab c) (bound_of c.r n) n ++ top_slab c ∷ []

abbrev pub round_outer : CutterSize → ℕ → List SlabSize
round_outer c n = slabs_between (outer_slab c) (bound_of c.r n) n ++ top_slab c ∷ []

-- the cutter, its lengths taken times b, holds the place
abbrev pub InRound : CutterSize → ℕ → ℕ → ℕ → ℕ → Type 0
InRound c b u N W = InCutter (b * c.r) (b * flat_of c) (b * c.h) u N W

pub full : (c : CutterSize) (b : ℕ) → IsCutter c → b * c.d ≡ b * flat_of c + 2 * (b * c.r)
full c b valid = let corner = valid.corner in let e : c.d ≡ flat_of c + 2 * c.r = omega arith in let m = ap (λ k. b * k) e in omega arith

inner_slab_inside : (c : CutterSize) (b a z u N W : ℕ) → a ≤ c.r → z ≤ c.h → InSlab (b * a) (b * z) (b * (flat_of c + 2 * floor_root (2 * c.r * a - a * a))) u N W
    → InRound c b u N W
inner_slab_inside c b a z u N W l k inside =
    let r = c.r in let E = flat_of c in let h = c.h in
    let s = floor_root (2 * r * a - a * a) in
    let root = floor_root-within (2 * r * a - a * a) in
    let aa = mul-le-mul_right a l in
    let fits : s * s + a * a ≤ 2 * r * a = omega arith in
    let within : s ≤ r = root_le s r (square_within r a (s * s) l fits) in
    let wide : b * (E + 2 * s) ≡ b * E + 2 * (b * s) = omega arith in
    let scaled = mul-le-mul_left (b * b) fits in
    slab_inside (b * r) (b * E) (b * h) (b * a) (b * z) (b * s) u N W (omega arith) (mul-le-mul_left b within) (mul-le-mul_left b k)
    (subst (λ d. InSlab (b * a) (b * z) d u N W) wide inside)

-- a slab that begins lower holds it too
from_lower : (b lo more hi d u N W : ℕ) → InSlab (b * (lo + more)) hi d u N W → InSlab (b * lo) hi d u N W
from_lower b lo more hi d u N W inside =
    let less : b * lo ≤ b * (lo + more) = omega arith in
    let low = mul-le-mul_right N (mul-le-mul less less) in
    record { above = omega (arith, low, inside.above); below = inside.below; near = inside.near }

top_slab_inside : (c : CutterSize) (b u N W : ℕ) → IsCutter c → InSlab (b * (c.r + c.base)) (b * c.h) (b * c.d) u N W → InRound c b u N W
top_slab_inside c b u N W valid inside =
    slab_inside (b * c.r) (b * flat_of c) (b * c.h) (b * c.r) (b * c.h) (b * c.r) u N W (omega arith) (omega arith) (omega arith)
    (subst (λ d. InSlab (b * c.r) (b * c.h) d u N W) (full c b valid) (from_lower b c.r c.base (b * c.h) (b * c.d) u N W inside))

-- a place that a slab of the inner stack covers is in the cutter
pub round_inside : (c : CutterSize) (b n u N W : ℕ) → IsCutter c → 0 < n → All (λ s. Covers s (pos b) (pos u) (pos N) (pos W) → InRound c b u N W) (round_inner c n)
round_inside c b n u N W valid some =
    let z = bound_of c.r n in
    let rounded = valid.rounded in
    All-push (λ s. Covers s (pos b) (pos u) (pos N) (pos W) → InRound c b u N W) (slabs_between (inner_slab c) z n) (top_slab c)
    (each_slab (λ s. Covers s (pos b) (pos u) (pos N) (pos W) → InRound c b u N W) (λ lo hi. flat_of c + 2 * floor_root (2 * c.r * lo - lo * lo)) z n
    (λ j l h.
    let upper = bound_of-within c.r n (j + 1) some (omega arith) in
    inner_slab_inside c b (z j) (z (j + 1)) u N W (bound_of-within c.r n j some (omega arith)) (omega arith)
    (covers_down b (z j) (z (j + 1)) (flat_of c + 2 * floor_root (2 * c.r * z j - z j * z j)) u N W h)))
    (λ h. top_slab_inside c b u N W valid (covers_down b (c.r + c.base) c.h c.d u N W h))

-- it is not below the cutter's base
abbrev pub IsAbove : CutterSize → ℕ → ℕ → ℕ → Type 0
IsAbove c b u N = ((b * c.base) * (b * c.base)) * N ≤ u * u

pub above_tip_base : (c : CutterSize) (b u N : ℕ) → c.base ≡ 0 → IsAbove c b u N
above_tip_base c b u N e = subst (λ k. ((b * k) * (b * k)) * N ≤ u * u) (sym e) (omega arith)

top_above : (b r base u N : ℕ) → ((b * (r + base)) * (b * (r + base))) * N ≤ u * u → ((b * base) * (b * base)) * N ≤ u * u
top_above b r base u N h =
    let less : b * base ≤ b * (r + base) = omega arith in
    let low = mul-le-mul_right N (mul-le-mul less less) in
    omega (arith, low, h)

-- a cutter without a radius has no slab below the top one
corner_above : (c : CutterSize) (b n u N W : ℕ) → IsCutter c → 0 < n
    → All (λ s. Covers s (pos b) (pos u) (pos N) (pos W) → IsAbove c b u N) (slabs_between (inner_slab c) (bound_of c.r n) n)
corner_above c b n u N W valid some =
    let z = bound_of c.r n in
    let dia : ℕ → ℕ → ℕ = λ lo hi. flat_of c + 2 * floor_root (2 * c.r * lo - lo * lo) in
    ⊎_elim
    (λ tip. each_slab (λ s. Covers s (pos b) (pos u) (pos N) (pos W) → IsAbove c b u N) dia z n (λ j l h. above_tip_base c b u N tip))
    (λ flat. subst (All (λ s. Covers s (pos b) (pos u) (pos N) (pos W) → IsAbove c b u N))
    (sym (no_slabs z (λ j. dia (z j) (z (j + 1))) 0 n (λ j. let e = bound_of-none c.r n (j + 1) flat.0 some in omega (arith, e))))
    (All-nil (λ s. Covers s (pos b) (pos u) (pos N) (pos W) → IsAbove c b u N)))
    valid.plain

-- a place that a slab of the inner stack covers is not below the cutter's base
pub round_above : (c : CutterSize) (b n u N W : ℕ) → IsCutter c → 0 < n → All (λ s. Covers s (pos b) (pos u) (pos N) (pos W) → IsAbove c b u N) (round_inner c n)
round_above c b n u N W valid some =
    All-push (λ s. Covers s (pos b) (pos u) (pos N) (pos W) → IsAbove c b u N) (slabs_between (inner_slab c) (bound_of c.r n) n) (top_slab c)
    (corner_above c b n u N W valid some)
    (λ h. let low = covers_down b (c.r + c.base) c.h c.d u N W h in top_above b c.r c.base u N low.above)

-- a place of the cutter above the corner's upper end is above the lower end of the top slab
above_corner : (c : CutterSize) (b u N : ℕ) → IsCutter c → IsAbove c b u N → ((b * c.r) * (b * c.r)) * N ≤ u * u → ((b * (c.r + c.base)) * (b * (c.r + c.base))) * N ≤ u * u
above_corner c b u N valid above high =
    ⊎_elim
    (λ tip. subst (λ k. ((b * k) * (b * k)) * N ≤ u * u) (let e : c.r ≡ c.r + c.base = omega arith in e) high)
    (λ flat. subst (λ k. ((b * k) * (b * k)) * N ≤ u * u) (let r = flat.0 in let e : c.base ≡ c.r + c.base = omega (arith, r) in e) above)
    valid.plain

-- a place of the cutter below the corner's upper end is in a slab of the corner
corner_found : (c : CutterSize) (b n u N W : ℕ) → IsCutter c → 0 < n → InRound c b u N W → u * u < ((b * c.r) * (b * c.r)) * N → Found b u N W (round_outer c n)
corner_found c b n u N W valid some inside low =
    let z = bound_of c.r n in
    let dia : ℕ → ℕ → ℕ = λ lo hi. flat_of c + 2 * ceil_root (2 * c.r * hi - hi * hi) in
    let last = bound_of-last c.r n some in
    let high : 0 < c.r = above_tip c.r b u N low in
    let f = between z n b u N (bound_of-first c.r n some) (subst (λ k. 0 < k) (sym last) high)
    (subst (λ k. u * u ≤ ((b * k) * (b * k)) * N) (sym last) (omega arith)) in
    let j = f.at in let within = f.within in
    let slab = slab_of (z j) (z (j + 1)) (dia (z j) (z (j + 1))) in (
      slab,
      Contains-append_left (slabs_between (outer_slab c) z n) (top_slab c ∷ []) slab (among_slabs dia z n j within f.apart),
      covers_up b (z j) (z (j + 1)) (dia (z j) (z (j + 1))) u N W
          (slab_holds b c.r (flat_of c) (z j) (z (j + 1)) u N W inside.corner (bound_of-within c.r n (j + 1) some (omega arith)) f.above f.below),
    )

-- a place of the cutter is in a slab of the outer stack
pub round_found : (c : CutterSize) (b n u N W : ℕ) → IsCutter c → 0 < n → IsAbove c b u N → InRound c b u N W → Found b u N W (round_outer c n)
round_found c b n u N W valid some above inside =
    ⊎_elim (λ low. corner_found c b n u N W valid some inside low)
    (λ high. (
      top_slab c,
      Contains-push (slabs_between (outer_slab c) (bound_of c.r n) n) (top_slab c),
      covers_up b (c.r + c.base) c.h c.d u N W record { above = above_corner c b u N valid above high; below = inside.height; near = subst (λ k. 4 * W ≤ (k * k) * N) (sym (full c b valid)) inside.side },
    ))
    (cases_lt (u * u) (((b * c.r) * (b * c.r)) * N))
