-- The stacks of a cone: each place of an inner slab is in the lower cutter, and each place of the upper cutter in an outer slab.
use Rattle.std.proofs.Common.{◌≡◌, ℕ, ◌+◌, ◌*◌, ◌≤◌, ◌<◌, List, pos, arith, sym, subst}
use Rattle.std.specs.List.{All}
use Rattle.std.proofs.Math.Nat.{mul-le-mul, mul-le-mul_left, mul-le-mul_right}
use Rattle.space.specs.Flanks.{least_widening, lower_tangent, most_widening, upper_tangent}
use Rattle.bern_form.specs.Slab.{SlabSize}
use Rattle.bern_form.proofs.Relations.{Covers}
use Rattle.cutter_slabs.specs.Cutter.{CutterSize, IsCutter}
use Rattle.cutter_slabs.specs.Stacks.{inner_cone_slab, level_of, outer_cone_slab, slab_of, slabs_between}
use Rattle.cutter_slabs.proofs.Bounds.{level_of-first, level_of-last, level_of-within}
use Rattle.cutter_slabs.proofs.Cones.{InCone, cone_of_slab, slab_of_cone}
use Rattle.cutter_slabs.proofs.Corners.{InSlab}
use Rattle.cutter_slabs.proofs.Places.{Found, covers_down, covers_up}
use Rattle.cutter_slabs.proofs.Slabs.{among_slabs, between, each_slab}
use Rattle.cutter_slabs.proofs.Widening.{least_within, most_reaches}

-- the stacks of a cone
abbrev pub cone_inner : CutterSize → ℕ → List SlabSize
cone_inner c n = slabs_between (inner_cone_slab c) (level_of c.h n) n

abbrev pub cone_outer : CutterSize → ℕ → List SlabSize
cone_outer c n = slabs_between (outer_cone_slab c) (level_of c.h n) n

twice : (b d s : ℕ) → b * (d + 2 * s) ≡ b * d + 2 * (b * s)
twice b d s = omega arith

scaled : (b s k x t : ℕ) → s * k ≤ x * t → b * s * k ≤ b * x * t
scaled b s k x t h = let m = mul-le-mul_left b h in omega arith

swapped : (b s k x t : ℕ) → x * t ≤ s * k → b * x * t ≤ b * s * k
swapped b s k x t h = let m = mul-le-mul_left b h in omega arith

-- one inner slab lies in the lower cutter
pub cone_slab_inside : (c : CutterSize) (b lo hi u N W : ℕ) → hi ≤ c.h → InSlab (b * lo) (b * hi) (b * (c.d + 2 * least_widening c.flank lo)) u N W
    → InCone (lower_tangent c.flank) (b * c.d) (b * c.h) u N W
cone_slab_inside c b lo hi u N W k inside =
    let s = least_widening c.flank lo in let t = lower_tangent c.flank in
    let top = mul-le-mul_left b k in
    let tops = mul-le-mul_right N (mul-le-mul top top) in
    let below = inside.below in record {
      height = omega arith;
      cone = cone_of_slab 1000000 t (b * c.d) (b * s) (b * lo) u N W (scaled b s 1000000 lo t (least_within c.flank lo)) inside.above
          (subst (λ k. 4 * W ≤ (k * k) * N) (twice b c.d s) inside.near);
    }

-- what the upper cutter holds between two heights is in the outer slab
pub cone_slab_holds : (c : CutterSize) (b lo hi u N W : ℕ) → InCone (upper_tangent c.flank) (b * c.d) (b * c.h) u N W → ((b * lo) * (b * lo)) * N ≤ u * u
    → u * u ≤ ((b * hi) * (b * hi)) * N → InSlab (b * lo) (b * hi) (b * (c.d + 2 * most_widening c.flank hi)) u N W
cone_slab_holds c b lo hi u N W inside low high =
    let s = most_widening c.flank hi in let t = upper_tangent c.flank in record {
      above = low;
      below = high;
      near = subst (λ k. 4 * W ≤ (k * k) * N) (sym (twice b c.d s))
          (slab_of_cone 1000000 t (b * c.d) (b * s) (b * hi) u N W (omega arith) inside.cone (swapped b s 1000000 hi t (most_reaches c.flank hi)) high);
    }

-- a place that a slab of the inner stack covers is in the lower cutter
pub cone_inside : (c : CutterSize) (b n u N W : ℕ) → 0 < n
    → All (λ s. Covers s (pos b) (pos u) (pos N) (pos W) → InCone (lower_tangent c.flank) (b * c.d) (b * c.h) u N W) (cone_inner c n)
cone_inside c b n u N W some =
    let z = level_of c.h n in
    each_slab (λ s. Covers s (pos b) (pos u) (pos N) (pos W) → InCone (lower_tangent c.flank) (b * c.d) (b * c.h) u N W) (λ lo hi. c.d + 2 * least_widening c.flank lo) z n
    (λ j l h.
    cone_slab_inside c b (z j) (z (j + 1)) u N W (level_of-within c.h n (j + 1) (omega arith))
    (covers_down b (z j) (z (j + 1)) (c.d + 2 * least_widening c.flank (z j)) u N W h))

-- a place of the upper cutter is in a slab of the outer stack
pub cone_found : (c : CutterSize) (b n u N W : ℕ) → IsCutter c → 0 < n → InCone (upper_tangent c.flank) (b * c.d) (b * c.h) u N W → Found b u N W (cone_outer c n)
cone_found c b n u N W valid some inside =
    let z = level_of c.h n in
    let dia : ℕ → ℕ → ℕ = λ lo hi. c.d + 2 * most_widening c.flank hi in
    let last = level_of-last c.h n some in
    let f = between z n b u N (level_of-first c.h n some) (subst (λ k. 0 < k) (sym last) (let high = valid.high in omega arith))
    (subst (λ k. u * u ≤ ((b * k) * (b * k)) * N) (sym last) inside.height) in
    let j = f.at in (
      slab_of (z j) (z (j + 1)) (dia (z j) (z (j + 1))),
      among_slabs dia z n j f.within f.apart,
      covers_up b (z j) (z (j + 1)) (dia (z j) (z (j + 1))) u N W (cone_slab_holds c b (z j) (z (j + 1)) u N W inside f.above f.below),
    )
