-- The stacks of a cutter begin at the same heights.
use Rattle.std.proofs.Common.{◌≡◌, Bool, true, false, ℕ, zero, suc, ◌+◌, ◌*◌, ◌-◌, ◌==◌, cond, List, [], ◌∷◌, ◌++◌, length, get_or, map, pos, int_lt, refl, sym, ap, ◌∙◌}
use Rattle.std.specs.List.{filter, range_with_len}
use Rattle.std.proofs.Math.ListN.{get_or-map}
use Rattle.std.proofs.lemmas.List.{length-map, map-append}
use Rattle.space.specs.Flanks.{least_widening, most_widening}
use Rattle.bern_form.specs.Roots.{ceil_root, floor_root}
use Rattle.bern_form.specs.Slab.{SlabSize}
use Rattle.cutter_slabs.specs.Cutter.{CutterSize, flat_of}
use Rattle.cutter_slabs.specs.Stacks.{bound_of, has_height, inner_stack, level_of, outer_stack, slab_of, top_slab}
use Rattle.box_bisect.specs.SlabTests.{no_slab}
use Rattle.width_bisect.specs.Early.{lows_of}

-- such stacks have equally many slabs, and each begins where the one of the same number does
pub as_many : (a b : List SlabSize) → lows_of a ≡ lows_of b → length a ≡ length b
as_many a b e = sym (length-map a (λ s. s.lo)) ∙ ap length e ∙ length-map b (λ s. s.lo)

pub low_at : (a b : List SlabSize) (i : ℕ) → lows_of a ≡ lows_of b → (get_or a i no_slab).lo ≡ (get_or b i no_slab).lo
low_at a b i e = sym (get_or-map (λ s. s.lo) a i no_slab) ∙ ap (λ l. get_or l i (pos 0)) e ∙ get_or-map (λ s. s.lo) b i no_slab

-- slabs between the same bounds begin at the same heights, whatever their diameters
one_more : (b : Bool) (s t : SlabSize) (x y : List SlabSize) → s.lo ≡ t.lo → lows_of x ≡ lows_of y → lows_of (cond b (s ∷ x) x) ≡ lows_of (cond b (t ∷ y) y)
one_more true s t x y h e = ap (λ z. z ∷ lows_of x) h ∙ ap (λ l. t.lo ∷ l) e
one_more false s t x y h e = e

abbrev from_bounds : (ℕ → ℕ → ℕ) → (ℕ → ℕ) → ℕ → ℕ → List SlabSize
from_bounds f z a n = filter has_height (map (λ j. slab_of (z j) (z (j + 1)) (f (z j) (z (j + 1)))) (range_with_len a n))

same_from : (f g : ℕ → ℕ → ℕ) (z : ℕ → ℕ) (a n : ℕ) → lows_of (from_bounds f z a n) ≡ lows_of (from_bounds g z a n)
same_from f g z a zero = refl
same_from f g z a (suc n) =
    let rest = same_from f g z (a + 1) n in
    let x : List SlabSize = from_bounds f z (a + 1) n in let y : List SlabSize = from_bounds g z (a + 1) n in
    let s = slab_of (z a) (z (a + 1)) (f (z a) (z (a + 1))) in let t = slab_of (z a) (z (a + 1)) (g (z a) (z (a + 1))) in
    one_more (int_lt (pos (z a)) (pos (z (a + 1)))) s t x y refl rest

same_topped : (a b : List SlabSize) (s : SlabSize) → lows_of a ≡ lows_of b → lows_of (a ++ s ∷ []) ≡ lows_of (b ++ s ∷ [])
same_topped a b s e = map-append (λ (t : SlabSize). t.lo) a (s ∷ []) ∙ ap (λ l. l ++ s.lo ∷ []) e ∙ sym (map-append (λ (t : SlabSize). t.lo) b (s ∷ []))

same_either : (b : Bool) (x y v w : List SlabSize) → lows_of x ≡ lows_of v → lows_of y ≡ lows_of w → lows_of (cond b x y) ≡ lows_of (cond b v w)
same_either true x y v w e f = e
same_either false x y v w e f = f

pub stacks_begin_alike : (c : CutterSize) (n : ℕ) → lows_of (inner_stack c n) ≡ lows_of (outer_stack c n)
stacks_begin_alike c n =
    let f : ℕ → ℕ → ℕ = λ lo hi. flat_of c + 2 * floor_root (2 * c.r * lo - lo * lo) in let g : ℕ → ℕ → ℕ = λ lo hi. flat_of c + 2 * ceil_root (2 * c.r * hi - hi * hi) in
    let h : ℕ → ℕ → ℕ = λ lo hi. c.d + 2 * least_widening c.flank lo in let k : ℕ → ℕ → ℕ = λ lo hi. c.d + 2 * most_widening c.flank hi in
    let z = bound_of c.r n in let w = level_of c.h n in let top = top_slab c in
    same_either (c.flank == 0) (from_bounds f z 0 n ++ top ∷ []) (from_bounds h w 0 n) (from_bounds g z 0 n ++ top ∷ []) (from_bounds k w 0 n)
    (same_topped (from_bounds f z 0 n) (from_bounds g z 0 n) top (same_from f g z 0 n)) (same_from h k w 0 n)
