-- The cutter where it is plain: without a corner radius a cylinder, and a ball's tip a point.
use Rattle.std.proofs.Common.{◌≡◌, ℕ, zero, suc, ◌+◌, ◌*◌, ◌-◌, ◌≤◌, ◌<◌, List, ℤ, pos, negsuc, ◌*ℤ◌, ◌+ℤ◌, ◌-ℤ◌, ◌≤ℤ◌, Bool, true, false, arith, refl, ap, sym, subst, ◌∙◌, inl, ⊎_elim}
use Rattle.std.proofs.Math.Nat.{mul-le-mul, mul-le-mul_left}
use Rattle.std.proofs.lemmas.Bool.Decides.{Decides-and, Decides-int_eq}
use Rattle.std.proofs.lemmas.Int.{ints}
use Rattle.std.specs.Bool.{Decides}
use Rattle.space.specs.Vectors.{at, dot, is_zero, spread}
use Rattle.space.proofs.Naturals.{dot_natural, natural, square_not_negative}
use Rattle.bern_form.proofs.Roots.{root_le}
use Rattle.cutter_slabs.specs.Corner.{CornerRule}
use Rattle.cutter_slabs.specs.Cutter.{CutterSize, flat_of}
use Rattle.cutter_slabs.specs.Inside.{IsInside, IsWithinRound}
use Rattle.cutter_slabs.specs.Laws.{IsInCylinder, IsInsideFromTip}
use Rattle.cutter_slabs.proofs.Corners.{Corner}
use Rattle.cutter_slabs.proofs.Places.{Place, from_naturals, place_of, to_naturals}
use Rattle.cutter_slabs.proofs.Round.{above_tip_base}
use Rattle.cutter_slabs.proofs.Rules.{corner_down, corner_up}
use Rattle.cutter_slabs.proofs.Whole.{above_up}

-- a cutter with the base 0 begins at the tip
pub from_tip : (c : CutterSize) (t b : ℕ) (p a : List ℤ) → c.base ≡ 0 → IsInsideFromTip c t b p a → IsInside c t b p a
from_tip c t b p a tip inside =
    let x = place_of p a inside.forward in record {
      forward = inside.forward;
      above = above_up c b p a x (above_tip_base c b x.u x.n tip);
      height = inside.height;
      shape = inside.shape;
    }

pub to_tip : (c : CutterSize) (t b : ℕ) (p a : List ℤ) → IsInside c t b p a → IsInsideFromTip c t b p a
to_tip c t b p a inside = record { forward = inside.forward; height = inside.height; shape = inside.shape }

-- without a radius the corner rule says no more than the bound of the side
no_radius : (R D u N W : ℕ) → R ≡ 0 → 4 * W ≤ (D * D) * N → Corner R D u N W
no_radius R D u N W e side = λ p q g m one top low f h.
    let side2 = mul-le-mul_left (q * q) side in
    let none : p ≡ 0 = subst (λ x. p ≤ x * q → p ≡ 0) (sym e) (λ l. omega arith) top in
    let g0 : g ≡ 0 = subst (λ x. g + p * p ≡ 2 * x * p * q → g ≡ 0) (sym e) (λ k. omega arith) f in
    let m0 : m ≡ 0 = omega (arith, h, side2) in
    subst (λ x. x * x ≤ 16 * (D * D) * (q * q) * g * (N * N)) (sym m0) (omega arith)

side_down : (d n w : ℕ) → (pos 4 *ℤ pos w) ≤ℤ (pos (d * d) *ℤ pos n) → 4 * w ≤ (d * d) * n
side_down d n w l = omega (arith, ints, l)

pub cylinder_inside : (c : CutterSize) (t b : ℕ) (p a : List ℤ) → c.flank ≡ 0 → c.r ≡ 0 → IsInCylinder c.d c.base c.h b p a → IsInside c t b p a
cylinder_inside c t b p a upright sharp inside =
    let x = place_of p a inside.forward in
    let side = side_down (b * c.d) x.n x.w (to_naturals (λ u n w. (pos 4 *ℤ w) ≤ℤ (pos (b * c.d * (b * c.d)) *ℤ n)) p a x inside.side) in
    let flat : c.d ≡ flat_of c = subst (λ r. c.d ≡ c.d - 2 * r) (sym sharp) (omega arith) in
    let none : b * c.r ≡ 0 = subst (λ r. b * r ≡ 0) (sym sharp) (omega arith) in
    let rule = no_radius (b * c.r) (b * flat_of c) x.u x.n x.w none (subst (λ d. 4 * x.w ≤ ((b * d) * (b * d)) * x.n) flat side) in record {
      forward = inside.forward;
      above = inside.above;
      height = inside.height;
      shape = inl record {
        upright = upright;
        side = inside.side;
        corner = from_naturals (λ u n w. CornerRule (b * c.r) (b * flat_of c) u n w) p a x (corner_up (b * c.r) (b * flat_of c) x.u x.n x.w rule);
      };
    }

pub inside_cylinder : (c : CutterSize) (t b : ℕ) (p a : List ℤ) → c.flank ≡ 0 → IsInside c t b p a → IsInCylinder c.d c.base c.h b p a
inside_cylinder c t b p a upright inside =
    ⊎_elim (λ round. record { forward = inside.forward; above = inside.above; height = inside.height; side = round.side })
    (λ cone. let leaning = cone.leaning in absurd (omega arith)) inside.shape

-- no square is at most 0 except that of 0
square_none : (m : ℕ) → m * m ≤ 0 → m ≡ 0
square_none m h = let k = root_le m 0 h in omega arith

-- where the flat bottom is a point, the corner rule at the height 0 leaves no distance from the axis
point_tip : (R E N W : ℕ) → E ≡ 0 → Corner R E 0 N W → W ≡ 0
point_tip R E N W e rule =
    let flat : E * E * (1 * 1) * N ≡ 0 = subst (λ x. x * x * (1 * 1) * N ≡ 0) (sym e) (omega arith) in
    let none : 16 * (E * E) * (1 * 1) * 0 * (N * N) ≡ 0 = omega arith in
    let s = rule 0 1 0 (4 * W) (omega arith) (omega arith) (omega arith) (omega arith) (omega arith) in
    let m = square_none (4 * W) (omega arith) in
    omega arith

-- a squared length of 0 has no component
no_part : (z : ℤ) → (z *ℤ z) ≤ℤ pos 0 → z ≡ pos 0
no_part (pos zero) h = refl
no_part (pos (suc n)) h = absurd (omega (arith, ints, h))
no_part (negsuc n) h = absurd (omega (arith, ints, h))

no_parts : (a b c : ℤ) → (a *ℤ a +ℤ b *ℤ b) +ℤ c *ℤ c ≡ pos 0 → (a ≡ pos 0) × (b ≡ pos 0) × (c ≡ pos 0)
no_parts a b c h =
    let x = square_not_negative a in let y = square_not_negative b in let z = square_not_negative c in
    (no_part a (omega (arith, ints, h)), no_part b (omega (arith, ints, h)), no_part c (omega (arith, ints, h)))

decides_zero : (v : List ℤ) → Decides (is_zero v) ((at v 0 ≡ pos 0) × ((at v 1 ≡ pos 0) × (at v 2 ≡ pos 0)))
decides_zero v = Decides-and _ _ (Decides-int_eq (at v 0) (pos 0)) (Decides-and _ _ (Decides-int_eq (at v 1) (pos 0)) (Decides-int_eq (at v 2) (pos 0)))

is_zero_of : (v : List ℤ) → dot v v ≡ pos 0 → is_zero v ≡ true
is_zero_of v e = let parts = no_parts (at v 0) (at v 1) (at v 2) e in (decides_zero v).1 (parts.0, (parts.1, parts.2))

apart : (b : Bool) → b ≡ true → b ≡ false → ⊥
apart b p q = cc

some_length : (a : List ℤ) (n : ℕ) → is_zero a ≡ false → dot a a ≡ pos n → 0 < n
some_length a zero other e = absurd (apart (is_zero a) (is_zero_of a e) other)
some_length a (suc n) other e = omega arith

-- an offset of no height and no distance from the axis is no offset
product_none : (d n w u : ℕ) → pos d *ℤ pos n -ℤ pos u *ℤ pos u ≡ pos w → u ≡ 0 → w ≡ 0 → 0 < n → d ≡ 0
product_none zero n w u e f g some = refl
product_none (suc d) n w u e f g some =
    let uu : u * u ≡ 0 = subst (λ x. x * x ≡ 0) (sym f) refl in
    let one : 1 ≤ suc d = omega arith in
    let k = mul-le-mul one some in
    absurd (omega (arith, ints, e, k, uu))

same_natural : (z : ℤ) (m n : ℕ) → z ≡ pos m → z ≡ pos n → m ≡ n
same_natural z m n e f = omega (arith, ints, e, f)

at_foot : (p a : List ℤ) (x : Place p a) → is_zero a ≡ false → x.u ≡ 0 → x.w ≡ 0 → is_zero p ≡ true
at_foot p a x other e f =
    let d = natural (dot p p) (dot_natural p) in
    let whole : pos d.0 *ℤ pos x.n -ℤ pos x.u *ℤ pos x.u ≡ pos x.w =
    sym (ap (λ z. z *ℤ dot a a -ℤ dot p a *ℤ dot p a) d.1 ∙ ap (λ z. pos d.0 *ℤ z -ℤ dot p a *ℤ dot p a) x.n_is ∙ ap (λ z. pos d.0 *ℤ pos x.n -ℤ z *ℤ z) x.u_is) ∙ x.w_is in
    let none = product_none d.0 x.n x.w x.u whole e f (some_length a x.n other x.n_is) in
    is_zero_of p (d.1 ∙ ap pos none)

mul_none : (b : ℕ) → b * 0 ≡ 0
mul_none b = omega arith

no_width : (b r : ℕ) → b * (2 * r - 2 * r) ≡ 0
no_width b r = let e : 2 * r - 2 * r ≡ 0 = omega arith in ap (λ z. b * z) e ∙ mul_none b

round_tip : (c : CutterSize) (b : ℕ) (p a : List ℤ) (x : Place p a) → c.d ≡ 2 * c.r → is_zero a ≡ false → x.u ≡ 0 → IsWithinRound c b (dot p a) (dot a a) (spread p a) → is_zero p ≡ true
round_tip c b p a x ball other low round =
    let flat : b * flat_of c ≡ 0 = ap (λ d. b * (d - 2 * c.r)) ball ∙ no_width b c.r in
    let rule = corner_down (b * c.r) (b * flat_of c) x.u x.n x.w (to_naturals (λ u n w. CornerRule (b * c.r) (b * flat_of c) u n w) p a x round.corner) in
    at_foot p a x other low (point_tip (b * c.r) (b * flat_of c) x.n x.w flat (subst (λ u. Corner (b * c.r) (b * flat_of c) u x.n x.w) low rule))

pub tip_is_point : (c : CutterSize) (t b : ℕ) (p a : List ℤ) → c.flank ≡ 0 → c.d ≡ 2 * c.r → is_zero a ≡ false → IsInside c t b p a → dot p a ≡ pos 0 → is_zero p ≡ true
tip_is_point c t b p a upright ball other inside foot =
    let x = place_of p a inside.forward in
    ⊎_elim (λ round. round_tip c b p a x ball other (same_natural (dot p a) x.u 0 x.u_is foot) round)
    (λ cone. let leaning = cone.leaning in absurd (omega arith)) inside.shape
