-- What the width form of a line bends by from one point of a ray to another is the form of the way between them.
use Rattle.std.proofs.Common.{◌≡◌, ℕ, ◌≤◌, [], ◌∷◌, List, ℤ, pos, ◌+ℤ◌, ◌*ℤ◌, ◌-ℤ◌, arith, refl, ap, ap₂, subst, sym, ◌∙◌}
use Rattle.std.specs.List.{All}
use Rattle.space.specs.Ranges.{IsPoint, IsWithin}
use Rattle.space.specs.Sweeps.{IsSweep, SweepOf, axis_at}
use Rattle.space.specs.Vectors.{at}
use Rattle.space.proofs.Solver.{var, add, mul, ring}
use Rattle.space.proofs.Terms.{from, sub}
use Rattle.bern_form.specs.Between.{n_between}
use Rattle.bern_form.specs.Cells.{dot_on_cell}
use Rattle.bern_form.specs.Forms.{IsSmall, scaled2, scaled4}
use Rattle.bern_form.specs.Sizes.{axis_limit, offset_limit, scale_limit}
use Rattle.bern_form.proofs.Sizes.{axis_within, small_as}
use Rattle.axis_cells.proofs.Bounds.{cross_bounded}
use Rattle.wanted_marks.specs.declared.line.Line.{Line}
use Rattle.wanted_marks.specs.Lines.{IsThrough, bend_over}
use Rattle.wanted_marks.specs.Ways.{IsAlong, scaled_vector, scaled_way}
use Rattle.wanted_marks.specs.Widths.{spread_form}
use Rattle.wanted_marks.proofs.Fitting.{spread_fits, way_small}
use Rattle.wanted_marks.proofs.Stepping.{cross3, dot3, same3, same5, spread}

component_steps : (s h o x y : ℤ) → h *ℤ (s *ℤ y -ℤ s *ℤ x) ≡ s *ℤ (o +ℤ h *ℤ (y -ℤ x)) -ℤ s *ℤ o
component_steps s h o x y =
    let S = var 0 in let H = var 1 in let O = var 2 in let X = var 3 in let Y = var 4 in
    ring (s ∷ h ∷ o ∷ x ∷ y ∷ []) (mul H (sub (mul S Y) (mul S X))) (sub (mul S (add O (mul H (sub Y X)))) (mul S O)) refl

-- h steps are the way from the first point to the one h steps on
way_steps : (s h : ℤ) (o x y p : List ℤ) → IsAlong o x y p h → scaled_vector h (scaled_way s x y) ≡ scaled_way s o p
way_steps s h o x y p on =
    same3 _ _ _ _ _ _
    (component_steps s h (at o 0) (at x 0) (at y 0) ∙ ap (λ z. s *ℤ z -ℤ s *ℤ at o 0) (sym on.x))
    (component_steps s h (at o 1) (at x 1) (at y 1) ∙ ap (λ z. s *ℤ z -ℤ s *ℤ at o 1) (sym on.y))
    (component_steps s h (at o 2) (at x 2) (at y 2) ∙ ap (λ z. s *ℤ z -ℤ s *ℤ at o 2) (sym on.z))

-- scalar products with h v, and of it with itself
u_scaled : (v a c : List ℤ) (h : ℤ) → dot_on_cell (scaled_vector h v) (scaled_vector h v) a c ≡ scaled2 h (dot_on_cell v v a c)
u_scaled v a c h =
    let e = at v 0 ∷ at v 1 ∷ at v 2 ∷ at a 0 ∷ at a 1 ∷ at a 2 ∷ at c 0 ∷ at c 1 ∷ at c 2 ∷ h ∷ [] in
    let V = from 0 in let A = from 3 in let C = from 6 in let H = var 9 in let W = λ (k : ℕ). mul H (V k) in
    same3 _ _ _ _ _ _ (ring e (dot3 W A) (mul H (dot3 V A)) refl) (ring e (cross3 W W A C) (mul H (cross3 V V A C)) refl) (ring e (dot3 W C) (mul H (dot3 V C)) refl)

d_scaled : (v : List ℤ) (h : ℤ) → dot_on_cell (scaled_vector h v) (scaled_vector h v) (scaled_vector h v) (scaled_vector h v) ≡ scaled2 (h *ℤ h) (dot_on_cell v v v v)
d_scaled v h =
    let e = at v 0 ∷ at v 1 ∷ at v 2 ∷ h ∷ [] in
    let V = from 0 in let H = mul (var 3) (var 3) in let W = λ (k : ℕ). mul (var 3) (V k) in
    same3 _ _ _ _ _ _ (ring e (dot3 W W) (mul H (dot3 V V)) refl) (ring e (cross3 W W W W) (mul H (cross3 V V V V)) refl) (ring e (dot3 W W) (mul H (dot3 V V)) refl)

spread_scaled : (n u d : List ℤ) (h : ℤ) → scaled4 (h *ℤ h) (spread_form (pos 4) d n u u) ≡ spread_form (pos 4) (scaled2 (h *ℤ h) d) n (scaled2 h u) (scaled2 h u)
spread_scaled n u d h =
    let e = at n 0 ∷ at n 1 ∷ at n 2 ∷ at u 0 ∷ at u 1 ∷ at u 2 ∷ at d 0 ∷ at d 1 ∷ at d 2 ∷ h ∷ [] in
    let N = from 0 in let U = from 3 in let D = from 6 in let H = mul (var 9) (var 9) in let M = λ (k : ℕ). mul (var 9) (U k) in
    let x = λ (k : ℕ). mul H (spread 4 D N U U k) in let y = spread 4 (λ k. mul H (D k)) N M M in
    same5 _ _ _ _ _ _ _ _ _ _ (ring e (x 0) (y 0) refl) (ring e (x 1) (y 1) refl) (ring e (x 2) (y 2) refl) (ring e (x 3) (y 3) refl) (ring e (x 4) (y 4) refl)

bend_is : (n v A C : List ℤ) (h : ℤ) → scaled4 (h *ℤ h) (spread_form (pos 4) (dot_on_cell v v v v) n (dot_on_cell v v A C) (dot_on_cell v v A C))
    ≡ spread_form (pos 4) (dot_on_cell (scaled_vector h v) (scaled_vector h v) (scaled_vector h v) (scaled_vector h v)) n
    (dot_on_cell (scaled_vector h v) (scaled_vector h v) A C) (dot_on_cell (scaled_vector h v) (scaled_vector h v) A C)
bend_is n v A C h =
    spread_scaled n (dot_on_cell v v A C) (dot_on_cell v v v v) h ∙ ap₂ (λ x y. spread_form (pos 4) x n y y) (sym (d_scaled v h)) (sym (u_scaled v A C h))

pub bend_small : (line : Line) (m : SweepOf) (o x y p : List ℤ) (S : ℕ) (h : ℤ) → IsThrough line m o (scaled_way (pos S) x y) S → IsAlong o x y p h
    → IsSweep m → IsPoint o → IsPoint p → S ≤ scale_limit → All IsSmall (bend_over line h)
bend_small line m o x y p S h is on sweep ho hp few =
    let v = scaled_way (pos S) x y in let V = scaled_vector h v in
    let A = axis_at m (pos 0) (pos S) in let C = axis_at m (pos S) (pos S) in
    let hA = axis_within m 0 S sweep (omega arith) few in let hC = axis_within m S S sweep (omega arith) few in
    let hV = subst (λ z. IsWithin offset_limit z) (sym (way_steps (pos S) h o x y p on)) (way_small S o p few ho hp) in
    let hu = cross_bounded V V A C offset_limit axis_limit hV hV hA hC in
    small_as (ap (λ z. scaled4 (h *ℤ h) z) is.second_is ∙ bend_is (n_between m 0 S S) v A C h)
    (spread_fits (pos 4) (dot_on_cell V V V V) (n_between m 0 S S) (dot_on_cell V V A C) (dot_on_cell V V A C)
    (cross_bounded V V V V offset_limit offset_limit hV hV hV hV) (cross_bounded A C A C axis_limit axis_limit hA hC hA hC) hu hu (omega arith)).whole
