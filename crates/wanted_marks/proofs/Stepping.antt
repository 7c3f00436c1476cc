-- Along a line the offset from the tip is linear in the number of steps, so the coefficients of u are linear in it and those of d
-- and of 4 (d n - u^2) quadratic.
use Rattle.std.proofs.Common.{◌≡◌, ℕ, zero, suc, [], ◌∷◌, List, ℤ, pos, ◌+ℤ◌, ◌*ℤ◌, ◌-ℤ◌, arith, refl, ap, ap₂, subst, sym, ◌∙◌}
use Rattle.space.specs.Sweeps.{SweepOf, axis_at, between, offset, offset_at}
use Rattle.space.specs.Vectors.{at}
use Rattle.space.proofs.Solver.{Term, var, num, add, mul, ring}
use Rattle.space.proofs.Terms.{from, sub}
use Rattle.bern_form.specs.Between.{d_between, n_between, u_between}
use Rattle.bern_form.specs.Cells.{dot_on_cell}
use Rattle.bern_form.specs.Forms.{scaled4}
use Rattle.moment_forms.specs.Moments.{middle_moment, moment, moment_product, vector_product, vector_sum}
use Rattle.moment_forms.proofs.Lagrange.{lagrange_at, less_squares}
use Rattle.wanted_marks.specs.declared.line.Line.{Line}
use Rattle.moment_forms.specs.declared.moments.Moments.{Moments}
use Rattle.wanted_marks.specs.declared.sheet.Sheet.{Sheet}
use Rattle.wanted_marks.specs.Lines.{HasForms, HasFormsBetween, IsLineFrom, IsThrough, IsThroughBetween, d_step, u_step}
use Rattle.wanted_marks.specs.Sheets.{AreMoments, IsLineOn, IsSheet, end_at, first_at, middle_at, own_product, start_at}
use Rattle.wanted_marks.specs.Ways.{IsAlong, scaled_vector, scaled_way}
use Rattle.wanted_marks.specs.Widths.{IsAxisForms, moved3, moved5, quadratics, spread_form, whole_width}

pub same3 : (a b c d e f : ℤ) → a ≡ d → b ≡ e → c ≡ f → a ∷ b ∷ c ∷ [] ≡ d ∷ e ∷ f ∷ []
same3 a b c d e f h k l = ap (λ z. z ∷ b ∷ c ∷ []) h ∙ ap (λ z. d ∷ z ∷ c ∷ []) k ∙ ap (λ z. d ∷ e ∷ z ∷ []) l

pub same5 : (a b c d e f g h i j : ℤ) → a ≡ f → b ≡ g → c ≡ h → d ≡ i → e ≡ j → a ∷ b ∷ c ∷ d ∷ e ∷ [] ≡ f ∷ g ∷ h ∷ i ∷ j ∷ []
same5 a b c d e f g h i j p q r s t =
    ap (λ z. z ∷ b ∷ c ∷ d ∷ e ∷ []) p ∙ ap (λ z. f ∷ z ∷ c ∷ d ∷ e ∷ []) q ∙ ap (λ z. f ∷ g ∷ z ∷ d ∷ e ∷ []) r ∙ ap (λ z. f ∷ g ∷ h ∷ z ∷ e ∷ []) s ∙ ap (λ z. f ∷ g ∷ h ∷ i ∷ z ∷ []) t

-- o + 2 l v + l^2 w
abbrev pub moved_twice : List ℤ → List ℤ → List ℤ → ℤ → List ℤ
moved_twice o v w l =
    (at o 0 +ℤ l *ℤ (pos 2 *ℤ at v 0 +ℤ l *ℤ at w 0)) ∷ (at o 1 +ℤ l *ℤ (pos 2 *ℤ at v 1 +ℤ l *ℤ at w 1)) ∷ (at o 2 +ℤ l *ℤ (pos 2 *ℤ at v 2 +ℤ l *ℤ at w 2)) ∷ []

-- one component of an offset
component_moves : (t s f g z x y l : ℤ) → offset t s (z +ℤ l *ℤ (y -ℤ x)) f g ≡ offset t s z f g +ℤ l *ℤ (s *ℤ y -ℤ s *ℤ x)
component_moves t s f g z x y l =
    let T = var 0 in let S = var 1 in let F = var 2 in let G = var 3 in let Z = var 4 in let X = var 5 in let Y = var 6 in let L = var 7 in
    let place = add (mul (sub S T) F) (mul T G) in
    ring (t ∷ s ∷ f ∷ g ∷ z ∷ x ∷ y ∷ l ∷ []) (sub (mul S (add Z (mul L (sub Y X)))) place) (add (sub (mul S Z) place) (mul L (sub (mul S Y) (mul S X)))) refl

pub offset_moves : (m : SweepOf) (o first next p : List ℤ) (t s l : ℤ) → IsAlong o first next p l → offset_at m p t s ≡ moved3 (offset_at m o t s) (scaled_way s first next) l
offset_moves m o first next p t s l line =
    same3 _ _ _ _ _ _
    (ap (λ z. offset t s z (at m.from 0) (at m.to 0)) line.x ∙ component_moves t s (at m.from 0) (at m.to 0) (at o 0) (at first 0) (at next 0) l)
    (ap (λ z. offset t s z (at m.from 1) (at m.to 1)) line.y ∙ component_moves t s (at m.from 1) (at m.to 1) (at o 1) (at first 1) (at next 1) l)
    (ap (λ z. offset t s z (at m.from 2) (at m.to 2)) line.z ∙ component_moves t s (at m.from 2) (at m.to 2) (at o 2) (at first 2) (at next 2) l)

-- scalar products
abbrev pub dot3 : (ℕ → Term) → (ℕ → Term) → Term
dot3 p a = add (add (mul (p 0) (a 0)) (mul (p 1) (a 1))) (mul (p 2) (a 2))

abbrev pub cross3 : (ℕ → Term) → (ℕ → Term) → (ℕ → Term) → (ℕ → Term) → Term
cross3 p q a c = add (add (add (mul (p 0) (c 0)) (mul (q 0) (a 0))) (add (mul (p 1) (c 1)) (mul (q 1) (a 1)))) (add (mul (p 2) (c 2)) (mul (q 2) (a 2)))

u_first : (o p a c v : List ℤ) (l : ℤ) → at (dot_on_cell (moved3 o v l) (moved3 p v l) a c) 0 ≡ at (dot_on_cell o p a c) 0 +ℤ l *ℤ at (dot_on_cell v v a c) 0
u_first o p a c v l =
    let e = at o 0 ∷ at o 1 ∷ at o 2 ∷ at a 0 ∷ at a 1 ∷ at a 2 ∷ at v 0 ∷ at v 1 ∷ at v 2 ∷ l ∷ [] in
    let O = from 0 in let A = from 3 in let V = from 6 in let L = var 9 in
    ring e (dot3 (λ k. add (O k) (mul L (V k))) A) (add (dot3 O A) (mul L (dot3 V A))) refl

u_middle : (o p a c v : List ℤ) (l : ℤ) → at (dot_on_cell (moved3 o v l) (moved3 p v l) a c) 1 ≡ at (dot_on_cell o p a c) 1 +ℤ l *ℤ at (dot_on_cell v v a c) 1
u_middle o p a c v l =
    let e = at o 0 ∷ at o 1 ∷ at o 2 ∷ at p 0 ∷ at p 1 ∷ at p 2 ∷ at a 0 ∷ at a 1 ∷ at a 2 ∷ at c 0 ∷ at c 1 ∷ at c 2 ∷ at v 0 ∷ at v 1 ∷ at v 2 ∷ l ∷ [] in
    let O = from 0 in let P = from 3 in let A = from 6 in let C = from 9 in let V = from 12 in let L = var 15 in
    ring e (cross3 (λ k. add (O k) (mul L (V k))) (λ k. add (P k) (mul L (V k))) A C) (add (cross3 O P A C) (mul L (cross3 V V A C))) refl

u_last : (o p a c v : List ℤ) (l : ℤ) → at (dot_on_cell (moved3 o v l) (moved3 p v l) a c) 2 ≡ at (dot_on_cell o p a c) 2 +ℤ l *ℤ at (dot_on_cell v v a c) 2
u_last o p a c v l =
    let e = at p 0 ∷ at p 1 ∷ at p 2 ∷ at c 0 ∷ at c 1 ∷ at c 2 ∷ at v 0 ∷ at v 1 ∷ at v 2 ∷ l ∷ [] in
    let O = from 0 in let A = from 3 in let V = from 6 in let L = var 9 in
    ring e (dot3 (λ k. add (O k) (mul L (V k))) A) (add (dot3 O A) (mul L (dot3 V A))) refl

pub u_moves : (o p a c v : List ℤ) (l : ℤ) → dot_on_cell (moved3 o v l) (moved3 p v l) a c ≡ moved3 (dot_on_cell o p a c) (dot_on_cell v v a c) l
u_moves o p a c v l = same3 _ _ _ _ _ _ (u_first o p a c v l) (u_middle o p a c v l) (u_last o p a c v l)

d_first : (o p v : List ℤ) (l : ℤ) → at (dot_on_cell (moved3 o v l) (moved3 p v l) (moved3 o v l) (moved3 p v l)) 0 ≡ at (moved_twice (dot_on_cell o p o p) (dot_on_cell o p v v) (dot_on_cell v v v v) l) 0
d_first o p v l =
    let e = at o 0 ∷ at o 1 ∷ at o 2 ∷ at v 0 ∷ at v 1 ∷ at v 2 ∷ l ∷ [] in
    let O = from 0 in let V = from 3 in let L = var 6 in let M = λ (k : ℕ). add (O k) (mul L (V k)) in
    ring e (dot3 M M) (add (dot3 O O) (mul L (add (mul (num (pos 2)) (dot3 O V)) (mul L (dot3 V V))))) refl

d_middle : (o p v : List ℤ) (l : ℤ) → at (dot_on_cell (moved3 o v l) (moved3 p v l) (moved3 o v l) (moved3 p v l)) 1 ≡ at (moved_twice (dot_on_cell o p o p) (dot_on_cell o p v v) (dot_on_cell v v v v) l) 1
d_middle o p v l =
    let e = at o 0 ∷ at o 1 ∷ at o 2 ∷ at p 0 ∷ at p 1 ∷ at p 2 ∷ at v 0 ∷ at v 1 ∷ at v 2 ∷ l ∷ [] in
    let O = from 0 in let P = from 3 in let V = from 6 in let L = var 9 in let M = λ (k : ℕ). add (O k) (mul L (V k)) in let N = λ (k : ℕ). add (P k) (mul L (V k)) in
    ring e (cross3 M N M N) (add (cross3 O P O P) (mul L (add (mul (num (pos 2)) (cross3 O P V V)) (mul L (cross3 V V V V))))) refl

d_last : (o p v : List ℤ) (l : ℤ) → at (dot_on_cell (moved3 o v l) (moved3 p v l) (moved3 o v l) (moved3 p v l)) 2 ≡ at (moved_twice (dot_on_cell o p o p) (dot_on_cell o p v v) (dot_on_cell v v v v) l) 2
d_last o p v l =
    let e = at p 0 ∷ at p 1 ∷ at p 2 ∷ at v 0 ∷ at v 1 ∷ at v 2 ∷ l ∷ [] in
    let O = from 0 in let V = from 3 in let L = var 6 in let M = λ (k : ℕ). add (O k) (mul L (V k)) in
    ring e (dot3 M M) (add (dot3 O O) (mul L (add (mul (num (pos 2)) (dot3 O V)) (mul L (dot3 V V))))) refl

pub d_moves : (o p v : List ℤ) (l : ℤ) → dot_on_cell (moved3 o v l) (moved3 p v l) (moved3 o v l) (moved3 p v l) ≡ moved_twice (dot_on_cell o p o p) (dot_on_cell o p v v) (dot_on_cell v v v v) l
d_moves o p v l = same3 _ _ _ _ _ _ (d_first o p v l) (d_middle o p v l) (d_last o p v l)

-- the width form
abbrev conv : (ℕ → Term) → (ℕ → Term) → ℕ → Term
conv a b zero = mul (a 0) (b 0)
conv a b (suc zero) = add (mul (a 0) (b 1)) (mul (a 1) (b 0))
conv a b (suc (suc zero)) = add (add (mul (a 0) (b 2)) (mul (a 1) (b 1))) (mul (a 2) (b 0))
conv a b (suc (suc (suc zero))) = add (mul (a 1) (b 2)) (mul (a 2) (b 1))
conv a b (suc (suc (suc (suc k)))) = mul (a 2) (b 2)

abbrev pub spread : ℕ → (ℕ → Term) → (ℕ → Term) → (ℕ → Term) → (ℕ → Term) → ℕ → Term
spread by d n u v k = mul (num (pos by)) (sub (conv d n k) (conv u v k))

pub width_moves : (n u w d f g : List ℤ) (l : ℤ)
    → quadratics (spread_form (pos 4) d n u u) (spread_form (pos 8) f n u w) (spread_form (pos 4) g n w w) l ≡ spread_form (pos 4) (moved_twice d f g l) n (moved3 u w l) (moved3 u w l)
width_moves n u w d f g l =
    let e = at n 0 ∷ at n 1 ∷ at n 2 ∷ at u 0 ∷ at u 1 ∷ at u 2 ∷ at w 0 ∷ at w 1 ∷ at w 2 ∷ at d 0 ∷ at d 1 ∷ at d 2 ∷ at f 0 ∷ at f 1 ∷ at f 2 ∷ at g 0 ∷ at g 1 ∷ at g 2 ∷ l ∷ [] in
    let N = from 0 in let U = from 3 in let W = from 6 in let D = from 9 in let F = from 12 in let G = from 15 in let L = var 18 in
    let x = λ (k : ℕ). add (spread 4 D N U U k) (mul L (add (spread 8 F N U W k) (mul L (spread 4 G N W W k)))) in
    let M = λ (k : ℕ). add (U k) (mul L (W k)) in
    let y = spread 4 (λ k. add (D k) (mul L (add (mul (num (pos 2)) (F k)) (mul L (G k))))) N M M in
    same5 _ _ _ _ _ _ _ _ _ _ (ring e (x 0) (y 0) refl) (ring e (x 1) (y 1) refl) (ring e (x 2) (y 2) refl) (ring e (x 3) (y 3) refl) (ring e (x 4) (y 4) refl)

-- what the number of steps is taken times, from line to line
first_moves : (n w d e u x : List ℤ) (j : ℤ)
    → moved5 (spread_form (pos 8) d n u w) (spread_form (pos 8) e n x w) j ≡ spread_form (pos 8) (moved3 d e j) n (moved3 u x j) w
first_moves n w d e u x j =
    let v = at n 0 ∷ at n 1 ∷ at n 2 ∷ at w 0 ∷ at w 1 ∷ at w 2 ∷ at d 0 ∷ at d 1 ∷ at d 2 ∷ at e 0 ∷ at e 1 ∷ at e 2 ∷ at u 0 ∷ at u 1 ∷ at u 2 ∷ at x 0 ∷ at x 1 ∷ at x 2 ∷ j ∷ [] in
    let N = from 0 in let W = from 3 in let D = from 6 in let E = from 9 in let U = from 12 in let X = from 15 in let J = var 18 in
    let a = λ (k : ℕ). add (spread 8 D N U W k) (mul J (spread 8 E N X W k)) in
    let b = spread 8 (λ k. add (D k) (mul J (E k))) N (λ k. add (U k) (mul J (X k))) W in
    same5 _ _ _ _ _ _ _ _ _ _ (ring v (a 0) (b 0) refl) (ring v (a 1) (b 1) refl) (ring v (a 2) (b 2) refl) (ring v (a 3) (b 3) refl) (ring v (a 4) (b 4) refl)

-- the ends of a move
offset_first : (s p f t : ℤ) → s *ℤ p -ℤ s *ℤ f ≡ offset (pos 0) s p f t
offset_first s p f t =
    let S = var 0 in let X = var 1 in let F = var 2 in let T = var 3 in let O = num (pos 0) in
    ring (s ∷ p ∷ f ∷ t ∷ []) (sub (mul S X) (mul S F)) (sub (mul S X) (add (mul (sub S O) F) (mul O T))) refl

offset_last : (s p f t : ℤ) → s *ℤ p -ℤ s *ℤ t ≡ offset s s p f t
offset_last s p f t =
    let S = var 0 in let X = var 1 in let F = var 2 in let T = var 3 in
    ring (s ∷ p ∷ f ∷ t ∷ []) (sub (mul S X) (mul S T)) (sub (mul S X) (add (mul (sub S S) F) (mul S T))) refl

axis_first : (s f t : ℤ) → s *ℤ f ≡ between (pos 0) s f t
axis_first s f t =
    let S = var 0 in let F = var 1 in let T = var 2 in let O = num (pos 0) in
    ring (s ∷ f ∷ t ∷ []) (mul S F) (add (mul (sub S O) F) (mul O T)) refl

axis_last : (s f t : ℤ) → s *ℤ t ≡ between s s f t
axis_last s f t =
    let S = var 0 in let F = var 1 in let T = var 2 in
    ring (s ∷ f ∷ t ∷ []) (mul S T) (add (mul (sub S S) F) (mul S T)) refl

pub first_offset : (m : SweepOf) (p : List ℤ) (s : ℤ) → scaled_way s m.from p ≡ offset_at m p (pos 0) s
first_offset m p s =
    same3 _ _ _ _ _ _ (offset_first s (at p 0) (at m.from 0) (at m.to 0)) (offset_first s (at p 1) (at m.from 1) (at m.to 1)) (offset_first s (at p 2) (at m.from 2) (at m.to 2))

pub last_offset : (m : SweepOf) (p : List ℤ) (s : ℤ) → scaled_way s m.to p ≡ offset_at m p s s
last_offset m p s =
    same3 _ _ _ _ _ _ (offset_last s (at p 0) (at m.from 0) (at m.to 0)) (offset_last s (at p 1) (at m.from 1) (at m.to 1)) (offset_last s (at p 2) (at m.from 2) (at m.to 2))

pub first_axis : (m : SweepOf) (s : ℤ) → scaled_vector s m.axis_from ≡ axis_at m (pos 0) s
first_axis m s =
    same3 _ _ _ _ _ _ (axis_first s (at m.axis_from 0) (at m.axis_to 0)) (axis_first s (at m.axis_from 1) (at m.axis_to 1)) (axis_first s (at m.axis_from 2) (at m.axis_to 2))

pub last_axis : (m : SweepOf) (s : ℤ) → scaled_vector s m.axis_to ≡ axis_at m s s
last_axis m s =
    same3 _ _ _ _ _ _ (axis_last s (at m.axis_from 0) (at m.axis_to 0)) (axis_last s (at m.axis_from 1) (at m.axis_to 1)) (axis_last s (at m.axis_from 2) (at m.axis_to 2))

pub axis_forms_are : (m : SweepOf) (S : ℕ) (first last n : List ℤ) → first ≡ scaled_vector (pos S) m.axis_from → last ≡ scaled_vector (pos S) m.axis_to → n ≡ dot_on_cell first last first last → IsAxisForms first last n m S
axis_forms_are m S first last n ef el en =
    let f = ef ∙ first_axis m (pos S) in let l = el ∙ last_axis m (pos S) in record {
      first_is = f;
      last_is = l;
      n_is = en ∙ ap₂ (λ x y. dot_on_cell x y x y) f l;
    }

-- the forms of the point l steps on
pub forms_between : (line : Line) (m : SweepOf) (o first next p : List ℤ) (j k S : ℕ) (l : ℤ) → IsThroughBetween line m o (scaled_way (pos S) first next) j k S
    → IsAlong o first next p l → HasFormsBetween line l m p j k S
forms_between line m o first next p j k S l is on =
    let s = pos S in let v = scaled_way s first next in
    let P = offset_at m o (pos j) s in let Q = offset_at m o (pos k) s in let A = axis_at m (pos j) s in let C = axis_at m (pos k) s in
    let n = n_between m j k S in let u = u_between m o j k S in let w = dot_on_cell v v A C in let d = d_between m o j k S in let f = dot_on_cell P Q v v in let g = dot_on_cell v v v v in
    let start = offset_moves m o first next p (pos j) s l on in
    let end = offset_moves m o first next p (pos k) s l on in
    let U : u_between m p j k S ≡ moved3 u w l = ap₂ (λ x y. dot_on_cell x y A C) start end ∙ u_moves P Q A C v l in
    let D : d_between m p j k S ≡ moved_twice d f g l = ap₂ (λ x y. dot_on_cell x y x y) start end ∙ d_moves P Q v l in record {
      width = ap (λ x. quadratics x line.first.c line.second.c l) is.constant_is ∙ ap₂ (λ x y. quadratics (spread_form (pos 4) d n u u) x y l) is.first_is is.second_is
          ∙ width_moves n u w d f g l ∙ ap₂ (λ x y. spread_form (pos 4) x n y y) (sym D) (sym U);
      height = ap₂ (λ x y. moved3 x y l) is.height_is is.height_step_is ∙ sym U;
    }

pub forms_are : (line : Line) (m : SweepOf) (o first next p : List ℤ) (S : ℕ) (l : ℤ) → IsThrough line m o (scaled_way (pos S) first next) S → IsAlong o first next p l → HasForms line l m p S
forms_are line m o first next p S l is on = forms_between line m o first next p 0 S S l is on

-- a line by offsets and axes as they are kept
pub line_as : (line : Line) (p q v a c P Q V A C : List ℤ) → p ≡ P → q ≡ Q → v ≡ V → a ≡ A → c ≡ C → IsLineFrom line p q v a c → IsLineFrom line P Q V A C
line_as line p q v a c P Q V A C ep eq ev ea ec is =
    let l0 = subst (λ (z : List ℤ). IsLineFrom line z q v a c) ep is in let l1 = subst (λ (z : List ℤ). IsLineFrom line P z v a c) eq l0 in
    let l2 = subst (λ (z : List ℤ). IsLineFrom line P Q z a c) ev l1 in let l3 = subst (λ (z : List ℤ). IsLineFrom line P Q V z c) ea l2 in
    subst (λ (z : List ℤ). IsLineFrom line P Q V A z) ec l3

-- moments
minor_moves : (p q t w a b j : ℤ) → (p +ℤ j *ℤ t) *ℤ b -ℤ (q +ℤ j *ℤ w) *ℤ a ≡ (p *ℤ b -ℤ q *ℤ a) +ℤ j *ℤ (t *ℤ b -ℤ w *ℤ a)
minor_moves p q t w a b j =
    let P = var 0 in let Q = var 1 in let T = var 2 in let W = var 3 in let A = var 4 in let B = var 5 in let J = var 6 in
    ring (p ∷ q ∷ t ∷ w ∷ a ∷ b ∷ j ∷ []) (sub (mul (add P (mul J T)) B) (mul (add Q (mul J W)) A)) (add (sub (mul P B) (mul Q A)) (mul J (sub (mul T B) (mul W A)))) refl

moment_moves : (p a t : List ℤ) (j : ℤ) → moment (moved3 p t j) a ≡ moved3 (moment p a) (moment t a) j
moment_moves p a t j =
    same3 _ _ _ _ _ _ (minor_moves (at p 1) (at p 2) (at t 1) (at t 2) (at a 1) (at a 2) j) (minor_moves (at p 2) (at p 0) (at t 2) (at t 0) (at a 2) (at a 0) j)
    (minor_moves (at p 0) (at p 1) (at t 0) (at t 1) (at a 0) (at a 1) j)

sum_moves : (x y z w j : ℤ) → (x +ℤ j *ℤ y) +ℤ (z +ℤ j *ℤ w) ≡ (x +ℤ z) +ℤ j *ℤ (y +ℤ w)
sum_moves x y z w j =
    let X = var 0 in let Y = var 1 in let Z = var 2 in let W = var 3 in let J = var 4 in
    ring (x ∷ y ∷ z ∷ w ∷ j ∷ []) (add (add X (mul J Y)) (add Z (mul J W))) (add (add X Z) (mul J (add Y W))) refl

vector_sum_moves : (x y z w : List ℤ) (j : ℤ) → vector_sum (moved3 x y j) (moved3 z w j) ≡ moved3 (vector_sum x z) (vector_sum y w) j
vector_sum_moves x y z w j =
    same3 _ _ _ _ _ _ (sum_moves (at x 0) (at y 0) (at z 0) (at w 0) j) (sum_moves (at x 1) (at y 1) (at z 1) (at w 1) j) (sum_moves (at x 2) (at y 2) (at z 2) (at w 2) j)

middle_moves : (p q a c t : List ℤ) (j : ℤ) → middle_moment (moved3 p t j) (moved3 q t j) a c ≡ moved3 (middle_moment p q a c) (middle_moment t t a c) j
middle_moves p q a c t j =
    ap₂ vector_sum (moment_moves p c t j) (moment_moves q a t j) ∙ vector_sum_moves (moment p c) (moment t c) (moment q a) (moment t a) j

-- their scalar products are the width forms
lagrange : (p p' q q' a c : List ℤ) → moment_product p p' q q' a c ≡ less_squares p p' q q' a c
lagrange p p' q q' a c =
    same5 _ _ _ _ _ _ _ _ _ _ (sym (lagrange_at p p' q q' a c 0 (omega arith))) (sym (lagrange_at p p' q q' a c 1 (omega arith)))
    (sym (lagrange_at p p' q q' a c 2 (omega arith))) (sym (lagrange_at p p' q q' a c 3 (omega arith))) (sym (lagrange_at p p' q q' a c 4 (omega arith)))

pub product_as : (x0 x1 x2 y0 y1 y2 z0 z1 z2 w0 w1 w2 : List ℤ) → x0 ≡ z0 → x1 ≡ z1 → x2 ≡ z2 → y0 ≡ w0 → y1 ≡ w1 → y2 ≡ w2 → vector_product x0 x1 x2 y0 y1 y2 ≡ vector_product z0 z1 z2 w0 w1 w2
product_as x0 x1 x2 y0 y1 y2 z0 z1 z2 w0 w1 w2 e0 e1 e2 f0 f1 f2 =
    ap (λ x. vector_product x x1 x2 y0 y1 y2) e0 ∙ ap (λ x. vector_product z0 x x2 y0 y1 y2) e1 ∙ ap (λ x. vector_product z0 z1 x y0 y1 y2) e2
    ∙ ap (λ x. vector_product z0 z1 z2 x y1 y2) f0 ∙ ap (λ x. vector_product z0 z1 z2 w0 x y2) f1 ∙ ap (λ x. vector_product z0 z1 z2 w0 w1 x) f2

pub product_is : (by : ℤ) (x0 x1 x2 y0 y1 y2 p p' q q' a c : List ℤ) → x0 ≡ moment p a → x1 ≡ middle_moment p p' a c → x2 ≡ moment p' c → y0 ≡ moment q a → y1 ≡ middle_moment q q' a c → y2 ≡ moment q' c
    → scaled4 by (vector_product x0 x1 x2 y0 y1 y2) ≡ spread_form by (dot_on_cell p p' q q') (dot_on_cell a c a c) (dot_on_cell p p' a c) (dot_on_cell q q' a c)
product_is by x0 x1 x2 y0 y1 y2 p p' q q' a c e0 e1 e2 f0 f1 f2 =
    ap (scaled4 by) (product_as x0 x1 x2 y0 y1 y2 (moment p a) (middle_moment p p' a c) (moment p' c) (moment q a) (middle_moment q q' a c) (moment q' c) e0 e1 e2 f0 f1 f2 ∙ lagrange p p' q q' a c)

-- the moments of a point, by its offsets and the axes as they are kept
pub moments_are : (x : Moments) (p q a c P Q A C : List ℤ) → AreMoments x p q a c → p ≡ P → q ≡ Q → a ≡ A → c ≡ C → AreMoments x P Q A C
moments_are x p q a c P Q A C are ep eq ea ec =
    let m0 = subst (λ (z : List ℤ). AreMoments x z q a c) ep are in let m1 = subst (λ (z : List ℤ). AreMoments x P z a c) eq m0 in
    let m2 = subst (λ (z : List ℤ). AreMoments x P Q z c) ea m1 in subst (λ (z : List ℤ). AreMoments x P Q A z) ec m2

-- line j of a sheet, as what its parts are
pub record HasRay (sheet : Sheet) (m : SweepOf) (o v : List ℤ) (S : ℕ) (j : ℤ) : Type 0 where
  pub start : start_at sheet j ≡ moment (offset_at m o (pos 0) (pos S)) (axis_at m (pos 0) (pos S))
  pub middle : middle_at sheet j ≡ middle_moment (offset_at m o (pos 0) (pos S)) (offset_at m o (pos S) (pos S)) (axis_at m (pos 0) (pos S)) (axis_at m (pos S) (pos S))
  pub end : end_at sheet j ≡ moment (offset_at m o (pos S) (pos S)) (axis_at m (pos S) (pos S))
  pub constant : own_product sheet j ≡ whole_width m o S
  pub first : first_at sheet j ≡ spread_form (pos 8) (d_step m o v S) (n_between m 0 S S) (u_between m o 0 S S) (u_step m v S)
  pub height : moved3 sheet.height sheet.height_side j ≡ u_between m o 0 S S

pub ray_by : (sheet : Sheet) (m : SweepOf) (start first next v o : List ℤ) (S : ℕ) (j : ℤ) → IsSheet sheet m start v (scaled_way (pos S) first next) S → IsAlong start first next o j → HasRay sheet m o v S j
ray_by sheet m start first next v o S j is on =
    let s = pos S in let t = scaled_way s first next in
    let P = offset_at m start (pos 0) s in let Q = offset_at m start s s in let A = axis_at m (pos 0) s in let C = axis_at m s s in
    let F = offset_at m o (pos 0) s in let T = offset_at m o s s in
    let from = offset_moves m start first next o (pos 0) s j on in
    let to = offset_moves m start first next o s s j on in
    let e0 : start_at sheet j ≡ moment F A = ap₂ (λ x y. moved3 x y j) is.start.start_is is.side.start_is ∙ sym (moment_moves P A t j) ∙ ap (λ x. moment x A) (sym from) in
    let e1 : middle_at sheet j ≡ middle_moment F T A C = ap₂ (λ x y. moved3 x y j) is.start.middle_is is.side.middle_is ∙ sym (middle_moves P Q A C t j) ∙ ap₂ (λ x y. middle_moment x y A C) (sym from) (sym to) in
    let e2 : end_at sheet j ≡ moment T C = ap₂ (λ x y. moved3 x y j) is.start.end_is is.side.end_is ∙ sym (moment_moves Q C t j) ∙ ap (λ x. moment x C) (sym to) in
    let U : u_between m o 0 S S ≡ moved3 (u_between m start 0 S S) (u_step m t S) j = ap₂ (λ x y. dot_on_cell x y A C) from to ∙ u_moves P Q A C t j in
    let D : d_step m o v S ≡ moved3 (d_step m start v S) (dot_on_cell t t v v) j = ap₂ (λ x y. dot_on_cell x y v v) from to ∙ u_moves P Q v v t j in record {
      start = e0;
      middle = e1;
      end = e2;
      constant = product_is (pos 4) (start_at sheet j) (middle_at sheet j) (end_at sheet j) (start_at sheet j) (middle_at sheet j) (end_at sheet j) F T F T A C e0 e1 e2 e0 e1 e2;
      first = ap₂ (λ x y. moved5 x y j) is.first_is is.first_side_is
          ∙ first_moves (n_between m 0 S S) (u_step m v S) (d_step m start v S) (dot_on_cell t t v v) (u_between m start 0 S S) (u_step m t S) j
          ∙ ap₂ (λ x y. spread_form (pos 8) x (n_between m 0 S S) y (u_step m v S)) (sym D) (sym U);
      height = ap₂ (λ x y. moved3 x y j) is.height_is is.height_side_is ∙ sym U;
    }

pub ray_is : (sheet : Sheet) (m : SweepOf) (start beside v o : List ℤ) (S : ℕ) (j : ℤ) → IsSheet sheet m start v (scaled_way (pos S) start beside) S → IsAlong start start beside o j → HasRay sheet m o v S j
ray_is sheet m start beside v o S j is on = ray_by sheet m start start beside v o S j is on

pub line_is : (line : Line) (sheet : Sheet) (m : SweepOf) (start v t o : List ℤ) (S : ℕ) (j : ℤ) → IsSheet sheet m start v t S → HasRay sheet m o v S j → IsLineOn line sheet j → IsThrough line m o v S
line_is line sheet m start v t o S j is ray on = record {
  constant_is = on.constant_is ∙ ray.constant;
  first_is = on.first_is ∙ ray.first;
  second_is = on.second_is ∙ is.second_is;
  height_is = on.height_is ∙ ray.height;
  height_step_is = on.height_step_is ∙ is.height_step_is;
}
