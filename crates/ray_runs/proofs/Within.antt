-- Where points are apart on a stretch they are so on each of its cells, so no slab is left on any.
use Rattle.std.proofs.Common.{◌≡◌, ℕ, ◌+◌, ◌-◌, ◌*◌, ◌<◌, List, ℤ, pos, ◌+ℤ◌, ◌*ℤ◌, ◌-ℤ◌, ◌≤ℤ◌, ◌<ℤ◌, inl, inr, [], ◌∷◌, arith, refl, subst, sym, ap, ⊎_elim, ◌∙◌}
use Rattle.std.proofs.lemmas.Int.{ints}
use Rattle.space.specs.Sweeps.{SweepOf, axis_at, between, offset, offset_at}
use Rattle.space.specs.Vectors.{at}
use Rattle.space.proofs.Solver.{Term, var, add, mul, ring}
use Rattle.space.proofs.Terms.{sub}
use Rattle.bern_form.specs.Cells.{dot_on_cell}
use Rattle.bern_form.specs.Forms.{lifted}
use Rattle.ray_boxes.proofs.Lines.{IsLine}
use Rattle.ray_runs.specs.Missed.{AreBeside, AreMissed, AreOutBeside, IsBehind, IsPairAt}
use Rattle.moment_forms.specs.Moments.{moment_product}
use Rattle.ray_runs.proofs.Boxes.{apart_at, apart_same}
use Rattle.moment_forms.proofs.Middle.{middle_is}
use Rattle.ray_runs.proofs.Parts.{AreMixed, IsMixed, dot_part, mean2, moment_part, raised_part, turn_parts, weight}
use Rattle.ray_runs.proofs.Weights.{IsCut, above_of_sums, crossed_natural, crossed_positive, factor_natural, factor_negative, more_positive, natural_of, positive_more, product_positive, squared_natural, sum_natural, summed_natural, three_negative, weight_natural, weight_some, whole_positive}

-- behind the tip
behind_within : (s w v x y : ℤ) (p q a c P Q A C : List ℤ) → IsCut s w v x y → AreMixed s w v x y p q P Q → AreMixed s w v x y a c A C → IsBehind p q a c → IsBehind P Q A C
behind_within s w v x y p q a c P Q A C cut h k behind =
    let e = dot_part s w v x y p q a c P Q A C h k in
    let ss = product_positive s s (whole_positive s w v x y cut) (whole_positive s w v x y cut) in
    let W = natural_of w cut.first in let Y = natural_of y cut.last in
    let sq = squared_natural w x W cut.after in let cr = crossed_natural w v x y W cut.before cut.after Y in let tq = squared_natural v y cut.before Y in
    let c1 = subst (λ z. z <ℤ pos 0) (sym (middle_is p q a c)) behind.1 in
    let ww = product_positive w w cut.first cut.first in let yy = product_positive y y cut.last cut.last in let wy = crossed_positive s w v x y cut in
    let n0 = sq.first in let n1 = sq.middle in let n2 = sq.last in let b0 = cr.first in let b1 = cr.middle in let b2 = cr.last in let t0 = tq.first in let t1 = tq.middle in let t2 = tq.last in
    let one = λ (i : ℕ) (low : mean2 w v x y (dot_on_cell p q a c) i <ℤ pos 0) (same : (s *ℤ s) *ℤ at (dot_on_cell P Q A C) i ≡ mean2 w v x y (dot_on_cell p q a c) i).
    factor_negative (s *ℤ s) (at (dot_on_cell P Q A C) i) ss (subst (λ z. z <ℤ pos 0) (sym same) low) in
    let first = one 0 (three_negative _ _ _ _ _ _ n0 b0 t0 (positive_more _ _ (positive_more _ _ ww b0) t0) behind.0 c1 behind.2) (λ i. at (e i) 0) in
    let middle = one 1 (three_negative _ _ _ _ _ _ n1 b1 t1 (positive_more _ _ (more_positive _ _ n1 wy) t1) behind.0 c1 behind.2) (λ i. at (e i) 1) in
    let last = one 2 (three_negative _ _ _ _ _ _ n2 b2 t2 (more_positive _ _ (sum_natural _ _ n2 b2) yy) behind.0 c1 behind.2) (λ i. at (e i) 2) in
    (first, subst (λ z. z <ℤ pos 0) (middle_is P Q A C) middle, last)

-- beside a diameter
beside_within : (s w v x y f : ℤ) (p p' q q' a c P P' Q Q' A C : List ℤ) → IsCut s w v x y → AreMixed s w v x y p p' P P' → AreMixed s w v x y q q' Q Q' → AreMixed s w v x y a c A C
    → AreBeside f p p' q q' a c → AreBeside f P P' Q Q' A C
beside_within s w v x y f p p' q q' a c P P' Q Q' A C cut hp hq ha beside k l =
    let ss = product_positive s s (whole_positive s w v x y cut) (whole_positive s w v x y cut) in let t = (s *ℤ s) *ℤ (s *ℤ s) in let some = product_positive (s *ℤ s) (s *ℤ s) ss ss in
    let m = weight w v x y k in let n = weight_natural s w v x y k l cut in let more = weight_some s w v x y k l cut in
    let f1 = turn_parts s w v x y p p' a c P P' A C hp ha in let f2 = turn_parts s w v x y q q' a c Q Q' A C hq ha in
    let r = at (lifted (dot_on_cell a c a c)) in
    let er = raised_part s w v x y (dot_on_cell a c a c) (dot_on_cell A C A C) k l cut.start cut.end (dot_part s w v x y a c a c A C A C ha ha) in
    let ex = moment_part (s *ℤ s) w v x y p p' p p' a c P P' P P' A C k l f1 f1 in
    let ey = moment_part (s *ℤ s) w v x y p p' q q' a c P P' Q Q' A C k l f1 f2 in
    let ez = moment_part (s *ℤ s) w v x y q q' q q' a c Q Q' Q Q' A C k l f2 f2 in record {
      not_below = factor_natural t (at (lifted (dot_on_cell A C A C)) k) some (subst (λ z. pos 0 ≤ℤ z) (sym er) (summed_natural m r n (λ i h. (beside i h).not_below)));
      first = above_of_sums t f (at (lifted (dot_on_cell A C A C)) k) (at (moment_product P P' P P' A C) k) m r (at (moment_product p p' p p' a c)) some n more er ex (λ i h. (beside i h).first);
      between = above_of_sums t f (at (lifted (dot_on_cell A C A C)) k) (at (moment_product P P' Q Q' A C) k) m r (at (moment_product p p' q q' a c)) some n more er ey (λ i h. (beside i h).between);
      last = above_of_sums t f (at (lifted (dot_on_cell A C A C)) k) (at (moment_product Q Q' Q Q' A C) k) m r (at (moment_product q q' q q' a c)) some n more er ez (λ i h. (beside i h).last);
    }

apart_within : (s w v x y f : ℤ) (p p' q q' a c P P' Q Q' A C : List ℤ) → IsCut s w v x y → AreMixed s w v x y p p' P P' → AreMixed s w v x y q q' Q Q' → AreMixed s w v x y a c A C
    → AreMissed f p p' q q' a c → AreMissed f P P' Q Q' A C
apart_within s w v x y f p p' q q' a c P P' Q Q' A C cut hp hq ha apart =
    ⊎_elim (λ behind. inl (behind_within s w v x y p p' a c P P' A C cut hp ha behind.0, behind_within s w v x y q q' a c Q Q' A C cut hq ha behind.1))
    (λ beside. inr (beside_within s w v x y f p p' q q' a c P P' Q Q' A C cut hp hq ha beside)) apart

-- offsets and axes are linear in the number of the sample
between_mixed : (s w v i j k S f t : ℤ) → s ≡ w +ℤ v → s *ℤ i ≡ w *ℤ j +ℤ v *ℤ k → s *ℤ between i S f t ≡ w *ℤ between j S f t +ℤ v *ℤ between k S f t
between_mixed s w v i j k S f t es ei =
    let before : s *ℤ between i S f t ≡ ((s *ℤ S) *ℤ f -ℤ (s *ℤ i) *ℤ f) +ℤ (s *ℤ i) *ℤ t =
    ring (s ∷ i ∷ S ∷ f ∷ t ∷ []) (mul (var 0) (add (mul (sub (var 2) (var 1)) (var 3)) (mul (var 1) (var 4))))
    (add (sub (mul (mul (var 0) (var 2)) (var 3)) (mul (mul (var 0) (var 1)) (var 3))) (mul (mul (var 0) (var 1)) (var 4))) refl in
    let W = var 0 in let V = var 1 in let J = var 2 in let K = var 3 in let X = var 4 in let F = var 5 in let T = var 6 in
    let place = add (mul W J) (mul V K) in let at_time = λ (n : Term). add (mul (sub X n) F) (mul n T) in
    let after : (((w +ℤ v) *ℤ S) *ℤ f -ℤ (w *ℤ j +ℤ v *ℤ k) *ℤ f) +ℤ (w *ℤ j +ℤ v *ℤ k) *ℤ t ≡ w *ℤ between j S f t +ℤ v *ℤ between k S f t =
    ring (w ∷ v ∷ j ∷ k ∷ S ∷ f ∷ t ∷ []) (add (sub (mul (mul (add W V) X) F) (mul place F)) (mul place T)) (add (mul W (at_time J)) (mul V (at_time K))) refl in
    before ∙ (λ z. ((es z *ℤ S) *ℤ f -ℤ ei z *ℤ f) +ℤ ei z *ℤ t) ∙ after

offset_mixed : (s w v i j k S p f t : ℤ) → s ≡ w +ℤ v → s *ℤ i ≡ w *ℤ j +ℤ v *ℤ k → s *ℤ offset i S p f t ≡ w *ℤ offset j S p f t +ℤ v *ℤ offset k S p f t
offset_mixed s w v i j k S p f t es ei =
    let b = between i S f t in let b1 = between j S f t in let b2 = between k S f t in
    let before : s *ℤ (S *ℤ p -ℤ b) ≡ s *ℤ (S *ℤ p) -ℤ s *ℤ b = ring (s ∷ S ∷ p ∷ b ∷ []) (mul (var 0) (sub (mul (var 1) (var 2)) (var 3))) (sub (mul (var 0) (mul (var 1) (var 2))) (mul (var 0) (var 3))) refl in
    let after : (w +ℤ v) *ℤ (S *ℤ p) -ℤ (w *ℤ b1 +ℤ v *ℤ b2) ≡ w *ℤ (S *ℤ p -ℤ b1) +ℤ v *ℤ (S *ℤ p -ℤ b2) =
    ring (w ∷ v ∷ S ∷ p ∷ b1 ∷ b2 ∷ []) (sub (mul (add (var 0) (var 1)) (mul (var 2) (var 3))) (add (mul (var 0) (var 4)) (mul (var 1) (var 5))))
    (add (mul (var 0) (sub (mul (var 2) (var 3)) (var 4))) (mul (var 1) (sub (mul (var 2) (var 3)) (var 5)))) refl in
    let linear = between_mixed s w v i j k S f t es ei in
    before ∙ (λ z. es z *ℤ (S *ℤ p) -ℤ linear z) ∙ after

offsets_mixed : (m : SweepOf) (p : List ℤ) (s w v : ℤ) (i j k S : ℕ) → s ≡ w +ℤ v → s *ℤ pos i ≡ w *ℤ pos j +ℤ v *ℤ pos k
    → IsMixed s w v (offset_at m p (pos j) (pos S)) (offset_at m p (pos k) (pos S)) (offset_at m p (pos i) (pos S))
offsets_mixed m p s w v i j k S es ei = record {
  x = offset_mixed s w v (pos i) (pos j) (pos k) (pos S) (at p 0) (at m.from 0) (at m.to 0) es ei;
  y = offset_mixed s w v (pos i) (pos j) (pos k) (pos S) (at p 1) (at m.from 1) (at m.to 1) es ei;
  z = offset_mixed s w v (pos i) (pos j) (pos k) (pos S) (at p 2) (at m.from 2) (at m.to 2) es ei;
}

axes_mixed : (m : SweepOf) (s w v : ℤ) (i j k S : ℕ) → s ≡ w +ℤ v → s *ℤ pos i ≡ w *ℤ pos j +ℤ v *ℤ pos k
    → IsMixed s w v (axis_at m (pos j) (pos S)) (axis_at m (pos k) (pos S)) (axis_at m (pos i) (pos S))
axes_mixed m s w v i j k S es ei = record {
  x = between_mixed s w v (pos i) (pos j) (pos k) (pos S) (at m.axis_from 0) (at m.axis_to 0) es ei;
  y = between_mixed s w v (pos i) (pos j) (pos k) (pos S) (at m.axis_from 1) (at m.axis_to 1) es ei;
  z = between_mixed s w v (pos i) (pos j) (pos k) (pos S) (at m.axis_from 2) (at m.axis_to 2) es ei;
}

offset_ends : (m : SweepOf) (p : List ℤ) (s w v x y : ℤ) (i j k S : ℕ) → s ≡ w +ℤ v → s *ℤ pos i ≡ w *ℤ pos j +ℤ v *ℤ pos k → s ≡ x +ℤ y → s *ℤ pos (i + 1) ≡ x *ℤ pos j +ℤ y *ℤ pos k
    → AreMixed s w v x y (offset_at m p (pos j) (pos S)) (offset_at m p (pos k) (pos S)) (offset_at m p (pos i) (pos S)) (offset_at m p (pos (i + 1)) (pos S))
offset_ends m p s w v x y i j k S start place end next = record { start = offsets_mixed m p s w v i j k S start place; end = offsets_mixed m p s x y (i + 1) j k S end next }

-- the points from one index to another are apart between the samples j and k
abbrev AreMissedBetween : ℤ → SweepOf → (ℕ → List ℤ) → ℕ → ℕ → ℕ → ℕ → ℕ → Type 0
AreMissedBetween f m point S from to j k =
    AreMissed f (offset_at m (point from) (pos j) (pos S)) (offset_at m (point from) (pos k) (pos S))
    (offset_at m (point to) (pos j) (pos S)) (offset_at m (point to) (pos k) (pos S)) (axis_at m (pos j) (pos S)) (axis_at m (pos k) (pos S))

-- v cells into a stretch, with x cells after it
apart_on_cell : (f : ℤ) (m : SweepOf) (point : ℕ → List ℤ) (S from to j v x : ℕ)
    → AreMissedBetween f m point S from to j (j + (v + (x + 1))) → AreMissedBetween f m point S from to (j + v) (j + v + 1)
apart_on_cell f m point S from to j v x apart =
    let k = j + (v + (x + 1)) in let i = j + v in let s = pos (v + (x + 1)) in let w = pos (x + 1) in let y = pos (v + 1) in
    let first : (v + (x + 1)) * i ≡ (x + 1) * j + v * k = omega arith in
    let last : (v + (x + 1)) * (i + 1) ≡ x * j + (v + 1) * k = omega arith in
    let start : s ≡ w +ℤ pos v = omega (arith, ints) in let end : s ≡ pos x +ℤ y = omega (arith, ints) in
    let cut : IsCut s w (pos v) (pos x) y = record { first = omega (arith, ints); before = omega (arith, ints); after = omega (arith, ints); last = omega (arith, ints); start = start; end = end } in
    let place : s *ℤ pos i ≡ w *ℤ pos j +ℤ pos v *ℤ pos k = ap pos first in let next : s *ℤ pos (i + 1) ≡ pos x *ℤ pos j +ℤ y *ℤ pos k = ap pos last in
    let mixed = λ (p : List ℤ). offset_ends m p s w (pos v) (pos x) y i j k S start place end next in
    apart_within s w (pos v) (pos x) y f _ _ _ _ _ _ _ _ _ _ _ _ cut (mixed (point from)) (mixed (point to))
    (record { start = axes_mixed m s w (pos v) i j k S start place; end = axes_mixed m s (pos x) y (i + 1) j k S end next }) apart

-- so no slab is left on any of its cells
out_of_apart : (m : SweepOf) (point : ℕ → List ℤ) (S from to j k : ℕ) (f : ℤ) → IsLine point → 0 < S → AreMissedBetween f m point S from to j k → AreOutBeside f m point S from to j k
out_of_apart m point S from to j k f line some apart slabs most e narrow l after before = record {
  none = λ c h b.
      let v = c - j in let x = k - (c + 1) in
      let ek : k ≡ j + (v + (x + 1)) = omega arith in let ec : j + v ≡ c = omega arith in
      let here = apart_on_cell f m point S from to j v x (subst (λ z. AreMissedBetween f m point S from to j z) ek apart) in
      let cell = subst (λ z. AreMissedBetween f m point S from to z (z + 1)) ec here in
      (apart_at m point S from to c 0 f line some cell slabs most e narrow l after before).none c (omega arith) (omega arith);
}

pub apart_out : (m : SweepOf) (point : ℕ → List ℤ) (S from to j k : ℕ) (f : ℤ) (p q a p' q' c : List ℤ) → IsLine point → 0 < S → IsPairAt m point from to j S p q a
    → IsPairAt m point from to k S p' q' c → AreMissed f p p' q q' a c → AreOutBeside f m point S from to j k
apart_out m point S from to j k f p q a p' q' c line some x y apart =
    out_of_apart m point S from to j k f line some (apart_same f p p' q q' a c _ _ _ _ _ _ x.first y.first x.last y.last x.axis y.axis apart)
