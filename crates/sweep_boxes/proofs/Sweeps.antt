-- The two ends of a part of a move, and its middle.
use Rattle.std.proofs.Common.{◌≡◌, ℕ, ◌+◌, ◌*◌, [], ◌∷◌, List, ℤ, pos, ◌+ℤ◌, ◌*ℤ◌, ◌-ℤ◌, arith, ap, refl, sym, ◌∙◌}
use Rattle.std.proofs.lemmas.Int.{ints}
use Rattle.space.specs.Sweeps.{SweepOf, axis_at, between, offset, offset_at}
use Rattle.space.specs.Vectors.{at, difference, sum}
use Rattle.space.proofs.Ring.{mul_assoc_ℤ}
use Rattle.space.proofs.Solver.{var, num, add, mul, ring}
use Rattle.space.proofs.Terms.{sub}
use Rattle.sweep_boxes.specs.Intervals.{axis_change_of, middle_axis, middle_offset, offset_change_of}

same3 : (a b c d e f : ℤ) → a ≡ d → b ≡ e → c ≡ f → a ∷ b ∷ c ∷ [] ≡ d ∷ e ∷ f ∷ []
same3 a b c d e f h k l = ap (λ z. z ∷ b ∷ c ∷ []) h ∙ ap (λ z. d ∷ z ∷ c ∷ []) k ∙ ap (λ z. d ∷ e ∷ z ∷ []) l

odd : (k : ℕ) → pos (2 * k + 1) ≡ pos 2 *ℤ pos k +ℤ pos 1
odd k = omega (arith, ints)

even : (S : ℕ) → pos (2 * S) ≡ pos 2 *ℤ pos S
even S = omega (arith, ints)

next : (k : ℕ) → pos (k + 1) ≡ pos k +ℤ pos 1
next k = omega (arith, ints)

-- along one axis
axis_sum : (k S : ℕ) (f t : ℤ) → between (pos k) (pos S) f t +ℤ between (pos (k + 1)) (pos S) f t ≡ between (pos (2 * k + 1)) (pos (2 * S)) f t
axis_sum k S f t =
    ap (λ z. between (pos k) (pos S) f t +ℤ between z (pos S) f t) (next k) ∙ whole (pos k) (pos S) f t
    ∙ ap (λ z. between z (pos 2 *ℤ pos S) f t) (sym (odd k)) ∙ ap (λ z. between (pos (2 * k + 1)) z f t) (sym (even S)) where
      whole : (k S f t : ℤ) → between k S f t +ℤ between (k +ℤ pos 1) S f t ≡ between (pos 2 *ℤ k +ℤ pos 1) (pos 2 *ℤ S) f t
      whole k S f t =
          let K = var 0 in let Z = var 1 in let F = var 2 in let T = var 3 in let K1 = add K (num (pos 1)) in
          let K2 = add (mul (num (pos 2)) K) (num (pos 1)) in let Z2 = mul (num (pos 2)) Z in
          ring (k ∷ S ∷ f ∷ t ∷ []) (add (add (mul (sub Z K) F) (mul K T)) (add (mul (sub Z K1) F) (mul K1 T))) (add (mul (sub Z2 K2) F) (mul K2 T)) refl

offset_sum_of : (s p a b c : ℤ) → a +ℤ b ≡ c → (s *ℤ p -ℤ a) +ℤ (s *ℤ p -ℤ b) ≡ (pos 2 *ℤ s) *ℤ p -ℤ c
offset_sum_of s p a b c e = omega (arith, ints, e, mul_assoc_ℤ (pos 2) s p)

offset_sum : (k S : ℕ) (p f t : ℤ) → offset (pos k) (pos S) p f t +ℤ offset (pos (k + 1)) (pos S) p f t ≡ offset (pos (2 * k + 1)) (pos (2 * S)) p f t
offset_sum k S p f t = offset_sum_of (pos S) p (between (pos k) (pos S) f t) (between (pos (k + 1)) (pos S) f t) (between (pos (2 * k + 1)) (pos (2 * S)) f t) (axis_sum k S f t)

axis_step : (k S : ℕ) (f t : ℤ) → between (pos (k + 1)) (pos S) f t -ℤ between (pos k) (pos S) f t ≡ t -ℤ f
axis_step k S f t = ap (λ z. between z (pos S) f t -ℤ between (pos k) (pos S) f t) (next k) ∙ step (pos k) (pos S) f t where
  step : (k S f t : ℤ) → between (k +ℤ pos 1) S f t -ℤ between k S f t ≡ t -ℤ f
  step k S f t =
      let K = var 0 in let Z = var 1 in let F = var 2 in let T = var 3 in let K1 = add K (num (pos 1)) in
      ring (k ∷ S ∷ f ∷ t ∷ []) (sub (add (mul (sub Z K1) F) (mul K1 T)) (add (mul (sub Z K) F) (mul K T))) (sub T F) refl

offset_step_of : (s p a b f t : ℤ) → b -ℤ a ≡ t -ℤ f → (s *ℤ p -ℤ b) -ℤ (s *ℤ p -ℤ a) ≡ f -ℤ t
offset_step_of s p a b f t e = omega (arith, ints, e)

offset_step : (k S : ℕ) (p f t : ℤ) → offset (pos (k + 1)) (pos S) p f t -ℤ offset (pos k) (pos S) p f t ≡ f -ℤ t
offset_step k S p f t = offset_step_of (pos S) p (between (pos k) (pos S) f t) (between (pos (k + 1)) (pos S) f t) f t (axis_step k S f t)

-- the sums of both ends are the middle's, and the differences are those of the whole move
pub offsets_sum : (m : SweepOf) (p : List ℤ) (k S : ℕ) → sum (offset_at m p (pos k) (pos S)) (offset_at m p (pos (k + 1)) (pos S)) ≡ middle_offset m p k S
offsets_sum m p k S =
    same3 _ _ _ _ _ _ (offset_sum k S (at p 0) (at m.from 0) (at m.to 0)) (offset_sum k S (at p 1) (at m.from 1) (at m.to 1)) (offset_sum k S (at p 2) (at m.from 2) (at m.to 2))

pub axes_sum : (m : SweepOf) (k S : ℕ) → sum (axis_at m (pos k) (pos S)) (axis_at m (pos (k + 1)) (pos S)) ≡ middle_axis m k S
axes_sum m k S =
    same3 _ _ _ _ _ _ (axis_sum k S (at m.axis_from 0) (at m.axis_to 0)) (axis_sum k S (at m.axis_from 1) (at m.axis_to 1)) (axis_sum k S (at m.axis_from 2) (at m.axis_to 2))

pub offsets_step : (m : SweepOf) (p : List ℤ) (k S : ℕ) → difference (offset_at m p (pos (k + 1)) (pos S)) (offset_at m p (pos k) (pos S)) ≡ offset_change_of m
offsets_step m p k S =
    same3 _ _ _ _ _ _ (offset_step k S (at p 0) (at m.from 0) (at m.to 0)) (offset_step k S (at p 1) (at m.from 1) (at m.to 1)) (offset_step k S (at p 2) (at m.from 2) (at m.to 2))

pub axes_step : (m : SweepOf) (k S : ℕ) → difference (axis_at m (pos (k + 1)) (pos S)) (axis_at m (pos k) (pos S)) ≡ axis_change_of m
axes_step m k S =
    same3 _ _ _ _ _ _ (axis_step k S (at m.axis_from 0) (at m.axis_to 0)) (axis_step k S (at m.axis_from 1) (at m.axis_to 1)) (axis_step k S (at m.axis_from 2) (at m.axis_to 2))
