-- Whether each number of a form of degree 2 is below 0, as they are read from their words one by one.
use Rattle.std.proofs.Common.{◌≡◌, ◌&&◌, [], ◌∷◌, Bool, true, false, List, length, ℤ, pos, to_z, of_z, arith, refl, ap, ap₂, sym, ◌∙◌}
use Rattle.std.specs.Prelude.{int_lt}
use Rattle.std.proofs.lemmas.Int.{to_z-of_z}
use mir.Syntax.{w64}
use Rattle.space.specs.Vectors.{at}
use Rattle.bern_form.specs.Forms.{all_negative}
use Rattle.width_bisect.proofs.Fitting.{FormFits}

abbrev below : ℤ → Bool
below x = int_lt (to_z w64 (of_z w64 x)) (pos 0)

and_true : (b : Bool) → (b && true) ≡ b
and_true true = refl
and_true false = refl

by_three : (l : List ℤ) → length l ≡ 3 → all_negative l ≡ (int_lt (at l 0) (pos 0) && (int_lt (at l 1) (pos 0) && int_lt (at l 2) (pos 0)))
by_three [] e = absurd (omega (arith, e))
by_three (a ∷ []) e = absurd (omega (arith, e))
by_three (a ∷ b ∷ []) e = absurd (omega (arith, e))
by_three (a ∷ b ∷ c ∷ []) e = ap (λ t. int_lt a (pos 0) && (int_lt b (pos 0) && t)) (and_true (int_lt c (pos 0)))
by_three (a ∷ b ∷ c ∷ d ∷ l) e = absurd (omega (arith, e))

behind_is : (l : List ℤ) → length l ≡ 3 → FormFits l → all_negative l ≡ (below (at l 0) && (below (at l 1) && below (at l 2)))
behind_is l long f =
    by_three l long
    ∙ sym (λ i. int_lt (to_z-of_z w64 (at l 0) f.first i) (pos 0) && (int_lt (to_z-of_z w64 (at l 1) f.middle i) (pos 0) && int_lt (to_z-of_z w64 (at l 2) f.last i) (pos 0)))

-- the first that isn't below 0 decides, or else the last one
pub by_first : (l : List ℤ) (v : Bool) → length l ≡ 3 → FormFits l → below (at l 0) ≡ false → v ≡ false → v ≡ all_negative l
by_first l v long f first none = none ∙ sym (behind_is l long f ∙ ap (λ s. s && (below (at l 1) && below (at l 2))) first)

pub by_second : (l : List ℤ) (v : Bool) → length l ≡ 3 → FormFits l → below (at l 0) ≡ true → v ≡ below (at l 1) → v ≡ false → v ≡ all_negative l
by_second l v long f first second none =
    none ∙ sym (behind_is l long f ∙ ap₂ (λ s t. s && (t && below (at l 2))) first (sym second ∙ none))

pub by_last : (l : List ℤ) (v : Bool) → length l ≡ 3 → FormFits l → below (at l 0) ≡ true → v ≡ below (at l 1) → v ≡ true → below (at l 2) ≡ all_negative l
by_last l v long f first second both = sym (behind_is l long f ∙ ap₂ (λ s t. s && (t && below (at l 2))) first (sym second ∙ both))
