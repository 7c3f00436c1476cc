-- Each coefficient of a form on one side of a limit times another form's, compared in machine words one after the other.
use Rattle.std.proofs.Common.{◌≡◌, Bool, true, false, ℕ, ◌+◌, ◌<◌, ◌≤◌, List, ℤ, ◌*ℤ◌, FitsSigned, to_z, of_z, arith, ap, ap₂, subst, sym, ◌∙◌}
use Rattle.std.proofs.lemmas.Int.{to_z-of_z}
use mir.Syntax.{w64, w128}
use borrow.Author.Count.{below_more}
use Rattle.space.specs.Vectors.{at}
use Rattle.bern_form.specs.Forms.{difference4, scaled4}
use Rattle.box_bisect.specs.Sides.{all_on, is_on}
use Rattle.box_bisect.specs.declared.compare.Side.{Side}
use Rattle.box_bisect.proofs.Raised.{each_on, one_not_on}

-- the first i of them are
abbrev pub AreOn : Side → List ℤ → ℤ → List ℤ → ℕ → Type 0
AreOn side form limit raised i = (k : ℕ) → k < i → is_on side (at form k) (limit *ℤ at raised k) ≡ true

-- what a comparison of one finds, of the three numbers in words
abbrev Finds : Side → ℤ → ℤ → ℤ → Bool → Type 0
Finds side a limit r found = found ≡ is_on side (to_z w128 (of_z w128 a)) (to_z w64 (of_z w64 limit) *ℤ to_z w64 (of_z w64 r))

found_on : (side : Side) (a limit r : ℤ) (found : Bool) → FitsSigned w128 a → FitsSigned w64 r → Finds side a limit r found
    → found ≡ is_on side a (to_z w64 (of_z w64 limit) *ℤ r)
found_on side a limit r found fa fr e =
    e ∙ ap₂ (λ x y. is_on side x (to_z w64 (of_z w64 limit) *ℤ y)) (to_z-of_z w128 a fa) (to_z-of_z w64 r fr)

pub one_more_on : (side : Side) (form raised : List ℤ) (limit : ℤ) (i : ℕ) (found : Bool)
    → FitsSigned w128 (at form i) → FitsSigned w64 (at raised i) → Finds side (at form i) limit (at raised i) found → found ≡ true
    → AreOn side form (to_z w64 (of_z w64 limit)) raised i → AreOn side form (to_z w64 (of_z w64 limit)) raised (i + 1)
one_more_on side form raised limit i found fa fr e there before =
    below_more (λ k. is_on side (at form k) (to_z w64 (of_z w64 limit) *ℤ at raised k) ≡ true) i before
    (sym (found_on side (at form i) limit (at raised i) found fa fr e) ∙ there)

pub not_all_on : (side : Side) (form raised : List ℤ) (limit : ℤ) (i : ℕ) (found : Bool) → i < 5
    → FitsSigned w128 (at form i) → FitsSigned w64 (at raised i) → FitsSigned w64 limit
    → Finds side (at form i) limit (at raised i) found → found ≡ false
    → false ≡ all_on side (difference4 form (scaled4 limit raised))
not_all_on side form raised limit i found within fa fr fl e missed =
    let as_word = ap (λ z. is_on side (at form i) (z *ℤ at raised i)) (sym (to_z-of_z w64 limit fl)) in
    sym (one_not_on side form raised limit i within (as_word ∙ sym (found_on side (at form i) limit (at raised i) found fa fr e) ∙ missed))

pub then_all_on : (side : Side) (form raised : List ℤ) (limit : ℤ) (i : ℕ) → 5 ≤ i → FitsSigned w64 limit
    → AreOn side form (to_z w64 (of_z w64 limit)) raised i → true ≡ all_on side (difference4 form (scaled4 limit raised))
then_all_on side form raised limit i enough fl each =
    let all = subst (λ (z : ℤ). AreOn side form z raised i) (to_z-of_z w64 limit fl) each in
    sym (each_on side form raised limit (λ k l. all k (omega (arith, l, enough))))
