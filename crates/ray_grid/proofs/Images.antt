-- Where the turns take the point 1, 2, 3.
use Rattle.std.proofs.Common.{◌≡◌, ℕ, ◌+◌, ◌<◌, ℤ, pos, negsuc, Bool, true, false, ◌&&◌, eqb, List, [], ◌∷◌, length, map, get_or, arith, refl, sym, ap, ◌∙◌}
use Rattle.std.specs.List.{list_all, position_or_len, range_with_len}
use Rattle.std.specs.Ordering.{int_eq}
use Rattle.std.proofs.lemmas.Bool.{eqb-true, true≢false}
use Rattle.std.proofs.lemmas.List.{get_or-map}
use Rattle.std.proofs.lemmas.List.Folds.{list_all_at}
use Rattle.std.proofs.lemmas.List.FromFn.{get_or-range_with_len, length-range_with_len}
use Rattle.space.specs.Vectors.{at}
use Rattle.ray_grid.specs.declared.turn.Turn.{Turn}
use Rattle.ray_grid.specs.Turns.{forth}
use Rattle.ray_grid.specs.TurnLaws.{all_turns}

-- the places to which they take it, in the order of the turns
images : List (List ℤ)
images =
    (pos 1 ∷ pos 2 ∷ pos 3 ∷ []) ∷ (pos 1 ∷ negsuc 1 ∷ negsuc 2 ∷ []) ∷ (negsuc 0 ∷ pos 2 ∷ negsuc 2 ∷ []) ∷ (negsuc 0 ∷ negsuc 1 ∷ pos 3 ∷ []) ∷ (pos 1 ∷ pos 3 ∷ negsuc 1 ∷ []) ∷ (pos 1 ∷ negsuc 2 ∷ pos 2 ∷ [])
    ∷ (negsuc 0 ∷ pos 3 ∷ pos 2 ∷ []) ∷ (negsuc 0 ∷ negsuc 2 ∷ negsuc 1 ∷ []) ∷ (pos 2 ∷ pos 1 ∷ negsuc 2 ∷ []) ∷ (pos 2 ∷ negsuc 0 ∷ pos 3 ∷ []) ∷ (negsuc 1 ∷ pos 1 ∷ pos 3 ∷ []) ∷ (negsuc 1 ∷ negsuc 0 ∷ negsuc 2 ∷ [])
    ∷ (pos 2 ∷ pos 3 ∷ pos 1 ∷ []) ∷ (pos 2 ∷ negsuc 2 ∷ negsuc 0 ∷ []) ∷ (negsuc 1 ∷ pos 3 ∷ negsuc 0 ∷ []) ∷ (negsuc 1 ∷ negsuc 2 ∷ pos 1 ∷ []) ∷ (pos 3 ∷ pos 1 ∷ pos 2 ∷ []) ∷ (pos 3 ∷ negsuc 0 ∷ negsuc 1 ∷ [])
    ∷ (negsuc 2 ∷ pos 1 ∷ negsuc 1 ∷ []) ∷ (negsuc 2 ∷ negsuc 0 ∷ pos 2 ∷ []) ∷ (pos 3 ∷ pos 2 ∷ negsuc 0 ∷ []) ∷ (pos 3 ∷ negsuc 1 ∷ pos 1 ∷ []) ∷ (negsuc 2 ∷ pos 2 ∷ pos 1 ∷ []) ∷ (negsuc 2 ∷ negsuc 1 ∷ negsuc 0 ∷ []) ∷ []

are_images : map (λ turn. forth turn (pos 1 ∷ pos 2 ∷ pos 3 ∷ [])) all_turns ≡ images
unfolding images
are_images = refl

same_place : List ℤ → List ℤ → Bool
same_place p q = int_eq (at p 0) (at q 0) && (int_eq (at p 1) (at q 1) && int_eq (at p 2) (at q 2))

-- the first place among them that a place is
number_of : List ℤ → ℕ
number_of p = position_or_len (same_place p) images

numbered : list_all (λ i. eqb (number_of (get_or images i [])) i) (range_with_len 0 24) ≡ true
unfolding images number_of same_place
numbered = refl

-- what isn't false is true
not_false : (b : Bool) → (b ≡ false → ⊥) → b ≡ true
not_false true h = refl
not_false false h = absurd (h refl)

-- each of n numbers passes a test that all of them pass
passes : (p : ℕ → Bool) (n i : ℕ) → list_all p (range_with_len 0 n) ≡ true → i < n → p i ≡ true
passes p n i all lt =
    ap p ((let q : i ≡ 0 + i = omega arith in q) ∙ sym (get_or-range_with_len 0 n i 0 lt))
    ∙ not_false (p (get_or (range_with_len 0 n) i 0))
    (λ fails. true≢false (sym all ∙ list_all_at p (range_with_len 0 n) i 0 (let size = length-range_with_len 0 n in omega arith) fails))

own_number : (i : ℕ) → i < 24 → number_of (get_or images i []) ≡ i
own_number i lt = eqb-true (number_of (get_or images i [])) i (passes (λ k. eqb (number_of (get_or images k [])) k) 24 i numbered lt)

pub there_are_24 : length all_turns ≡ 24
there_are_24 = refl

image_at : (i : ℕ) (d : Turn) → i < 24 → forth (get_or all_turns i d) (pos 1 ∷ pos 2 ∷ pos 3 ∷ []) ≡ get_or images i []
image_at i d lt =
    sym (get_or-map (λ turn. forth turn (pos 1 ∷ pos 2 ∷ pos 3 ∷ [])) all_turns i d [] (omega (arith, there_are_24)))
    ∙ ap (λ places. get_or places i []) are_images

pub are_different : (i j : ℕ) (d : Turn) → i < 24 → j < 24
    → forth (get_or all_turns i d) (pos 1 ∷ pos 2 ∷ pos 3 ∷ []) ≡ forth (get_or all_turns j d) (pos 1 ∷ pos 2 ∷ pos 3 ∷ []) → i ≡ j
are_different i j d below below' same =
    sym (own_number i below) ∙ ap number_of (sym (image_at i d below) ∙ same ∙ image_at j d below') ∙ own_number j below'
