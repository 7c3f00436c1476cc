-- The words of a question, and coordinates that are near.
use Rattle.std.proofs.Common.{◌≡◌, ℕ, ◌+◌, ◌<◌, ◌≤◌, ◌||◌, ℤ, pos, neg_ℤ, int_lt, unsigned_abs, false, List, [], ◌∷◌, map, length, ◌-◌, take, drop, get_or, Option, Some, None, Ok, Err, IfSome, refl, arith}
use Rattle.std.specs.Option.{option_map}
use Rattle.std.specs.Result.{result_ok}
use Rattle.std.proofs.lemmas.Bool.{cond_both}
use Rattle.std.proofs.lemmas.Int.{ints}
use Rattle.std.proofs.lemmas.List.{take_all}
use Rattle.call_words.specs.Words.{Word}
use Rattle.space.specs.Ranges.{metre}
use Rattle.cl_lines.specs.Numbers.{bounded, number_of, whole_of}
use Rattle.clverify.specs.Commands.Questions.{coordinate_of, depth_of, point_by, question_by, question_of, slabs_of}

below_fewer : (n k : ℕ) → n + k < n → ⊥
below_fewer n k l = omega (arith, l)

-- a question has at least five words
pub too_few_for_a_question : {X : Type 0} (f : X → List ℕ) (words : List X) → length words < 5 → question_of (map f words) ≡ None
too_few_for_a_question f [] l = refl
too_few_for_a_question f (a ∷ []) l = refl
too_few_for_a_question f (a ∷ b ∷ []) l = refl
too_few_for_a_question f (a ∷ b ∷ c ∷ []) l = refl
too_few_for_a_question f (a ∷ b ∷ c ∷ d ∷ []) l = refl
too_few_for_a_question f (a ∷ b ∷ c ∷ d ∷ e ∷ words) l = absurd (below_fewer 5 (length words) (omega (arith, l)))

-- a question's first five words stand for it with the words after them
pub question_in : {X : Type 0} (f : X → Word) (words : List X) (x y z name depth : X) (xs ys zs names depths : Word) → 5 ≤ length words
    → x ≡ get_or words 0 x → y ≡ get_or words 1 y → z ≡ get_or words 2 z → name ≡ get_or words 3 name → depth ≡ get_or words 4 depth
    → xs ≡ f x → ys ≡ f y → zs ≡ f z → names ≡ f name → depths ≡ f depth
    → question_by (point_by (coordinate_of xs) (coordinate_of ys) (coordinate_of zs)) (depth_of names depths) (slabs_of (map f (take (length words - 5) (drop 5 words))))
    ≡ question_of (map f words)
question_in f (a ∷ b ∷ c ∷ d ∷ e ∷ words) x y z name depth xs ys zs names depths some at_x at_y at_z at_name at_depth is_x is_y is_z is_name is_depth =
    let all : take (length (a ∷ b ∷ c ∷ d ∷ e ∷ words) - 5) words ≡ words = take_all _ words (omega arith) in
    rw (is_x, is_y, is_z, is_name, is_depth, at_x, at_y, at_z, at_name, at_depth, all)
question_in f [] x y z name depth xs ys zs names depths some at_x at_y at_z at_name at_depth is_x is_y is_z is_name is_depth = absurd (omega (arith, some))
question_in f (a ∷ []) x y z name depth xs ys zs names depths some at_x at_y at_z at_name at_depth is_x is_y is_z is_name is_depth = absurd (omega (arith, some))
question_in f (a ∷ b ∷ []) x y z name depth xs ys zs names depths some at_x at_y at_z at_name at_depth is_x is_y is_z is_name is_depth = absurd (omega (arith, some))
question_in f (a ∷ b ∷ c ∷ []) x y z name depth xs ys zs names depths some at_x at_y at_z at_name at_depth is_x is_y is_z is_name is_depth = absurd (omega (arith, some))
question_in f (a ∷ b ∷ c ∷ d ∷ []) x y z name depth xs ys zs names depths some at_x at_y at_z at_name at_depth is_x is_y is_z is_name is_depth = absurd (omega (arith, some))

-- a question that is given in parts
pub of_parts : (p point : Option (List ℤ)) (d depth s slabs : Option ℕ) → p ≡ point → d ≡ depth → s ≡ slabs → question_by p d s ≡ question_by point depth slabs
of_parts p point d depth s slabs same_point same_depth same_slabs = rw (same_point, same_depth, same_slabs)

-- a number between the bounds is near
inside : (z : ℤ) → (int_lt z (neg_ℤ (pos metre)) || int_lt (pos metre) z) ≡ false → unsigned_abs z ≤ metre
inside z h = grind (arith, ints)

-- a length within a metre is near
bounded_near : (value : Option ℤ) → IfSome (result_ok (bounded (neg_ℤ (pos metre)) (pos metre) value)) (λ z. unsigned_abs z ≤ metre)
bounded_near None = tt
bounded_near (Some z) =
    cond_both (int_lt z (neg_ℤ (pos metre)) || int_lt (pos metre) z) (Err _) (Ok z) (λ r. IfSome (result_ok r) (λ z. unsigned_abs z ≤ metre))
    (λ out. tt) (λ e. inside z e)

-- so is a coordinate
pub coordinate_near : (word : List ℕ) → IfSome (coordinate_of word) (λ z. unsigned_abs z ≤ metre)
coordinate_near word = bounded_near (option_map (whole_of 1000) (number_of word))
