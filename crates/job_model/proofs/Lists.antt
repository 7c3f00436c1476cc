-- Tests of the items of a list, and moves by their numbers.
use Rattle.std.proofs.Common.{◌≡◌, true, false, ℕ, zero, suc, ◌+◌, ◌<◌, Bool, cond, ◌||◌, List, [], ◌∷◌, take, drop, length, get_or, count_by, arith, refl, sym, subst, ◌∙◌, ⊎_elim}
use Rattle.std.specs.List.{All, Contains, list_any}
use Rattle.std.proofs.lemmas.Bool.{cases_Bool}
use Rattle.std.proofs.lemmas.List.Elements.{All-append, All-drop, All-take}
use Rattle.std.proofs.lemmas.List.Sums.{sum_by-cons}
use Rattle.job_model.specs.Points.{moves_of}
use Rattle.job_model.specs.Tasks.{IsJobMove, PlanOf}

-- a test of some item of a list
or_rest : (a b : Bool) → a ≡ false → (a || b) ≡ true → b ≡ true
or_rest true b e h = cc
or_rest false b e h = h

further : {X : Type 0} (p : X → Bool) (x : X) (xs : List X) → (y : X) × Contains xs y × (p y ≡ true) → (y : X) × Contains (x ∷ xs) y × (p y ≡ true)
further p x xs found = (found.0, (suc found.1.0, omega (arith, found.1.1), found.1.2), found.2)

pub some_of : {X : Type 0} (p : X → Bool) (xs : List X) → list_any p xs ≡ true → (x : X) × Contains xs x × (p x ≡ true)
some_of p [] h = cc
some_of p (x ∷ xs) h =
    ⊎_elim (λ yes. (x, (0, omega arith, refl), yes)) (λ no. further p x xs (some_of p xs (or_rest (p x) (list_any p xs) no h))) (cases_Bool (p x))

pub none_of : {X : Type 0} (p : X → Bool) (xs : List X) (i : ℕ) (d : X) → list_any p xs ≡ false → i < length xs → p (get_or xs i d) ≡ false
none_of p [] i d h l = absurd (omega (arith, l))
none_of p (x ∷ xs) zero d h l = first (p x) (list_any p xs) h where
  first : (a b : Bool) → (a || b) ≡ false → a ≡ false
  first true b h = cc
  first false b h = refl
none_of p (x ∷ xs) (suc i) d h l = none_of p xs i d (last (p x) (list_any p xs) h) (omega (arith, l)) where
  last : (a b : Bool) → (a || b) ≡ false → b ≡ false
  last true b h = cc
  last false b h = h

-- where none is counted each fails the test
pub none_counted : {X : Type 0} (p : X → Bool) (xs : List X) (i : ℕ) (d : X) → count_by p xs ≡ 0 → i < length xs → p (get_or xs i d) ≡ false
none_counted p [] i d h l = absurd (omega (arith, l))
none_counted p (x ∷ xs) zero d h l = first (p x) (count_by p xs) (sym (sum_by-cons (λ y. cond (p y) 1 0) x xs) ∙ h) where
  first : (a : Bool) (n : ℕ) → cond a 1 0 + n ≡ 0 → a ≡ false
  first true n h = absurd (omega (arith, h))
  first false n h = refl
none_counted p (x ∷ xs) (suc i) d h l = none_counted p xs i d (rest (p x) (count_by p xs) (sym (sum_by-cons (λ y. cond (p y) 1 0) x xs) ∙ h)) (omega (arith, l)) where
  rest : (a : Bool) (n : ℕ) → cond a 1 0 + n ≡ 0 → n ≡ 0
  rest true n h = absurd (omega (arith, h))
  rest false n h = omega (arith, h)

-- none of a list passes a test that no item passes
pub none_among : {X : Type 0} (p : X → Bool) (xs : List X) (x : X) → list_any p xs ≡ false → Contains xs x → p x ≡ false
none_among p xs x none among = subst (λ y. p y ≡ false) among.2 (none_of p xs among.0 x none among.1)

-- every move that is left is a move of the program
pub moves_valid : (plan : PlanOf) (numbers : List ℕ) → All IsJobMove plan.moves → All IsJobMove (moves_of plan numbers)
moves_valid plan [] valid = λ i d l. absurd (omega (arith, l))
moves_valid plan (number ∷ numbers) valid =
    All-append IsJobMove (take 1 (drop number plan.moves)) (moves_of plan numbers)
    (All-take IsJobMove 1 (drop number plan.moves) (All-drop IsJobMove number plan.moves valid)) (moves_valid plan numbers valid)

pub of_all : {X : Type 0} (P : X → Type 0) (xs : List X) (x : X) → All P xs → Contains xs x → P x
of_all P xs x all among = subst P among.2 (all among.0 x among.1)

-- where a rule counts no point, it names none
pub unnamed : {P : Type 0} (p : P → Bool) (points : List P) (point : P) → count_by p points ≡ 0 → Contains points point → p point ≡ false
unnamed p points point none among = subst (λ x. p x ≡ false) among.2 (none_counted p points among.0 point none among.1)
