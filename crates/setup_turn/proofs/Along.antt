-- Points of a ray that is turned.
use Rattle.std.proofs.Common.{◌≡◌, ℕ, suc, zero, ◌+◌, ◌-◌, ◌<◌, ◌≤◌, ℤ, pos, ◌+ℤ◌, ◌*ℤ◌, ◌≤ℤ◌, Bool, true, false, cond, eqb, IsTrue, [], ◌∷◌, arith, refl, sym, ap, ap₂, ◌∙◌, subst, ⊎_elim, eq-eqb}
use Rattle.std.proofs.lemmas.Bool.{cases_lt, eqb-true}
use Rattle.std.proofs.lemmas.Int.{ints}
use Rattle.space.specs.Vectors.{at}
use Rattle.ray_grid.specs.Families.{ray_axis}
use Rattle.ray_grid.specs.Grids.{GridSize}
use Rattle.ray_grid.specs.Lattice.{node_at, place_at, point_at, point_of}
use Rattle.ray_grid.specs.Ranges.{IsGrid}
use Rattle.ray_grid.specs.Turns.{back, forth, forth_at, is_negated, is_turn, negated_if, old_axis}
use Rattle.ray_grid.specs.declared.ray.Family.{Family}
use Rattle.ray_grid.specs.declared.ray.Family.TheVariants.{X, Y, Z}
use Rattle.ray_grid.specs.declared.ray.Ray.{Ray}
use Rattle.ray_grid.specs.declared.turn.Turn.{Turn}
use Rattle.ray_grid.proofs.Turned.{back_undoes, by_order, forth_undoes, old_below}
use Rattle.setup_turn.specs.Places.{IsTurnedTo}
use Rattle.setup_turn.proofs.Steps.{more_steps, same_steps}
use Rattle.setup_turn.proofs.Tests.{same_bools}

-- the axes of a turn are three
record AreDistinct (a b c : ℕ) : Type 0 where
  ab : a ≡ b → ⊥
  ac : a ≡ c → ⊥
  bc : b ≡ c → ⊥

distinct : (a b c : ℕ) → (a ≡ b → ⊥) → (a ≡ c → ⊥) → (b ≡ c → ⊥) → AreDistinct a b c
distinct a b c ab ac bc = record { ab = ab; ac = ac; bc = bc }

three_axes : (turn : Turn) → IsTrue (is_turn turn) → AreDistinct (old_axis turn 0) (old_axis turn 1) (old_axis turn 2)
three_axes turn test =
    by_order AreDistinct turn
    (distinct 0 1 2 (λ e. omega arith) (λ e. omega arith) (λ e. omega arith))
    (distinct 1 2 0 (λ e. omega arith) (λ e. omega arith) (λ e. omega arith))
    (distinct 2 0 1 (λ e. omega arith) (λ e. omega arith) (λ e. omega arith))
    (distinct 0 2 1 (λ e. omega arith) (λ e. omega arith) (λ e. omega arith))
    (distinct 1 0 2 (λ e. omega arith) (λ e. omega arith) (λ e. omega arith))
    (distinct 2 1 0 (λ e. omega arith) (λ e. omega arith) (λ e. omega arith))
    test

pub same_axis : (turn : Turn) (m n : ℕ) → IsTrue (is_turn turn) → m < 3 → n < 3 → old_axis turn m ≡ old_axis turn n → m ≡ n
same_axis turn zero zero test a b same = refl
same_axis turn zero (suc zero) test a b same = absurd ((three_axes turn test).ab same)
same_axis turn zero (suc (suc zero)) test a b same = absurd ((three_axes turn test).ac same)
same_axis turn (suc zero) zero test a b same = absurd ((three_axes turn test).ab (sym same))
same_axis turn (suc zero) (suc zero) test a b same = refl
same_axis turn (suc zero) (suc (suc zero)) test a b same = absurd ((three_axes turn test).bc same)
same_axis turn (suc (suc zero)) zero test a b same = absurd ((three_axes turn test).ac (sym same))
same_axis turn (suc (suc zero)) (suc zero) test a b same = absurd ((three_axes turn test).bc (sym same))
same_axis turn (suc (suc zero)) (suc (suc zero)) test a b same = refl
same_axis turn (suc (suc (suc m))) n test a b same = absurd (omega arith)
same_axis turn zero (suc (suc (suc n))) test a b same = absurd (omega arith)
same_axis turn (suc zero) (suc (suc (suc n))) test a b same = absurd (omega arith)
same_axis turn (suc (suc zero)) (suc (suc (suc n))) test a b same = absurd (omega arith)

abbrev IsLastOf : ℕ → ℕ → ℕ → Type 0
IsLastOf a b c = (old : ℕ) → old < 3 → (a ≡ old → ⊥) → (b ≡ old → ⊥) → c ≡ old

last_of : (a b c old : ℕ) → a + b + c ≡ 3 → a < 3 → b < 3 → (a ≡ b → ⊥) → old < 3 → (a ≡ old → ⊥) → (b ≡ old → ⊥) → c ≡ old
last_of a b c old sum x y differs low p q = omega arith

-- the axis that is on neither of the first two new axes is on the third
pub last_axis : (turn : Turn) (old : ℕ) → IsTrue (is_turn turn) → old < 3 → (old_axis turn 0 ≡ old → ⊥) → (old_axis turn 1 ≡ old → ⊥)
    → old_axis turn 2 ≡ old
last_axis turn old test =
    by_order IsLastOf turn
    (λ o l p q. last_of 0 1 2 o (omega arith) (omega arith) (omega arith) (λ e. omega arith) l p q)
    (λ o l p q. last_of 1 2 0 o (omega arith) (omega arith) (omega arith) (λ e. omega arith) l p q)
    (λ o l p q. last_of 2 0 1 o (omega arith) (omega arith) (omega arith) (λ e. omega arith) l p q)
    (λ o l p q. last_of 0 2 1 o (omega arith) (omega arith) (omega arith) (λ e. omega arith) l p q)
    (λ o l p q. last_of 1 0 2 o (omega arith) (omega arith) (omega arith) (λ e. omega arith) l p q)
    (λ o l p q. last_of 2 1 0 o (omega arith) (omega arith) (omega arith) (λ e. omega arith) l p q)
    test old

pub axis_low : (f : Family) → ray_axis f < 3
axis_low X = omega arith
axis_low Y = omega arith
axis_low Z = omega arith

pub same_family : (f h : Family) → ray_axis f ≡ ray_axis h → f ≡ h
same_family X X same = refl
same_family X Y same = absurd (omega arith)
same_family X Z same = absurd (omega arith)
same_family Y X same = absurd (omega arith)
same_family Y Y same = refl
same_family Y Z same = absurd (omega arith)
same_family Z X same = absurd (omega arith)
same_family Z Y same = absurd (omega arith)
same_family Z Z same = refl

-- a coordinate further along a ray
abbrev step_by : Bool → ℕ → ℤ → ℤ
step_by along k step = cond along (pos k *ℤ step) (pos 0)

further_on : (g : GridSize) (f : Family) (i j l k a : ℕ) → a < 3
    → at (point_at g f i j (l + k)) a ≡ at (point_at g f i j l) a +ℤ step_by (eqb a (ray_axis f)) k g.step
further_on g X i j l k zero low = more_steps (at g.origin 0) g.step l k
further_on g X i j l k (suc zero) low = omega (arith, ints)
further_on g X i j l k (suc (suc zero)) low = omega (arith, ints)
further_on g X i j l k (suc (suc (suc a))) low = absurd (omega arith)
further_on g Y i j l k zero low = omega (arith, ints)
further_on g Y i j l k (suc zero) low = more_steps (at g.origin 1) g.step l k
further_on g Y i j l k (suc (suc zero)) low = omega (arith, ints)
further_on g Y i j l k (suc (suc (suc a))) low = absurd (omega arith)
further_on g Z i j l k zero low = omega (arith, ints)
further_on g Z i j l k (suc zero) low = omega (arith, ints)
further_on g Z i j l k (suc (suc zero)) low = more_steps (at g.origin 2) g.step l k
further_on g Z i j l k (suc (suc (suc a))) low = absurd (omega arith)

-- a point is its three coordinates
pub three_of : (g : GridSize) (f : Family) (i j l : ℕ)
    → point_at g f i j l ≡ at (point_at g f i j l) 0 ∷ at (point_at g f i j l) 1 ∷ at (point_at g f i j l) 2 ∷ []
three_of g X i j l = refl
three_of g Y i j l = refl
three_of g Z i j l = refl

three_same : (x y z u v w : ℤ) → x ≡ u → y ≡ v → z ≡ w → x ∷ y ∷ z ∷ [] ≡ u ∷ v ∷ w ∷ []
three_same x y z u v w a b c = cc

-- the coordinates of a turned point
on_axis : (turn : Turn) (a b : GridSize) (old : Ray) (l : ℕ) (new : Ray) (m n : ℕ) → IsTurnedTo turn a b old l new m → n < 3
    → forth_at turn (point_of a old l) n ≡ at (point_of b new m) n
on_axis turn a b old l new m zero is low = ap (λ p. at p 0) is.place
on_axis turn a b old l new m (suc zero) is low = ap (λ p. at p 1) is.place
on_axis turn a b old l new m (suc (suc zero)) is low = ap (λ p. at p 2) is.place
on_axis turn a b old l new m (suc (suc (suc n))) is low = absurd (omega arith)

-- the axis of the old ray is that of the new one
same_test : (a b c d : ℕ) → (a ≡ b → c ≡ d) → (c ≡ d → a ≡ b) → eqb a b ≡ eqb c d
same_test a b c d there back =
    same_bools (eqb a b) (eqb c d) (λ e. eq-eqb c d (there (eqb-true a b e))) (λ e. eq-eqb a b (back (eqb-true c d e)))

tests_same : (turn : Turn) (old new : Family) (n : ℕ) → IsTrue (is_turn turn) → n < 3 → old_axis turn (ray_axis new) ≡ ray_axis old
    → eqb (old_axis turn n) (ray_axis old) ≡ eqb n (ray_axis new)
tests_same turn old new n test low family =
    same_test (old_axis turn n) (ray_axis old) n (ray_axis new)
    (λ here. same_axis turn n (ray_axis new) test low (axis_low new) (here ∙ sym family))
    (λ here. ap (old_axis turn) here ∙ family)

forward_on : (e s : Bool) (x q shift t : ℤ) → (e ≡ true → s ≡ false) → (negated_if s x +ℤ shift) ≡ q
    → (negated_if s (x +ℤ cond e t (pos 0)) +ℤ shift) ≡ q +ℤ cond e t (pos 0)
forward_on true true x q shift t never is = absurd (let no : true ≡ false = never refl in cc)
forward_on true false x q shift t never is = omega (arith, ints)
forward_on false true x q shift t never is = omega (arith, ints)
forward_on false false x q shift t never is = omega (arith, ints)

back_on : (e s : Bool) (x q shift t : ℤ) → (e ≡ true → s ≡ true) → (negated_if s x +ℤ shift) ≡ q +ℤ cond e t (pos 0)
    → (negated_if s (x +ℤ cond e t (pos 0)) +ℤ shift) ≡ q
back_on true false x q shift t never is = absurd (let no : false ≡ true = never refl in cc)
back_on true true x q shift t never is = omega (arith, ints)
back_on false true x q shift t never is = omega (arith, ints)
back_on false false x q shift t never is = omega (arith, ints)

ahead_on : (e s : Bool) (x q shift t : ℤ) → (e ≡ true → s ≡ true) → (negated_if s (x +ℤ cond e t (pos 0)) +ℤ shift) ≡ q
    → (negated_if s x +ℤ shift) ≡ q +ℤ cond e t (pos 0)
ahead_on true false x q shift t never is = absurd (let no : false ≡ true = never refl in cc)
ahead_on true true x q shift t never is = omega (arith, ints)
ahead_on false true x q shift t never is = omega (arith, ints)
ahead_on false false x q shift t never is = omega (arith, ints)

-- a turn, two grids of one step, and two rays of families that go with each other, the new one with a sign
pub record ArePaired (turn : Turn) (a b : GridSize) (old new : Ray) (reversed : Bool) : Type 0 where
  pub turned : IsTrue (is_turn turn)
  pub step : a.step ≡ b.step
  pub family : old_axis turn (ray_axis new.family) ≡ ray_axis old.family
  pub sign : is_negated turn (ray_axis new.family) ≡ reversed

sign_on : (turn : Turn) (n m : ℕ) (r : Bool) → is_negated turn m ≡ r → eqb n m ≡ true → is_negated turn n ≡ r
sign_on turn n m r sign here = ap (is_negated turn) (eqb-true n m here) ∙ sign

forward_at : (turn : Turn) (a b : GridSize) (old new : Ray) (l m k n : ℕ) → ArePaired turn a b old new false → IsTurnedTo turn a b old l new m → n < 3
    → forth_at turn (point_of a old (l + k)) n ≡ at (point_of b new (m + k)) n
forward_at turn a b old new l m k n pair is low =
    let e = eqb n (ray_axis new.family) in
    ap (λ z. negated_if (is_negated turn n) z +ℤ at turn.shift n)
    (further_on a old.family old.i old.j l k (old_axis turn n) (old_below turn n pair.turned low)
    ∙ ap₂ (λ (t : Bool) (s : ℤ). at (point_of a old l) (old_axis turn n) +ℤ step_by t k s) (tests_same turn old.family new.family n pair.turned low pair.family) pair.step)
    ∙ forward_on e (is_negated turn n) (at (point_of a old l) (old_axis turn n)) (at (point_of b new m) n) (at turn.shift n) (pos k *ℤ b.step)
    (sign_on turn n (ray_axis new.family) false pair.sign)
    (on_axis turn a b old l new m n is low)
    ∙ sym (further_on b new.family new.i new.j m k n low)

-- k points further on the old ray is k points further on the new one
pub forward : (turn : Turn) (a b : GridSize) (old new : Ray) (l m k : ℕ) → ArePaired turn a b old new false → IsTurnedTo turn a b old l new m
    → IsTurnedTo turn a b old (l + k) new (m + k)
forward turn a b old new l m k pair is = record {
  family = pair.family;
  place = three_same _ _ _ _ _ _ (forward_at turn a b old new l m k 0 pair is (omega arith)) (forward_at turn a b old new l m k 1 pair is (omega arith))
      (forward_at turn a b old new l m k 2 pair is (omega arith))
      ∙ sym (three_of b new.family new.i new.j (m + k));
}

moved_to : (turn : Turn) (a b : GridSize) (old new : Ray) (l k n : ℕ) (r : Bool) → ArePaired turn a b old new r → n < 3
    → forth_at turn (point_of a old (l + k)) n
    ≡ negated_if (is_negated turn n) (at (point_of a old l) (old_axis turn n) +ℤ step_by (eqb n (ray_axis new.family)) k b.step) +ℤ at turn.shift n
moved_to turn a b old new l k n r pair low =
    ap (λ z. negated_if (is_negated turn n) z +ℤ at turn.shift n)
    (further_on a old.family old.i old.j l k (old_axis turn n) (old_below turn n pair.turned low)
    ∙ ap₂ (λ (t : Bool) (s : ℤ). at (point_of a old l) (old_axis turn n) +ℤ step_by t k s) (tests_same turn old.family new.family n pair.turned low pair.family) pair.step)

back_at_axis : (turn : Turn) (a b : GridSize) (old new : Ray) (l m k n : ℕ) → ArePaired turn a b old new true → IsTurnedTo turn a b old l new (m + k) → n < 3
    → forth_at turn (point_of a old (l + k)) n ≡ at (point_of b new m) n
back_at_axis turn a b old new l m k n pair is low =
    moved_to turn a b old new l k n true pair low
    ∙ back_on (eqb n (ray_axis new.family)) (is_negated turn n) (at (point_of a old l) (old_axis turn n)) (at (point_of b new m) n) (at turn.shift n) (pos k *ℤ b.step)
    (sign_on turn n (ray_axis new.family) true pair.sign)
    (on_axis turn a b old l new (m + k) n is low ∙ further_on b new.family new.i new.j m k n low)

-- on a reversed ray it is k points back
pub backward : (turn : Turn) (a b : GridSize) (old new : Ray) (l m k : ℕ) → ArePaired turn a b old new true → IsTurnedTo turn a b old l new (m + k)
    → IsTurnedTo turn a b old (l + k) new m
backward turn a b old new l m k pair is = record {
  family = pair.family;
  place = three_same _ _ _ _ _ _ (back_at_axis turn a b old new l m k 0 pair is (omega arith)) (back_at_axis turn a b old new l m k 1 pair is (omega arith))
      (back_at_axis turn a b old new l m k 2 pair is (omega arith))
      ∙ sym (three_of b new.family new.i new.j m);
}

ahead_at_axis : (turn : Turn) (a b : GridSize) (old new : Ray) (l m k n : ℕ) → ArePaired turn a b old new true → IsTurnedTo turn a b old (l + k) new m → n < 3
    → forth_at turn (point_of a old l) n ≡ at (point_of b new (m + k)) n
ahead_at_axis turn a b old new l m k n pair is low =
    ahead_on (eqb n (ray_axis new.family)) (is_negated turn n) (at (point_of a old l) (old_axis turn n)) (at (point_of b new m) n) (at turn.shift n) (pos k *ℤ b.step)
    (sign_on turn n (ray_axis new.family) true pair.sign)
    (sym (moved_to turn a b old new l k n true pair low) ∙ on_axis turn a b old (l + k) new m n is low)
    ∙ sym (further_on b new.family new.i new.j m k n low)

-- and the other way
pub ahead : (turn : Turn) (a b : GridSize) (old new : Ray) (l m k : ℕ) → ArePaired turn a b old new true → IsTurnedTo turn a b old (l + k) new m
    → IsTurnedTo turn a b old l new (m + k)
ahead turn a b old new l m k pair is = record {
  family = pair.family;
  place = three_same _ _ _ _ _ _ (ahead_at_axis turn a b old new l m k 0 pair is (omega arith)) (ahead_at_axis turn a b old new l m k 1 pair is (omega arith))
      (ahead_at_axis turn a b old new l m k 2 pair is (omega arith))
      ∙ sym (three_of b new.family new.i new.j (m + k));
}

-- two points of one place on rays of one family are one
pub record IsOnePoint (one : Ray) (l : ℕ) (other : Ray) (m : ℕ) : Type 0 where
  pub ray : one ≡ other
  pub index : l ≡ m

same_at : (g : GridSize) (f : Family) (i j l i' j' l' : ℕ) → pos 1 ≤ℤ g.pitch → pos 1 ≤ℤ g.step → point_at g f i j l ≡ point_at g f i' j' l'
    → (i ≡ i') × (j ≡ j') × (l ≡ l')
same_at g X i j l i' j' l' pitch step same =
    (same_steps (at g.origin 1) g.pitch i i' pitch (ap (λ p. at p 1) same), same_steps (at g.origin 2) g.pitch j j' pitch (ap (λ p. at p 2) same), same_steps (at g.origin 0) g.step l l' step (ap (λ p. at p 0) same))
same_at g Y i j l i' j' l' pitch step same =
    (same_steps (at g.origin 0) g.pitch i i' pitch (ap (λ p. at p 0) same), same_steps (at g.origin 2) g.pitch j j' pitch (ap (λ p. at p 2) same), same_steps (at g.origin 1) g.step l l' step (ap (λ p. at p 1) same))
same_at g Z i j l i' j' l' pitch step same =
    (same_steps (at g.origin 0) g.pitch i i' pitch (ap (λ p. at p 0) same), same_steps (at g.origin 1) g.pitch j j' pitch (ap (λ p. at p 1) same), same_steps (at g.origin 2) g.step l l' step (ap (λ p. at p 2) same))

ray_same : (f h : Family) (i j i' j' : ℕ) → f ≡ h → i ≡ i' → j ≡ j'
    → (let r : Ray = record { family = f; i = i; j = j } in let s : Ray = record { family = h; i = i'; j = j' } in r ≡ s)
ray_same f h i j i' j' a b c = cc

pub same_point : (g : GridSize) (ray other : Ray) (l m : ℕ) → IsGrid g → ray.family ≡ other.family → point_of g ray l ≡ point_of g other m → IsOnePoint ray l other m
same_point g ray other l m is family same =
    let same' : point_at g ray.family ray.i ray.j l ≡ point_at g ray.family other.i other.j m =
    same ∙ ap (λ f. point_at g f other.i other.j m) (sym family) in
    let parts = same_at g ray.family ray.i ray.j l other.i other.j m is.pitch_in.from_least is.step_in.from_least same' in
    record { ray = ray_same ray.family other.family ray.i ray.j other.i other.j family parts.0 parts.1; index = parts.2 }

-- a point is turned to one place
pub one_new : (turn : Turn) (a b : GridSize) (old : Ray) (l : ℕ) (new other : Ray) (m k : ℕ) → IsTrue (is_turn turn) → IsGrid b
    → IsTurnedTo turn a b old l new m → IsTurnedTo turn a b old l other k → IsOnePoint new m other k
one_new turn a b old l new other m k test is p q =
    same_point b new other m k is
    (same_family new.family other.family (same_axis turn (ray_axis new.family) (ray_axis other.family) test (axis_low new.family) (axis_low other.family) (p.family ∙ sym q.family)))
    (sym p.place ∙ q.place)

-- and one point is turned to a place
undone : (turn : Turn) (g : GridSize) (f : Family) (i j l : ℕ) → IsTrue (is_turn turn) → back turn (forth turn (point_at g f i j l)) ≡ point_at g f i j l
undone turn g X i j l test = back_undoes turn (place_at g 0 l) (node_at g 1 i) (node_at g 2 j) test
undone turn g Y i j l test = back_undoes turn (node_at g 0 i) (place_at g 1 l) (node_at g 2 j) test
undone turn g Z i j l test = back_undoes turn (node_at g 0 i) (node_at g 1 j) (place_at g 2 l) test

redone : (turn : Turn) (g : GridSize) (f : Family) (i j l : ℕ) → IsTrue (is_turn turn) → forth turn (back turn (point_at g f i j l)) ≡ point_at g f i j l
redone turn g X i j l test = forth_undoes turn (place_at g 0 l) (node_at g 1 i) (node_at g 2 j) test
redone turn g Y i j l test = forth_undoes turn (node_at g 0 i) (place_at g 1 l) (node_at g 2 j) test
redone turn g Z i j l test = forth_undoes turn (node_at g 0 i) (node_at g 1 j) (place_at g 2 l) test

pub back_is : (turn : Turn) (a b : GridSize) (old : Ray) (l : ℕ) (new : Ray) (m : ℕ) → IsTrue (is_turn turn) → IsTurnedTo turn a b old l new m
    → back turn (point_of b new m) ≡ point_of a old l
back_is turn a b old l new m test is = ap (back turn) (sym is.place) ∙ undone turn a old.family old.i old.j l test

pub forth_is : (turn : Turn) (a b : GridSize) (old : Ray) (l : ℕ) (new : Ray) (m : ℕ) → IsTrue (is_turn turn) → back turn (point_of b new m) ≡ point_of a old l
    → forth turn (point_of a old l) ≡ point_of b new m
forth_is turn a b old l new m test is = ap (forth turn) (sym is) ∙ redone turn b new.family new.i new.j m test

pub one_old : (turn : Turn) (a b : GridSize) (old other : Ray) (l k : ℕ) (new : Ray) (m : ℕ) → IsTrue (is_turn turn) → IsGrid a
    → IsTurnedTo turn a b old l new m → IsTurnedTo turn a b other k new m → IsOnePoint old l other k
one_old turn a b old other l k new m test is p q =
    same_point a old other l k is
    (same_family old.family other.family (sym p.family ∙ q.family))
    (sym (back_is turn a b old l new m test p) ∙ back_is turn a b other k new m test q)

-- two old rays never share a new one
pub paired : (turn : Turn) (a b : GridSize) (old new : Ray) (l m : ℕ) (r : Bool) → IsTrue (is_turn turn) → a.step ≡ b.step → IsTurnedTo turn a b old l new m
    → is_negated turn (ray_axis new.family) ≡ r → ArePaired turn a b old new r
paired turn a b old new l m r test step is sign = record { turned = test; step = step; family = is.family; sign = sign }

sharing : (turn : Turn) (a b : GridSize) (old other : Ray) (l k : ℕ) (new : Ray) (m d : ℕ) (r : Bool) → is_negated turn (ray_axis new.family) ≡ r
    → IsTrue (is_turn turn) → a.step ≡ b.step → IsGrid a → IsTurnedTo turn a b old l new m → IsTurnedTo turn a b other k new (m + d) → old ≡ other
sharing turn a b old other l k new m d false sign test step is p q =
    (one_old turn a b old other (l + d) k new (m + d) test is
    (forward turn a b old new l m d (paired turn a b old new l m false test step p sign) p) q).ray
sharing turn a b old other l k new m d true sign test step is p q =
    (one_old turn a b old other l (k + d) new m test is p
    (backward turn a b other new k m d (paired turn a b other new k (m + d) true test step q sign) q)).ray

pub never_shared : (turn : Turn) (a b : GridSize) (old other : Ray) (l k : ℕ) (new : Ray) (m n : ℕ)
    → IsTrue (is_turn turn) → a.step ≡ b.step → IsGrid a → IsTurnedTo turn a b old l new m → IsTurnedTo turn a b other k new n → old ≡ other
never_shared turn a b old other l k new m n test step is p q =
    ⊎_elim
    (λ (low : m < n). sharing turn a b old other l k new m (n - m) (is_negated turn (ray_axis new.family)) refl test step is p
    (subst (λ i. IsTurnedTo turn a b other k new i) (let e : n ≡ m + (n - m) = omega arith in e) q))
    (λ (low : n ≤ m). sym (sharing turn a b other old k l new n (m - n) (is_negated turn (ray_axis new.family)) refl test step is q
    (subst (λ i. IsTurnedTo turn a b old l new i) (let e : m ≡ n + (m - n) = omega arith in e) p)))
    (cases_lt m n)
