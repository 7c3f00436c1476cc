-- The rows of a box's grid less a limit.
use Rattle.std.proofs.Common.{◌≡◌, ℕ, zero, suc, ◌<◌, ◌&&◌, Bool, true, false, [], ◌∷◌, List, ℤ, pos, ◌*ℤ◌, ◌-ℤ◌, ◌<ℤ◌, int_lt, get_or, arith, refl, sym, ◌∙◌}
use Rattle.std.specs.List.{list_all}
use Rattle.std.proofs.lemmas.Int.{ints}
use Rattle.space.specs.Vectors.{at}
use Rattle.space.proofs.Tests.{decides_lt}
use Rattle.bern_form.specs.Slab.{SlabSize}
use Rattle.ray_boxes.specs.Boxes.{grid_less, is_excluded_by_grids}
use Rattle.cert_boxes.specs.Sides.{are_all_on, is_row_on}
use Rattle.cert_boxes.specs.declared.side.Side.{Side}
use Rattle.cert_boxes.specs.declared.side.Side.TheVariants.{Above, Below}

-- the row of a power of the time
pub row_at : (side : Side) (r : List ℤ) (f : ℤ) (a b c : List ℤ) (i : ℕ) → i < 5
    → are_all_on side (get_or (grid_less r f a b c) i []) ≡ is_row_on side (at a i) (at b i) (at c i) (f *ℤ at r i)
row_at side r f a b c zero l = refl
row_at side r f a b c (suc zero) l = refl
row_at side r f a b c (suc (suc zero)) l = refl
row_at side r f a b c (suc (suc (suc zero))) l = refl
row_at side r f a b c (suc (suc (suc (suc zero)))) l = refl
row_at side r f a b c (suc (suc (suc (suc (suc i))))) l = absurd (omega arith)

-- behind the tip each slab is excluded
pub all_behind : (S : ℕ) (raised h0 h1 h2 w0 w1 w2 : List ℤ) (slabs : List SlabSize) → list_all (is_excluded_by_grids S true raised h0 h1 h2 w0 w1 w2) slabs ≡ true
all_behind S raised h0 h1 h2 w0 w1 w2 [] = refl
all_behind S raised h0 h1 h2 w0 w1 w2 (s ∷ slabs) = all_behind S raised h0 h1 h2 w0 w1 w2 slabs

-- a number is on one side of another where what it is more than that is on that side of 0
below_zero : (a e : ℤ) → a <ℤ e → (a -ℤ e) <ℤ pos 0
below_zero a e h = omega (arith, ints)

below_zero_back : (a e : ℤ) → (a -ℤ e) <ℤ pos 0 → a <ℤ e
below_zero_back a e h = omega (arith, ints)

above_zero : (a e : ℤ) → e <ℤ a → pos 0 <ℤ (a -ℤ e)
above_zero a e h = omega (arith, ints)

above_zero_back : (a e : ℤ) → pos 0 <ℤ (a -ℤ e) → e <ℤ a
above_zero_back a e h = omega (arith, ints)

same_answer : (b c : Bool) → (b ≡ true → c ≡ true) → (c ≡ true → b ≡ true) → b ≡ c
same_answer true c f g = sym (f refl)
same_answer false true f g = g refl
same_answer false false f g = refl

below_is : (a e : ℤ) → int_lt a e ≡ int_lt (a -ℤ e) (pos 0)
below_is a e =
    same_answer (int_lt a e) (int_lt (a -ℤ e) (pos 0)) (λ h. (decides_lt (a -ℤ e) (pos 0)).1 (below_zero a e ((decides_lt a e).0 h)))
    (λ h. (decides_lt a e).1 (below_zero_back a e ((decides_lt (a -ℤ e) (pos 0)).0 h)))

above_is : (a e : ℤ) → int_lt e a ≡ int_lt (pos 0) (a -ℤ e)
above_is a e =
    same_answer (int_lt e a) (int_lt (pos 0) (a -ℤ e)) (λ h. (decides_lt (pos 0) (a -ℤ e)).1 (above_zero a e ((decides_lt e a).0 h)))
    (λ h. (decides_lt e a).1 (above_zero_back a e ((decides_lt (pos 0) (a -ℤ e)).0 h)))

in_a_row : (x y z : Bool) → ((x && y) && z) ≡ (x && (y && (z && true)))
in_a_row true true true = refl
in_a_row true true false = refl
in_a_row true false z = refl
in_a_row false y z = refl

-- three tests of a row
pub row_below : (a b c once : ℤ) → ((int_lt a once && int_lt b (pos 2 *ℤ once)) && int_lt c once) ≡ is_row_on Below a b c once
row_below a b c once =
    (λ i. ((below_is a once i && below_is b (pos 2 *ℤ once) i) && below_is c once i))
    ∙ in_a_row (int_lt (a -ℤ once) (pos 0)) (int_lt (b -ℤ pos 2 *ℤ once) (pos 0)) (int_lt (c -ℤ once) (pos 0))

pub row_above : (a b c once : ℤ) → ((int_lt once a && int_lt (pos 2 *ℤ once) b) && int_lt once c) ≡ is_row_on Above a b c once
row_above a b c once =
    (λ i. ((above_is a once i && above_is b (pos 2 *ℤ once) i) && above_is c once i))
    ∙ in_a_row (int_lt (pos 0) (a -ℤ once)) (int_lt (pos 0) (b -ℤ pos 2 *ℤ once)) (int_lt (pos 0) (c -ℤ once))
