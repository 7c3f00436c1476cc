-- Turns of a part: by quarters about the axes, and then moved. Lengths are micrometres.
use Rattle.std.specs.Prelude.{ℕ, ℤ, neg_ℤ, ◌+ℤ◌, ◌-ℤ◌, Bool, false, ◌&&◌, ◌||◌, not, nat_eq, if◌then◌else◌, IsTrue, List, [], ◌∷◌, slice_index, slice_index_or}
use Rattle.space.specs.Vectors.{at}
use Rattle.space.specs.Ranges.{IsWithin}
use Rattle.ray_grid.specs.declared.turn.Turn.{Turn}

-- how far a turned part may be moved along an axis: 2,000 mm
abbrev pub most_shift : ℕ
most_shift = 2000000

-- how far from the origin on an axis a place may be that is turned, forth or back: 3,000 mm
abbrev pub most_turned : ℕ
most_turned = 3000000

-- and how far it may be then
abbrev pub most_moved : ℕ
most_moved = 5000000

-- the old axis of a new one, and whether it is negated
abbrev pub old_axis : Turn → ℕ → ℕ
old_axis turn n = slice_index turn.axis n

abbrev pub is_negated : Turn → ℕ → Bool
is_negated turn n = slice_index_or turn.neg n false

-- a coordinate, or its negative
abbrev pub negated_if : Bool → ℤ → ℤ
negated_if negated z = if negated then neg_ℤ z else z

-- new coordinate n: the old one on its axis, negated or not, and then moved
abbrev pub forth_at : Turn → List ℤ → ℕ → ℤ
forth_at turn point n = negated_if (is_negated turn n) (at point (old_axis turn n)) +ℤ at turn.shift n

-- where a point lies when it is turned
abbrev pub forth : Turn → List ℤ → List ℤ
forth turn point = forth_at turn point 0 ∷ forth_at turn point 1 ∷ forth_at turn point 2 ∷ []

-- the old coordinate that new coordinate n gives: moved back, and then negated or not
abbrev pub back_at : Turn → List ℤ → ℕ → ℤ
back_at turn point n = negated_if (is_negated turn n) (at point n -ℤ at turn.shift n)

-- the new axis on which an old axis lies
abbrev pub new_axis : Turn → ℕ → ℕ
new_axis turn old = if nat_eq (old_axis turn 0) old then 0 else (if nat_eq (old_axis turn 1) old then 1 else 2)

-- where a point lay before the turn
abbrev pub back : Turn → List ℤ → List ℤ
back turn point =
    back_at turn point (new_axis turn 0) ∷ back_at turn point (new_axis turn 1) ∷ back_at turn point (new_axis turn 2) ∷ []

-- the old axes in this order
abbrev pub has_axes : Turn → ℕ → ℕ → ℕ → Bool
has_axes turn x y z = nat_eq (old_axis turn 0) x && (nat_eq (old_axis turn 1) y && nat_eq (old_axis turn 2) z)

-- the axes in the order x, y, z, from any of them on; and the orders that exchange two axes
abbrev pub is_even_order : Turn → Bool
is_even_order turn = has_axes turn 0 1 2 || (has_axes turn 1 2 0 || has_axes turn 2 0 1)

abbrev pub is_odd_order : Turn → Bool
is_odd_order turn = has_axes turn 0 2 1 || (has_axes turn 1 0 2 || has_axes turn 2 1 0)

-- just one of two is so
abbrev pub either_alone : Bool → Bool → Bool
either_alone a b = if a then not b else b

-- one axis is negated, or all three are
abbrev pub is_mirrored : Turn → Bool
is_mirrored turn = either_alone (is_negated turn 0) (either_alone (is_negated turn 1) (is_negated turn 2))

-- one of the 24 turns: each axis once, and no mirror. The sign of the order times that of the negations, which is the determinant, is 1.
abbrev pub is_turn : Turn → Bool
is_turn turn = (is_even_order turn && not (is_mirrored turn)) || (is_odd_order turn && is_mirrored turn)

-- one of the turns, and moved by no more than the limit
pub record IsTurn (turn : Turn) : Type 0 where
  pub quarter : IsTrue (is_turn turn)
  pub near : IsWithin most_shift turn.shift
