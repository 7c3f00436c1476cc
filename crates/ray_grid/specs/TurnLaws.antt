-- What is so of every turn, and how many there are.
use Rattle.std.specs.Prelude.{◌≡◌, ℕ, ◌<◌, ℤ, pos, ◌-ℤ◌, true, false, IsTrue, List, [], ◌∷◌, length, map, filter, slice_index_or}
use Rattle.std.specs.List.{flat_map}
use Rattle.space.specs.Vectors.{at, dot}
use Rattle.ray_grid.specs.declared.turn.Turn.{Turn}
use Rattle.ray_grid.specs.Turns.{back, forth, is_turn}

-- a point that was turned lay where it was
abbrev pub BackUndoesForth : Type 0
BackUndoesForth = (turn : Turn) (x y z : ℤ) → IsTrue (is_turn turn) → back turn (forth turn (x ∷ y ∷ z ∷ [])) ≡ x ∷ y ∷ z ∷ []

-- and one that lay where a place says is turned to that place
abbrev pub ForthUndoesBack : Type 0
ForthUndoesBack = (turn : Turn) (x y z : ℤ) → IsTrue (is_turn turn) → forth turn (back turn (x ∷ y ∷ z ∷ [])) ≡ x ∷ y ∷ z ∷ []

-- the squared distance of two points
abbrev pub distance_square : List ℤ → List ℤ → ℤ
distance_square p q =
    let offset = (at q 0 -ℤ at p 0) ∷ (at q 1 -ℤ at p 1) ∷ (at q 2 -ℤ at p 2) ∷ [] in
    dot offset offset

-- no turn changes how far two points are apart
abbrev pub KeepsDistances : Type 0
KeepsDistances =
    (turn : Turn) (p q : List ℤ) → IsTrue (is_turn turn) → distance_square (forth turn p) (forth turn q) ≡ distance_square p q

-- each way to fill three places with some items
abbrev pub triples_of : {X : Type 0} → List X → List (List X)
triples_of items = flat_map (λ a. flat_map (λ b. map (λ c. a ∷ b ∷ c ∷ []) items) items) items

-- what might be a turn: three axes in any places, each negated or not, and not moved
abbrev pub candidates : List Turn
candidates =
    flat_map (λ axis. map (λ neg. record { axis = axis; neg = neg; shift = pos 0 ∷ pos 0 ∷ pos 0 ∷ [] }) (triples_of (false ∷ true ∷ [])))
    (triples_of (0 ∷ 1 ∷ 2 ∷ []))

abbrev pub all_turns : List Turn
all_turns = filter is_turn candidates

-- there are 24 turns
abbrev pub ThereAre24 : Type 0
ThereAre24 = length all_turns ≡ 24

-- no two of them take the point 1, 2, 3 to one place, so no two are the same
abbrev pub AreDifferent : Type 0
AreDifferent =
    let one_two_three = pos 1 ∷ pos 2 ∷ pos 3 ∷ [] in
    (i j : ℕ) (d : Turn) → i < 24 → j < 24
    → forth (slice_index_or all_turns i d) one_two_three ≡ forth (slice_index_or all_turns j d) one_two_three → i ≡ j
