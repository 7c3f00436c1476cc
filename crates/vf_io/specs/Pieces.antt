-- A text as its lines, each with its line end.
use Rattle.std.specs.Prelude.{ℕ, ◌==◌, List, [], ◌∷◌, if◌then◌else◌}

-- the byte LF, which ends a line
abbrev pub line_feed : ℕ
line_feed = 10

-- the byte goes to the front of the first piece, or is a piece of its own where there is none
abbrev pub lead : ℕ → List (List ℕ) → List (List ℕ)
lead b [] = (b ∷ []) ∷ []
lead b (piece ∷ pieces) = (b ∷ piece) ∷ pieces

-- the pieces that end after each LF, and what comes after the last one where anything does
abbrev pub pieces_of : List ℕ → List (List ℕ)
pieces_of [] = []
pieces_of (b ∷ bytes) = if b == line_feed then (b ∷ []) ∷ pieces_of bytes else lead b (pieces_of bytes)
