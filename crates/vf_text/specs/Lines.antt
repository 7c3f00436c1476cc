-- A text as its lines, without their line ends.
use Rattle.std.specs.Prelude.{ℕ, ◌==◌, List, [], ◌∷◌, map, if◌then◌else◌}
use Rattle.vf_io.specs.Pieces.{pieces_of, line_feed}

-- the byte CR, which may come before LF
abbrev pub carriage_return : ℕ
carriage_return = 13

-- the bytes without the last one, where that is this byte
abbrev pub without_last : ℕ → List ℕ → List ℕ
without_last end [] = []
without_last end (b ∷ []) = if b == end then [] else b ∷ []
without_last end (b ∷ c ∷ bytes) = b ∷ without_last end (c ∷ bytes)

-- a line without LF at its end, and then without CR at its end
abbrev pub line_of : List ℕ → List ℕ
line_of piece = without_last carriage_return (without_last line_feed piece)

-- the lines of all the bytes, in order
abbrev pub lines_of : List ℕ → List (List ℕ)
lines_of bytes = map line_of (pieces_of bytes)
