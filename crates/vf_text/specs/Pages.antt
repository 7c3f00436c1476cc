-- What is written: lines, and numbers in a line.
use Rattle.std.specs.Prelude.{ℕ, ℤ, List, [], ◌∷◌, ◌++◌, flat_map, codes}
use Rattle.std.specs.Fmt.{signed_decimal}
use Rattle.vf_io.specs.Pieces.{line_feed}

-- a line with its line end
abbrev pub line : List ℕ → List ℕ
line bytes = bytes ++ line_feed ∷ []

-- numbers, each with a space before it
abbrev pub numbers : List ℤ → List ℕ
numbers values = flat_map (λ value. codes " " ++ signed_decimal value) values
