-- A line of a certificate without its line end, and its words.
use Rattle.std.specs.Prelude.{ℕ, ◌==◌, List, [], ◌∷◌, Option, Some, None, if◌then◌else◌}
use Rattle.std.specs.Option.{option_map}
use Rattle.vf_io.specs.Pieces.{lead, line_feed}
use Rattle.vf_text.specs.Blanks.{blank_space}

-- the line of a piece, where the piece ends with LF; a CR is a byte of its line
abbrev pub line_in : List ℕ → Option (List ℕ)
line_in [] = None
line_in (b ∷ []) = if b == line_feed then Some [] else None
line_in (b ∷ c ∷ bytes) = option_map (λ line. b ∷ line) (line_in (c ∷ bytes))

-- the words of a line: what is between its spaces, so two spaces in a row have an empty word between them
abbrev pub spaced_words : List ℕ → List (List ℕ)
spaced_words [] = [] ∷ []
spaced_words (b ∷ bytes) = if b == blank_space then [] ∷ spaced_words bytes else lead b (spaced_words bytes)

-- the words after a word: none, or those after the space that ends it
abbrev pub words_after : List ℕ → List (List ℕ)
words_after [] = []
words_after (b ∷ bytes) = spaced_words bytes
