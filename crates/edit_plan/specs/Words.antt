-- A line of a script as its words, and the lines that have any.
use Rattle.std.specs.Prelude.{ℕ, ◌+◌, ◌==◌, not, Bool, true, false, List, [], ◌∷◌, filter, take_while, if◌then◌else◌}
use Rattle.vf_io.specs.Pieces.{lead}
use Rattle.vf_text.specs.Blanks.{is_blank}
use Rattle.vf_text.specs.Lines.{lines_of}

-- the byte that begins a comment
abbrev pub hash : ℕ
hash = 35

-- the line up to the first of those
abbrev pub ahead_of_comment : List ℕ → List ℕ
ahead_of_comment line = take_while (λ b. not (b == hash)) line

-- what is between blanks: a text with no blank is one part
abbrev pub blank_parts : List ℕ → List (List ℕ)
blank_parts [] = [] ∷ []
blank_parts (b ∷ bytes) = if is_blank b then [] ∷ blank_parts bytes else lead b (blank_parts bytes)

-- it has a byte
abbrev pub has_byte : List ℕ → Bool
has_byte [] = false
has_byte (b ∷ bytes) = true

-- the words of a text
abbrev pub words_of : List ℕ → List (List ℕ)
words_of text = filter has_byte (blank_parts text)

-- A line that has words, with its number.
pub record WordedLine : Type 0 where
  pub number : ℕ
  pub words : List (List ℕ)

-- a line goes before others, unless it has no words
abbrev pub ahead_unless_blank : ℕ → List (List ℕ) → List WordedLine → List WordedLine
ahead_unless_blank number [] lines = lines
ahead_unless_blank number (word ∷ words) lines = record { number = number; words = word ∷ words } ∷ lines

-- the lines that have words, without their comments, of lines that are numbered from here on
abbrev pub worded_from : ℕ → List (List ℕ) → List WordedLine
worded_from number [] = []
worded_from number (line ∷ lines) = ahead_unless_blank number (words_of (ahead_of_comment line)) (worded_from (number + 1) lines)

-- those of all the bytes, numbered from 1
abbrev pub worded_lines : List ℕ → List WordedLine
worded_lines bytes = worded_from 1 (lines_of bytes)
