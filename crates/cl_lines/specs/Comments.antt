-- What a line has besides a record's text: a comment, and the dollar sign that continues the record.
use Rattle.std.specs.Prelude.{ℕ, ◌==◌, ◌&&◌, Bool, false, List, [], ◌∷◌, if◌then◌else◌}
use Rattle.vf_text.specs.Blanks.{without_last_blanks}
use Rattle.vf_text.specs.Lines.{without_last}

-- the byte that continues a record, and twice begins a comment
abbrev pub dollar : ℕ
dollar = 36

-- the line up to the first two dollar signs in a row
abbrev pub without_comment : List ℕ → List ℕ
without_comment [] = []
without_comment (b ∷ []) = b ∷ []
without_comment (b ∷ c ∷ bytes) = if b == dollar && c == dollar then [] else b ∷ without_comment (c ∷ bytes)

-- the last byte is this one
abbrev pub ends_with : ℕ → List ℕ → Bool
ends_with end [] = false
ends_with end (b ∷ []) = b == end
ends_with end (b ∷ c ∷ bytes) = ends_with end (c ∷ bytes)

-- the last byte that isn't a blank is the dollar sign, so the next line goes on with the record
abbrev pub is_continued : List ℕ → Bool
is_continued line = ends_with dollar (without_last_blanks line)

-- the part of a continued line that belongs to the record
abbrev pub continued_part : List ℕ → List ℕ
continued_part line = without_last dollar (without_last_blanks line)

-- the part of a line that belongs to its record
abbrev pub record_part : List ℕ → List ℕ
record_part line = if is_continued line then continued_part line else line
