-- Words that stand for the same in every command.
use Rattle.std.specs.Prelude.{ℕ, ◌&&◌, nat_le, not, Bool, List, [], Option, Some, None, if◌then◌else◌}
use Rattle.std.specs.Str.{bytes_eq}

-- a word by its bytes, and words in order
abbrev pub Word : Type 0
Word = List ℕ

abbrev pub Words : Type 0
Words = List Word

-- a file name is any word that isn't empty
abbrev pub is_name : Word → Bool
is_name word = not (bytes_eq word [])

-- a number between two bounds, both included
abbrev pub within : ℕ → ℕ → Option ℕ → Option ℕ
within least most None = None
within least most (Some n) = if nat_le least n && nat_le n most then Some n else None
