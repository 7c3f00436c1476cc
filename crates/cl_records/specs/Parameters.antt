-- What follows the major word: a slash and parameters between commas.
use Rattle.std.specs.Prelude.{ℕ, ◌==◌, List, [], ◌∷◌, map, Option, Some, None, if◌then◌else◌}
use Rattle.vf_io.specs.Pieces.{lead}
use Rattle.vf_text.specs.Blanks.{is_blank_text, behind_blanks, without_last_blanks}

-- the byte before the parameters, and the one between them
abbrev pub slash : ℕ
slash = 47

abbrev pub comma : ℕ
comma = 44

-- the fields between the commas: one where there is no comma
abbrev pub fields_of : List ℕ → List (List ℕ)
fields_of [] = [] ∷ []
fields_of (b ∷ bytes) = if b == comma then [] ∷ fields_of bytes else lead b (fields_of bytes)

-- a field without the blanks at both its ends
abbrev pub trimmed : List ℕ → List ℕ
trimmed field = without_last_blanks (behind_blanks field)

-- the parameters after a slash: none where there are only blanks
abbrev pub split_parameters : List ℕ → List (List ℕ)
split_parameters bytes = if is_blank_text bytes then [] else map trimmed (fields_of bytes)

-- what comes where a slash is expected: nothing, or a slash, or something else
abbrev pub behind_slash : List ℕ → Option (List (List ℕ))
behind_slash [] = Some []
behind_slash (b ∷ bytes) = if b == slash then Some (split_parameters bytes) else None

-- the parameters of a record, by what follows its word; not known where something else than a slash follows
abbrev pub parameters_of : List ℕ → Option (List (List ℕ))
parameters_of behind = behind_slash (behind_blanks behind)

-- the only parameter, where there is one and no more
abbrev pub only_of : List (List ℕ) → Option (List ℕ)
only_of (parameter ∷ []) = Some parameter
only_of _ = None
