-- Blanks, and texts without those at their ends.
use Rattle.std.specs.Prelude.{ℕ, ◌==◌, ◌||◌, Bool, List, [], ◌∷◌, drop, if◌then◌else◌}
use Rattle.std.specs.List.{list_all, prefix_len}

-- the byte of a space
abbrev pub blank_space : ℕ
blank_space = 32

abbrev pub tab : ℕ
tab = 9

-- a space or a tab
abbrev pub is_blank : ℕ → Bool
is_blank b = b == blank_space || b == tab

-- the text is empty or has only blanks
abbrev pub is_blank_text : List ℕ → Bool
is_blank_text bytes = list_all is_blank bytes

-- the text without the blanks at its front
abbrev pub behind_blanks : List ℕ → List ℕ
behind_blanks bytes = drop (prefix_len is_blank bytes) bytes

-- the byte goes to the front, unless it is a blank with nothing after it
abbrev pub unless_last_blank : ℕ → List ℕ → List ℕ
unless_last_blank b [] = if is_blank b then [] else b ∷ []
unless_last_blank b (c ∷ bytes) = b ∷ c ∷ bytes

-- the text without the blanks at its end
abbrev pub without_last_blanks : List ℕ → List ℕ
without_last_blanks [] = []
without_last_blanks (b ∷ bytes) = unless_last_blank b (without_last_blanks bytes)
