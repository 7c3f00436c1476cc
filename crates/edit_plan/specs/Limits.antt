-- The limits of a script.
use Rattle.std.specs.Prelude.{ℕ}

-- the most bytes of a script
abbrev pub most_script_bytes : ℕ
most_script_bytes = 4194304

-- the most moves that a script may choose from
abbrev pub most_script_moves : ℕ
most_script_moves = 50000

abbrev pub most_edits : ℕ
most_edits = 100000

abbrev pub most_queries : ℕ
most_queries = 1000
