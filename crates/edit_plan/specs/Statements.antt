-- The grammar of a script's lines, by their words.
use Rattle.std.specs.Prelude.{ℕ, ◌&&◌, Bool, true, false, List, [], ◌∷◌, codes, Option, Some, None, option_and_then, if◌then◌else◌}
use Rattle.std.specs.Option.{option_map}
use Rattle.std.specs.Str.{bytes_eq}
use Rattle.vf_text.specs.Digits.{count_digits, number_spelt}
use Rattle.ray_grid.specs.declared.ray.Family.{Family}
use Rattle.ray_grid.specs.declared.ray.Family.TheVariants.{X, Y, Z}
use Rattle.edit_plan.specs.declared.statement.Edition.{Edition}
use Rattle.edit_plan.specs.declared.statement.Edition.TheVariants.{First, Second}
use Rattle.edit_plan.specs.declared.statement.Statement.{Statement}
use Rattle.edit_plan.specs.declared.statement.Statement.TheVariants.{Run, UndoTimes, RedoTimes, ProbePoint, CountPoints}

-- the line `edition 2`
abbrev pub is_edition_line : List (List ℕ) → Bool
is_edition_line (word ∷ number ∷ []) = bytes_eq word (codes "edition") && bytes_eq number (codes "2")
is_edition_line _ = false

-- only the second edition has `redo`
abbrev pub has_redo : Edition → Bool
has_redo First = false
has_redo Second = true

-- a word of one to nine digits is a number
abbrev pub number_in : List ℕ → Option ℕ
number_in word = number_spelt count_digits word

-- the family that a letter names
abbrev pub family_in : List ℕ → Option Family
family_in word =
    if bytes_eq word (codes "X") then Some X
    else (if bytes_eq word (codes "Y") then Some Y
    else (if bytes_eq word (codes "Z") then Some Z else None))

-- `I J` after `run`
abbrev pub run_in : List (List ℕ) → Option Statement
run_in (i ∷ j ∷ []) = option_and_then (λ first. option_map (λ last. Run first last) (number_in j)) (number_in i)
run_in _ = None

-- `N` after `undo`, and after `redo`
abbrev pub undo_in : List (List ℕ) → Option Statement
undo_in (n ∷ []) = option_map (λ times. UndoTimes times) (number_in n)
undo_in _ = None

abbrev pub redo_in : List (List ℕ) → Option Statement
redo_in (n ∷ []) = option_map (λ times. RedoTimes times) (number_in n)
redo_in _ = None

-- the point that a family and three numbers name
abbrev pub probe_of : Option Family → Option ℕ → Option ℕ → Option ℕ → Option Statement
probe_of (Some family) (Some i) (Some j) (Some l) = Some (ProbePoint (record { family = family; i = i; j = j }) l)
probe_of _ _ _ _ = None

-- `F I J L` after `probe`
abbrev pub probe_in : List (List ℕ) → Option Statement
probe_in (f ∷ i ∷ j ∷ l ∷ []) = probe_of (family_in f) (number_in i) (number_in j) (number_in l)
probe_in _ = None

-- nothing after `count`
abbrev pub count_in : List (List ℕ) → Option Statement
count_in [] = Some CountPoints
count_in _ = None

-- what a line's words say in an edition, where they are one of the lines `run I J`, `undo N`, `redo N`, `probe F I J L` and `count`
abbrev pub statement_of : Edition → List (List ℕ) → Option Statement
statement_of edition [] = None
statement_of edition (verb ∷ words) =
    if bytes_eq verb (codes "run") then run_in words
    else (if bytes_eq verb (codes "undo") then undo_in words
    else (if has_redo edition && bytes_eq verb (codes "redo") then redo_in words
    else (if bytes_eq verb (codes "probe") then probe_in words
    else (if bytes_eq verb (codes "count") then count_in words else None))))
