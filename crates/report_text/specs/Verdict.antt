-- The last lines of what a check writes: the totals, and the verdict.
use Rattle.std.specs.Prelude.{ℕ, Bool, List, ◌++◌, flat_map, codes, decimal, if◌then◌else◌}
use Rattle.vf_text.specs.Pages.{line}
use Rattle.job_counts.specs.declared.totals.Totals.{Totals}

-- lines, each with its line end
abbrev pub text_of_lines : List (List ℕ) → List ℕ
text_of_lines lines = flat_map line lines

-- how many points are removed and how many possible, of how many
abbrev pub points_text : Totals → List ℕ
points_text totals =
    codes " removed " ++ decimal totals.removed ++ codes " possible " ++ decimal totals.possible
    ++ codes " of " ++ decimal totals.of

-- the totals of all moves that are left
abbrev pub total_text : Totals → List ℕ
total_text totals = codes "total" ++ points_text totals

-- clean, or there are findings
abbrev pub verdict_text : Bool → List ℕ
verdict_text clean = if clean then codes "verdict clean" else codes "verdict findings"
