-- What is known of files that are handed over as they lie in memory.
use Rattle.std.specs.Prelude.{ℕ, List, Option, Some, String, Vec}
use Rattle.std.specs.FinMap as finite
use Rattle.std.specs.Global.{Global}
use Rattle.vf_io.specs.Files.{Files}
use Rattle.vf_io.specs.Shelved.{listed_files}

-- the files by their names, of which the first of a name counts
abbrev pub files_told : List (String Global × Vec ℕ Global) → Option Files
files_told files = Some (finite.from_entries (listed_files files))
