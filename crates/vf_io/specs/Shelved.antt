-- What a shelf in memory shows: its files, which calls fail, and what is unread of the open file.
use Rattle.std.specs.Prelude.{ℕ, Bool, List, drop, map, Option, Some, None, String, Vec, string_bytes, if◌then◌else◌}
use Rattle.std.specs.Global.{Global}
use Rattle.std.specs.FinMap as finite
use Rattle.vf_io.specs.Files.{Files}
use Rattle.vf_io.specs.Memory.{FileList, contents_at, fails_now}
use Rattle.vf_io.specs.declared.memory_shelf.MemShelf.{MemShelf}

-- files as they lie in memory, as their names and bytes
abbrev pub listed_files : List (String Global × Vec ℕ Global) → FileList
listed_files files = map (λ file. (string_bytes file.0, file.1.items)) files

-- its files in order, of which the first of a name counts
abbrev pub file_list : MemShelf → FileList
file_list shelf = listed_files shelf.files.items

abbrev pub told_files : MemShelf → Option Files
told_files shelf = Some (finite.from_entries (file_list shelf))

abbrev pub unread_bytes : MemShelf → Option (List ℕ)
unread_bytes shelf = if shelf.is_open then Some (drop shelf.taken (contents_at (file_list shelf) shelf.file)) else None

-- how many calls there were, up to the greatest count
abbrev pub call_count : MemShelf → ℕ
call_count shelf = shelf.calls

abbrev pub fault_count : MemShelf → ℕ
fault_count shelf = shelf.faults

-- the numbers of the calls that fail
abbrev pub failing_calls : MemShelf → List ℕ
failing_calls shelf = shelf.failing.items

-- the next call fails by its number
abbrev pub fails_next : MemShelf → Bool
fails_next shelf = fails_now (failing_calls shelf) shelf.calls
