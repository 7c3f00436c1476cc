-- What a shelf shows that opens an absent name as an empty file.
use Rattle.std.specs.Prelude.{ℕ, Bool, List, [], Option, Some, if◌then◌else◌}
use Rattle.vf_io.specs.Shelved.{unread_bytes}
use Rattle.vf_io.specs.declared.memory_shelf.MemShelf.{MemShelf}

-- what is unread: nothing where the open name is absent, else what the files show
abbrev pub unread_or_none : Bool → MemShelf → Option (List ℕ)
unread_or_none absent shelf = if absent then Some [] else unread_bytes shelf
