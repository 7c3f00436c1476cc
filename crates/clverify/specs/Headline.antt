-- The headline: what a call of the program answers and writes, for every file and all words.
use Rattle.std.specs.Prelude.{◌≡◌, ℕ, List, Option, IfSome, ◌⊎◌}
use Rattle.std.specs.Io.KnownBytes.{Appends, Keeps}
use Rattle.vf_io.specs.Bytes.{AppendsFront}
use Rattle.vf_io.specs.Pieces.{pieces_of}
use Rattle.vf_io.specs.Whole.{HasPut, StopsInPiece}
use Rattle.clverify.specs.Reply.{Due}
use Rattle.clverify.specs.declared.status.Status.{Status}
use Rattle.clverify.specs.declared.status.Status.TheVariants.{ReadFault, WriteFault, NoMemory}

-- the whole text that is due was written, with its status
abbrev pub IsDue : Status → Option Due → Option (List ℕ) → Option (List ℕ) → Type 0
IsDue status due old new = IfSome due (λ d. (status ≡ d.status) × Appends old new d.text)

-- After a fault of reading, or when out of memory, nothing was written; after a fault of writing a front of
-- the text that is due. Every other answer is the one that is due.
abbrev pub Answers : Status → Option Due → Option (List ℕ) → Option (List ℕ) → Type 0
Answers ReadFault due old new = Keeps old new
Answers NoMemory due old new = Keeps old new
Answers WriteFault due old new = IfSome due (λ d. AppendsFront old new d.text)
Answers status due old new = IsDue status due old new

-- What was handed to the sink: each line of the text that is due by a put of its own; after a fault of writing the lines up to
-- the one that failed, and no further one; after a fault of reading, or when out of memory, nothing.
abbrev pub Hands : Status → Option Due → Option (List ℕ) → Option (List ℕ) → Option (List (List ℕ)) → Option (List (List ℕ)) → Type 0
Hands ReadFault due old new before after = after ≡ before
Hands NoMemory due old new before after = after ≡ before
Hands WriteFault due old new before after = IfSome due (λ d. StopsInPiece old new before after (pieces_of d.text))
Hands status due old new before after = IfSome due (λ d. HasPut old new before after (pieces_of d.text))

-- the answer that is due, or none when out of memory
abbrev pub IsComplete : Status → Option Due → Option (List ℕ) → Option (List ℕ) → Type 0
IsComplete status due old new = (status ≡ NoMemory) ⊎ IsDue status due old new
