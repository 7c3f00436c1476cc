-- How a command's report, or what stopped it, becomes a status and a text.
use Rattle.std.specs.Prelude.{◌≡◌, ℕ, List, Option, Some, Result, Ok, Err, ◌⊎◌}
use Rattle.clverify.specs.Outside.{WritesAnswer}
use Rattle.clverify.specs.Reply.{Due, refused}
use Rattle.clverify.specs.declared.reply.Reply.{Reply}
use Rattle.clverify.specs.declared.status.Status.{Status}
use Rattle.clverify.specs.declared.status.Status.TheVariants as ends
use Rattle.input_faults.specs.declared.stopped.Stopped.{Stopped}
use Rattle.input_faults.specs.declared.stopped.Stopped.TheVariants.{Refused, ReadFault, NoMemory}

-- the text and the status of an answer
abbrev pub answer_seen : Reply → Due
answer_seen answer = record { text = answer.text.items; status = answer.status }

-- the answer that is due, or the fault; a file that couldn't be read and running out of memory leave it open
abbrev pub IsReport : Result Reply Stopped → Due → Type 0
IsReport (Ok answer) due = due ≡ answer_seen answer
IsReport (Err (Refused fault)) due = due ≡ refused fault
IsReport (Err stopped) due = Unit {0}

-- a call that is to end with a status ends with it, or by a fault of writing, or when out of memory
abbrev pub MayEnd : Status → Status → Type 0
MayEnd whole status = (status ≡ whole) ⊎ ((status ≡ ends.WriteFault) ⊎ (status ≡ ends.NoMemory))

-- An answer is written, and a fault refused. A fault of reading and running out of memory are only the status, and nothing is written.
abbrev pub Settles : {K : Type 0} → (K → Option (List ℕ)) → (K → Option (List (List ℕ))) → (K → ℕ)
    → Result Reply Stopped → Status → K → K → Type 0
Settles written pieces faults (Ok answer) status old new =
    WritesAnswer written pieces faults status (Some (answer_seen answer)) old new × MayEnd answer.status status
Settles written pieces faults (Err (Refused fault)) status old new =
    WritesAnswer written pieces faults status (Some (refused fault)) old new × MayEnd (ends.Refused fault) status
Settles written pieces faults (Err ReadFault) status old new = (status ≡ ends.ReadFault) × (new ≡ old)
Settles written pieces faults (Err NoMemory) status old new = (status ≡ ends.NoMemory) × (new ≡ old)
