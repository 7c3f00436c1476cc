-- Reading a list of numbered items in order, up to the first fault.
use Rattle.std.specs.Prelude.{◌≡◌, ℕ, List, [], ◌∷◌, Option, Some, None, Result, Ok, Err}
use Rattle.cl_lines.specs.Texts.{Numbered}
use Rattle.cl_lines.specs.declared.fault.ClFault.{ClFault}
use Rattle.cl_lines.specs.declared.fault.ClEnd.{ClEnd}
use Rattle.cl_lines.specs.declared.fault.ClEnd.TheVariants.{Refused, NoMemory}

-- the first item with its number, and what is left after it
abbrev pub next_of : {A : Type 0} → List (Numbered A) → Result (Option (ℕ × A) × List (Numbered A)) ClFault
next_of [] = Ok (None, [])
next_of ((number, Ok item) ∷ items) = Ok (Some (number, item), items)
next_of ((number, Err why) ∷ items) = Err (record { line = number; why = why })

-- a refusal is the one that is expected, and changes nothing; running out of memory changes nothing either
abbrev pub Ends : {A : Type 0} → List (Numbered A) → List (Numbered A) → ClEnd → Type 0
Ends old new (Refused fault) = (next_of old ≡ Err fault) × (new ≡ old)
Ends old new NoMemory = new ≡ old
