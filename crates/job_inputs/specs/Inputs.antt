-- What the bytes of an input stand for, and what reading one gives.
use Rattle.std.specs.Prelude.{◌≡◌, ℕ, nat_lt, length, List, Option, Some, None, Result, Ok, Err, Vec, Bool, true, false, if◌then◌else◌}
use Rattle.std.specs.Global.{Global}
use Rattle.cl_lines.specs.Texts.{most_bytes}
use Rattle.cl_lines.specs.declared.fault.ClFault.{ClFault}
use Rattle.cl_moves.specs.Program.{program_of}
use Rattle.cl_moves.specs.declared.program.Program.{Program}
use Rattle.edit_plan.specs.Limits.{most_script_bytes}
use Rattle.edit_plan.specs.Script.{script_of, whole_of_moves}
use Rattle.edit_plan.specs.declared.fault.ScriptFault.{ScriptFault}
use Rattle.edit_plan.specs.declared.script.Script.{Script}
use Rattle.ray_grid.specs.Grids.{GridSize}
use Rattle.input_faults.specs.declared.fault.Fault.{Fault}
use Rattle.input_faults.specs.declared.fault.Fault.TheVariants as faults
use Rattle.input_faults.specs.declared.fault.Input.{Input}
use Rattle.input_faults.specs.declared.fault.Input.TheVariants as inputs
use Rattle.setup_file.specs.Setups.{setup_of}
use Rattle.setup_file.specs.declared.setup.Setup.{Setup}
use Rattle.setup_keys.specs.declared.fault.SetupFault.{SetupFault}
use Rattle.input_faults.specs.declared.stopped.Stopped.{Stopped}
use Rattle.input_faults.specs.declared.stopped.Stopped.TheVariants.{Refused, ReadFault}

infixl 10 ◌>>=◌
-- what follows something that has no fault
abbrev pub ◌>>=◌ : {A B : Type 0} → Result A Fault → (A → Result B Fault) → Result B Fault
Ok x >>= next = next x
Err fault >>= next = Err fault

-- the bytes of an input, unless there are too many
abbrev pub bytes_within : Input → ℕ → List ℕ → Result (List ℕ) Fault
bytes_within input most bytes = if nat_lt most (length bytes) then Err (faults.TooLong input) else Ok bytes

-- a program, or the fault that its text is refused with
abbrev pub program_or_fault : Result Program ClFault → Result Program Fault
program_or_fault (Ok program) = Ok program
program_or_fault (Err fault) = Err (faults.Cl fault)

-- the program that the bytes of a file stand for, unless they are too many
abbrev pub read_of : List ℕ → Result Program Fault
read_of bytes = bytes_within inputs.Cl most_bytes bytes >>= (λ text. program_or_fault (program_of text))

-- the most bytes of a setup
abbrev pub most_setup_bytes : ℕ
most_setup_bytes = 1048576

-- a setup, or the fault that its text is refused with
abbrev pub setup_or_fault : Result Setup SetupFault → Result Setup Fault
setup_or_fault (Ok setup) = Ok setup
setup_or_fault (Err fault) = Err (faults.Setup fault)

-- the setup that the bytes of a file stand for, unless they are too many
abbrev pub setup_read_of : List ℕ → Result Setup Fault
setup_read_of bytes = bytes_within inputs.Setup most_setup_bytes bytes >>= (λ text. setup_or_fault (setup_of text))

-- a script, or the fault that its text is refused with
abbrev pub script_or_fault : Result Script ScriptFault → Result Script Fault
script_or_fault (Ok script) = Ok script
script_or_fault (Err fault) = Err (faults.Script fault)

-- the script that the bytes of a file stand for over `moves` moves and a grid, unless they are too many; where there is no file,
-- each move is applied once in order and nothing is asked
abbrev pub script_read_of : ℕ → GridSize → Option (List ℕ) → Result Script Fault
script_read_of moves grid None = Ok (whole_of_moves moves)
script_read_of moves grid (Some bytes) =
    bytes_within inputs.Script most_script_bytes bytes >>= (λ text. script_or_fault (script_of moves grid text))

-- what is due was given, or the fault that is; a file that couldn't be read and running out of memory leave it open
abbrev pub GivesInput : {T : Type 0} → Result T Stopped → Result T Fault → Type 0
GivesInput (Ok given) due = due ≡ Ok given
GivesInput (Err (Refused fault)) due = due ≡ Err fault
GivesInput (Err stopped) due = Unit {0}

-- the same of bytes
abbrev pub GivesBytes : Result (Vec ℕ Global) Stopped → Result (List ℕ) Fault → Type 0
GivesBytes (Ok given) due = due ≡ Ok given.items
GivesBytes (Err (Refused fault)) due = due ≡ Err fault
GivesBytes (Err stopped) due = Unit {0}

-- whether a file couldn't be read
abbrev pub is_read_fault : {T : Type 0} → Result T Stopped → Bool
is_read_fault (Err ReadFault) = true
is_read_fault _ = false
