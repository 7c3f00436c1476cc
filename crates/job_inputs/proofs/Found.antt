-- A move that is found among those of a program is the one that is due, with its task.
use Rattle.std.proofs.Common.{◌≡◌, ℕ, zero, suc, ◌-◌, ◌<◌, nat_lt, List, [], ◌∷◌, length, map, Bool, true, false, Option, Some, None, Result, Ok, Err, IfSome, if◌then◌else◌, refl, ap, subst, sym, ◌∙◌}
use Rattle.std.specs.List.{All, slice_get}
use Rattle.std.specs.Option.{option_map}
use Rattle.std.proofs.lemmas.Bool.{ltb-true}
use Rattle.std.proofs.lemmas.List.{length-map}
use Rattle.std.proofs.lemmas.Option.{get_or_from_slice_get, none-some, same_Some, slice_get-map, slice_get_within}
use Rattle.vf_io.specs.Files.{Files, bytes_of}
use Rattle.cl_moves.specs.Moves.{IsMove}
use Rattle.cl_moves.specs.declared.moves.Move.{Move}
use Rattle.cl_moves.specs.declared.program.Program.{Program}
use Rattle.cutter_slabs.specs.Cutter.{CutterSize}
use Rattle.edit_plan.specs.Edits.{applied_moves}
use Rattle.edit_plan.specs.Script.{whole_of_moves}
use Rattle.job_model.specs.Tasks.{JobMove}
use Rattle.job_report.specs.Tasks.{Task}
use Rattle.move_cutters.specs.Cutters.{first_low, is_move_low}
use Rattle.move_cutters.specs.declared.cutters.CutterDefaults.{CutterDefaults}
use Rattle.input_faults.specs.declared.fault.Fault.{Fault}
use Rattle.input_faults.specs.declared.fault.Fault.TheVariants.{CutterHeight, MoveRange}
use Rattle.setup_file.specs.Sound.{IsSetup}
use Rattle.setup_file.specs.declared.setup.Setup.{Setup}
use Rattle.job_inputs.specs.Asked.{AskedMove, IsNumbered, asked_among, asked_behind, asked_by, asked_move_of, move_asked, move_or_fault, numbered_move}
use Rattle.job_inputs.specs.Inputs.{◌>>=◌, GivesInput, read_of, setup_read_of}
use Rattle.job_inputs.specs.Ready.{IsAskable}
use Rattle.job_inputs.specs.Tasks.{job_move, task_behind, task_by, task_with, tool_defaults, unless_low}
use Rattle.input_faults.specs.declared.stopped.Stopped.{Stopped}
use Rattle.input_faults.specs.declared.stopped.Stopped.TheVariants.{Refused, ReadFault, NoMemory}

-- the move with a number, with its cutter
made_of_none : (f : Move → JobMove) (within : Bool) (found : Option Move)
    → (if within then option_map f found else None) ≡ option_map f (if within then found else None)
made_of_none f true found = refl
made_of_none f false found = refl

pub numbered-map : (f : Move → JobMove) (number : ℕ) (items : List Move) → numbered_move number (map f items) ≡ option_map f (numbered_move number items)
numbered-map f number items =
    ap (λ (found : Option JobMove). if nat_lt 0 number then found else None) (slice_get-map f items (number - 1)) ∙ made_of_none f (nat_lt 0 number) (slice_get items (number - 1))

-- an item that has a number is there
there : {A : Type 0} (some : Bool) (found : Option A) (item : A) → (if some then found else None) ≡ Some item → (some ≡ true) × (found ≡ Some item)
there true found item h = (refl, h)
there false found item h = cc

pub numbered_at : {A : Type 0} (number : ℕ) (items : List A) (item : A) → numbered_move number items ≡ Some item
    → (0 < number) × (slice_get items (number - 1) ≡ Some item)
numbered_at number items item h =
    let found = there (nat_lt 0 number) (slice_get items (number - 1)) item h in (ltb-true 0 number found.0, found.1)

-- what was found at a number among the moves of a program is what is there
pub found_is : (moves given : List Move) (number : ℕ) (found told : Option Move) → given ≡ moves → found ≡ numbered_move number given → found ≡ told
    → numbered_move number moves ≡ told
found_is moves given number found told same is has = sym (ap (λ (items : List Move). numbered_move number items) same) ∙ sym is ∙ has

-- where no cutter is too low, the move's isn't
not_low : (low : Bool) (at : ℕ) (rest : Option ℕ) → (if low then Some at else rest) ≡ None → low ≡ false
not_low true at rest none = cc
not_low false at rest none = refl

not_later : (low : Bool) (at : ℕ) (rest : Option ℕ) → (if low then Some at else rest) ≡ None → rest ≡ None
not_later true at rest none = cc
not_later false at rest none = none

high_at : (defaults : CutterDefaults) (moves : List Move) (i : ℕ) (move : Move) → first_low defaults moves ≡ None → slice_get moves i ≡ Some move
    → is_move_low defaults move ≡ false
high_at defaults [] i move none at = absurd (none-some move at)
high_at defaults (next ∷ moves) zero move none at =
    subst (λ (m : Move). is_move_low defaults m ≡ false) (same_Some next move at) (not_low (is_move_low defaults next) next.line (first_low defaults moves) none)
high_at defaults (next ∷ moves) (suc i) move none at =
    high_at defaults moves i move (not_later (is_move_low defaults next) next.line (first_low defaults moves) none) at

-- a move that was found may be asked for
pub askable : (setup : Setup) (moves : List Move) (number : ℕ) (move : Move) → IsSetup setup → All IsMove moves
    → first_low (tool_defaults setup.tool) moves ≡ None → numbered_move number moves ≡ Some move → IsAskable setup move
askable setup moves number move setup_in valid high found =
    let at = (numbered_at number moves move found).1 in record {
      setup_in = setup_in;
      valid = subst IsMove (get_or_from_slice_get moves (number - 1) move move at) (valid (number - 1) move (slice_get_within moves (number - 1) move at));
      high = high_at (tool_defaults setup.tool) moves (number - 1) move high at;
    }

-- what is due of a program and a setup, by what was found of its cutters
abbrev due_after : Program → Setup → ℕ → Option ℕ → Result AskedMove Fault
due_after program setup number found =
    (unless_low found program >>= (λ _. Ok (task_by program setup None (whole_of_moves (length program.moves))))) >>= move_asked number

-- a cutter that is too low comes before the number
pub low_first : (program : Program) (setup : Setup) (number line : ℕ) → first_low (tool_defaults setup.tool) program.moves ≡ Some line
    → asked_among program setup number ≡ Err (CutterHeight line)
low_first program setup number line low = ap (due_after program setup number) low

-- where none is, what is due is what is found at the number
abbrev found_at : Program → Setup → ℕ → Option Move → Result AskedMove Fault
found_at program setup number found =
    move_or_fault (task_by program setup None (whole_of_moves (length program.moves))) number (option_map (job_move setup.tool) found)

pub found_due : (program : Program) (setup : Setup) (number : ℕ) (found : Option Move) → first_low (tool_defaults setup.tool) program.moves ≡ None
    → numbered_move number program.moves ≡ found → asked_among program setup number ≡ found_at program setup number found
found_due program setup number found high is =
    ap (due_after program setup number) high
    ∙ ap (move_or_fault (task_by program setup None (whole_of_moves (length program.moves))) number)
    (numbered-map (job_move setup.tool) number program.moves ∙ ap (option_map (job_move setup.tool)) is)

-- none has a number that is out of range
pub no_move : (program : Program) (setup : Setup) (number moves : ℕ) → first_low (tool_defaults setup.tool) program.moves ≡ None
    → numbered_move number program.moves ≡ None → moves ≡ length program.moves → asked_among program setup number ≡ Err (MoveRange number moves)
no_move program setup number moves high none count =
    found_due program setup number None high none
    ∙ ap (λ n. Err (MoveRange number n)) (length-map program.moves (job_move setup.tool) ∙ sym count)

-- the move that was found has its number in its task
pub is_numbered : (program : Program) (setup : Setup) (number : ℕ) (move : Move) → numbered_move number program.moves ≡ Some move
    → IsNumbered (asked_by program setup number move)
is_numbered program setup number move found = record {
  numbered = numbered-map (job_move setup.tool) number program.moves ∙ ap (option_map (job_move setup.tool)) found;
  whole = ap (applied_moves 0) (sym (length-map program.moves (job_move setup.tool)));
}

-- what is due of a program and the bytes of a setup is what is due of it and the setup that was read
pub asked_after : (files : Option Files) (setup : List ℕ) (number : ℕ) (program : Program) (read : Setup) (given : Result AskedMove Stopped)
    → IfSome files (λ told. setup_read_of (bytes_of told setup) ≡ Ok read) → GivesInput given (asked_among program read number)
    → IfSome files (λ told. GivesInput given (asked_behind program (bytes_of told setup) number))
asked_after None setup number program read given is_read gives = tt
asked_after (Some told) setup number program read given is_read gives =
    subst (λ (due : Result Setup Fault). GivesInput given ((due >>= (λ other. task_with program other None None)) >>= move_asked number)) (sym is_read) gives

-- what stops the reading of the setup stops it all
pub setup_stopped : (files : Option Files) (setup : List ℕ) (number : ℕ) (program : Program) (stopped : Stopped)
    → IfSome files (λ told. GivesInput {T = Setup} (Err stopped) (setup_read_of (bytes_of told setup)))
    → IfSome files (λ told. GivesInput {T = AskedMove} (Err stopped) (asked_behind program (bytes_of told setup) number))
setup_stopped None setup number program stopped read = tt
setup_stopped (Some told) setup number program (Refused fault) read =
    ap (λ (due : Result Setup Fault). (due >>= (λ other. task_with program other None None)) >>= move_asked number) read
setup_stopped (Some told) setup number program ReadFault read = tt
setup_stopped (Some told) setup number program NoMemory read = tt

-- what is due of the bytes of both files is what is due of the program that was read and the bytes of the setup
pub asked_from : (files later : Option Files) (file setup : List ℕ) (number : ℕ) (program : Program) (given : Result AskedMove Stopped) → later ≡ files
    → IfSome files (λ told. read_of (bytes_of told file) ≡ Ok program)
    → IfSome later (λ told. GivesInput given (asked_behind program (bytes_of told setup) number))
    → IfSome files (λ told. GivesInput given (asked_move_of (bytes_of told file) (bytes_of told setup) number))
asked_from None later file setup number program given same is_read gives = tt
asked_from (Some told) later file setup number program given same is_read gives =
    subst (λ (due : Result Program Fault). GivesInput given ((due >>= (λ other. task_behind other (bytes_of told setup) None None)) >>= move_asked number)) (sym is_read)
    (subst (λ (files : Option Files). IfSome files (λ seen. GivesInput given (asked_behind program (bytes_of seen setup) number))) same gives)

-- what stops the reading of the program stops it all
pub program_stopped : (files : Option Files) (file setup : List ℕ) (number : ℕ) (stopped : Stopped)
    → IfSome files (λ told. GivesInput {T = Program} (Err stopped) (read_of (bytes_of told file)))
    → IfSome files (λ told. GivesInput {T = AskedMove} (Err stopped) (asked_move_of (bytes_of told file) (bytes_of told setup) number))
program_stopped None file setup number stopped read = tt
program_stopped (Some told) file setup number (Refused fault) read =
    ap (λ (due : Result Program Fault). (due >>= (λ other. task_behind other (bytes_of told setup) None None)) >>= move_asked number) read
program_stopped (Some told) file setup number ReadFault read = tt
program_stopped (Some told) file setup number NoMemory read = tt
