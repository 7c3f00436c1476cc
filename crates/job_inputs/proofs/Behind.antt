-- What comes after a program and a setup that were read: the saved stock and the script, where none of the cutters is too low.
use Rattle.std.proofs.Common.{◌≡◌, ℕ, List, length, Option, Some, None, Result, Ok, Err, IfSome, ap, subst, sym, ◌∙◌}
use Rattle.std.specs.Option.{option_map}
use Rattle.vf_io.specs.Files.{Files, bytes_of}
use Rattle.cl_moves.specs.declared.moves.Move.{Move}
use Rattle.cl_moves.specs.declared.program.Program.{Program}
use Rattle.cutter_slabs.specs.Cutter.{CutterSize}
use Rattle.edit_plan.specs.declared.script.Script.{Script}
use Rattle.job_report.specs.Tasks.{Task}
use Rattle.move_cutters.specs.Cutters.{first_low}
use Rattle.move_cutters.specs.declared.cutters.CutterDefaults.{CutterDefaults}
use Rattle.input_faults.specs.declared.fault.Fault.{Fault}
use Rattle.input_faults.specs.declared.fault.Fault.TheVariants.{CutterHeight}
use Rattle.setup_file.specs.declared.setup.Setup.{Setup}
use Rattle.stock_file.specs.Saved.{Saved}
use Rattle.job_inputs.specs.Inputs.{◌>>=◌, GivesInput, script_read_of}
use Rattle.job_inputs.specs.Stocks.{stock_for}
use Rattle.job_inputs.specs.Tasks.{task_by, task_placed, task_with, tool_defaults, unless_low}
use Rattle.input_faults.specs.declared.stopped.Stopped.{Stopped}
use Rattle.input_faults.specs.declared.stopped.Stopped.TheVariants.{Refused, ReadFault, NoMemory}

-- what was looked for among the moves of a program is what is found in them
pub found_in : (tool : CutterSize) (moves given : List Move) (defaults : CutterDefaults) (found told : Option ℕ) → defaults ≡ tool_defaults tool → given ≡ moves
    → found ≡ first_low defaults given → found ≡ told → first_low (tool_defaults tool) moves ≡ told
found_in tool moves given defaults found told same_tool same_moves is_found is_told = cc

-- what is due after something that was read is what is due of it; the files are those of before
pub given_after : {A T : Type 0} (files later : Option Files) (due : Files → Result A Fault) (next : A → Files → Result T Fault) (read : A)
    (given : Result T Stopped) → later ≡ files → IfSome files (λ told. due told ≡ Ok read) → IfSome later (λ told. GivesInput given (next read told))
    → IfSome files (λ told. GivesInput given (due told >>= (λ other. next other told)))
given_after None later due next read given same is_read gives = tt
given_after {A} (Some told) later due next read given same is_read gives =
    subst (λ (input : Result A Fault). GivesInput given (input >>= (λ other. next other told))) (sym is_read)
    (subst (λ (files : Option Files). IfSome files (λ seen. GivesInput given (next read seen))) same gives)

-- what stops the reading of it stops it all
pub stopped_after : {A T : Type 0} (files : Option Files) (due : Files → Result A Fault) (next : A → Files → Result T Fault) (stopped : Stopped)
    → IfSome files (λ told. GivesInput {T = A} (Err stopped) (due told))
    → IfSome files (λ told. GivesInput {T = T} (Err stopped) (due told >>= (λ other. next other told)))
stopped_after None due next stopped read = tt
stopped_after (Some told) due next (Refused fault) read = ap (λ input. input >>= (λ other. next other told)) read
stopped_after (Some told) due next ReadFault read = tt
stopped_after (Some told) due next NoMemory read = tt

-- what is due of a program and a setup, by what was found of its cutters
abbrev due_by : Program → Setup → Option (List ℕ) → Option (List ℕ) → Option ℕ → Result Task Fault
due_by program setup stock script found = unless_low found program >>= (λ _. stock_for setup stock >>= (λ placed. task_placed program setup placed script))

module _ (stock script : Option (List ℕ)) (program : Program) (setup : Setup) where
  -- the files that the names stand for
  abbrev due_over : Files → Result Task Fault
  due_over told = task_with program setup (option_map (bytes_of told) stock) (option_map (bytes_of told) script)

  -- a cutter that is too low comes before both
  pub low_ahead : (files : Option Files) (line : ℕ) → first_low (tool_defaults setup.tool) program.moves ≡ Some line
      → IfSome files (λ told. task_with program setup (option_map (bytes_of told) stock) (option_map (bytes_of told) script) ≡ Err (CutterHeight line))
  low_ahead None line low = tt
  low_ahead (Some told) line low = ap (due_by program setup (option_map (bytes_of told) stock) (option_map (bytes_of told) script)) low

  -- where none is, what is due is what the stock and the script give
  pub if_high : (files : Option Files) (given : Result Task Stopped) → first_low (tool_defaults setup.tool) program.moves ≡ None
      → IfSome files (λ told. GivesInput given (stock_for setup (option_map (bytes_of told) stock)
      >>= (λ placed. task_placed program setup placed (option_map (bytes_of told) script))))
      → IfSome files (λ told. GivesInput given (task_with program setup (option_map (bytes_of told) stock) (option_map (bytes_of told) script)))
  if_high None given high gives = tt
  if_high (Some told) given high gives =
      subst (λ (found : Option ℕ). GivesInput given
      (due_by program setup (option_map (bytes_of told) stock) (option_map (bytes_of told) script) found)) (sym high) gives

-- what is due of all but the script is what the script gives
module _ (name : Option (List ℕ)) (program : Program) (setup : Setup) (stock : Option Saved) (count : ℕ) (same : count ≡ length program.moves) where
  abbrev placed_by : Result Script Fault → Result Task Fault
  placed_by read = read >>= (λ script. Ok (task_by program setup stock script))

  due_placed : (told : Files) (read : Result Script Fault) → script_read_of count setup.grid (option_map (bytes_of told) name) ≡ read
      → task_placed program setup stock (option_map (bytes_of told) name) ≡ placed_by read
  due_placed told read is_read =
      ap placed_by (subst (λ (n : ℕ). script_read_of n setup.grid (option_map (bytes_of told) name) ≡ read) same is_read)

  pub task_read : (files : Option Files) (script : Script)
      → IfSome files (λ told. script_read_of count setup.grid (option_map (bytes_of told) name) ≡ Ok script)
      → IfSome files (λ told. task_placed program setup stock (option_map (bytes_of told) name) ≡ Ok (task_by program setup stock script))
  task_read None script read = tt
  task_read (Some told) script read = due_placed told (Ok script) read

  -- the script's refusal
  pub task_stopped : (files : Option Files) (stopped : Stopped)
      → IfSome files (λ told. GivesInput {T = Script} (Err stopped) (script_read_of count setup.grid (option_map (bytes_of told) name)))
      → IfSome files (λ told. GivesInput {T = Task} (Err stopped) (task_placed program setup stock (option_map (bytes_of told) name)))
  task_stopped None stopped read = tt
  task_stopped (Some told) (Refused fault) read = due_placed told (Err fault) read
  task_stopped (Some told) ReadFault read = tt
  task_stopped (Some told) NoMemory read = tt
