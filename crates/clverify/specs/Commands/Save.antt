-- `save CL SETUP [--script F] [--stock F]`: what the moves of a cutter location file leave of the stock, as a text that `--stock` takes.
use Rattle.std.specs.Prelude.{◌≡◌, ℕ, List, [], ◌∷◌, ◌++◌, Option, Some, None, Result, Ok, codes, if◌then◌else◌}
use Rattle.std.specs.Option.{option_map, option_to_list}
use Rattle.std.specs.Str.{bytes_eq}
use Rattle.job_report.specs.Remaining.{remaining_stock}
use Rattle.job_report.specs.Tasks.{Task}
use Rattle.job_report.specs.TrueStock.{IsTrueRemainder}
use Rattle.stock_file.specs.Reading.{stock_of}
use Rattle.stock_file.specs.Saved.{Saved}
use Rattle.stock_file.specs.Spelling.{saved_of}
use Rattle.input_faults.specs.declared.fault.Fault.{Fault}
use Rattle.call_words.specs.Call.{named}
use Rattle.call_words.specs.Words.{Word, Words}
use Rattle.vf_io.specs.Files.{Files, bytes_of}
use Rattle.clverify.specs.Reply.{Due, answer_of}
use Rattle.job_inputs.specs.Tasks.{task_of}
use Rattle.clverify.specs.declared.status.Status.TheVariants.{Clean}

-- its first word, and those of its options
abbrev pub save_name : Word
save_name = codes "save"

abbrev pub script_option : Word
script_option = codes "--script"

abbrev pub stock_option : Word
stock_option = codes "--stock"

-- the files of a script and of a saved stock, where there are some
pub record MoreFiles : Type 0 where
  pub script : Option Word
  pub stock : Option Word

-- a call of it: the program's file, the setup's, and those
pub record SaveCall : Type 0 where
  pub file : Word
  pub setup : Word
  pub more : MoreFiles

-- the file that an option with this name has
abbrev pub file_by : Word → Word → Word → Option Word
file_by option word file = if bytes_eq word option then named file else None

-- one option with its file
abbrev pub one_file : Word → Word → Option MoreFiles
one_file word file =
    if bytes_eq word script_option then option_map (λ script. record { script = Some script; stock = None }) (named file)
    else option_map (λ stock. record { script = None; stock = Some stock }) (file_by stock_option word file)

-- both, where each has a file
abbrev pub both_files : Option Word → Option Word → Option MoreFiles
both_files (Some script) (Some stock) = Some (record { script = Some script; stock = Some stock })
both_files _ _ = None

-- a call, where it has all its parts
abbrev pub save_call : Option Word → Option Word → Option MoreFiles → Option SaveCall
save_call (Some file) (Some setup) (Some more) = Some (record { file = file; setup = setup; more = more })
save_call _ _ _ = None

-- the words after it: two names, then the options in this order
abbrev pub save_words : Words → Option SaveCall
save_words (file ∷ setup ∷ []) = save_call (named file) (named setup) (Some (record { script = None; stock = None }))
save_words (file ∷ setup ∷ option ∷ more ∷ []) = save_call (named file) (named setup) (one_file option more)
save_words (file ∷ setup ∷ first ∷ script ∷ second ∷ stock ∷ []) =
    save_call (named file) (named setup) (both_files (file_by script_option first script) (file_by stock_option second stock))
save_words _ = None

-- the files that a call of it names, in the order in which they are read
abbrev pub saved_names : SaveCall → Words
saved_names call = call.file ∷ call.setup ∷ (option_to_list call.more.stock ++ option_to_list call.more.script)

-- the task that the files that a call names stand for, or the first fault
abbrev pub task_to_save : SaveCall → Files → Result Task Fault
task_to_save call files =
    task_of (bytes_of files call.file) (bytes_of files call.setup) (option_map (bytes_of files) call.more.stock)
    (option_map (bytes_of files) call.more.script)

-- a stock is written, which is no finding, whatever the moves cut into
abbrev pub stock_answered : Saved → Due
stock_answered stock = record { text = saved_of stock; status = Clean }

-- of a task it is what its moves leave
abbrev pub saved : Task → Due
saved task = stock_answered (remaining_stock task.job)

-- what is due: that text, or the refusal of the first file that has a fault
abbrev pub save_due : SaveCall → Files → Due
save_due call files = answer_of saved (task_to_save call files)

-- The text of a saved stock: it stands for that stock alone, and what it says is true of the task's stock, point by point.
pub record SavesTruly (task : Task) (text : List ℕ) : Type 0 where
  pub stock : Saved
  pub is_text : text ≡ saved_of stock
  pub stands_for : stock_of text ≡ Ok stock
  pub is_true : IsTrueRemainder task.job stock

-- what is true of a text that it writes: it saves what is left of the stock of the task that the files stand for
pub record IsTrueSaving (call : SaveCall) (files : Files) (text : List ℕ) : Type 0 where
  pub task : Task
  pub stands_for : task_to_save call files ≡ Ok task
  pub saves_truly : SavesTruly task text
