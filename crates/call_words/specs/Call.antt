-- A call of `verify`: the files that it names, and the number of workers. The words after `verify` stand for one where the
-- library's parser takes them, each name has a byte, and the number is in its range.
use Rattle.std.specs.Prelude.{ℕ, Option, Some, None, if◌then◌else◌}
use Rattle.std.specs.Option.{option_and_then, option_map}
use Rattle.vf_text.specs.Digits.{number_spelt}
use Rattle.call_words.specs.Command.{Values, values_of}
use Rattle.call_words.specs.Words.{Word, Words, is_name, within}

-- the files are the program's, the setup's, and those of a script and of a saved stock where there are some
pub record VerifyCall : Type 0 where
  pub file : Word
  pub setup : Word
  pub script : Option Word
  pub workers : ℕ
  pub stock : Option Word

-- the most workers, and how many there are where no word says so
abbrev pub most_workers : ℕ
most_workers = 16

abbrev pub usual_workers : ℕ
usual_workers = 1

-- the most digits of a number of workers
abbrev pub worker_places : ℕ
worker_places = 2

-- a word that is a name
abbrev pub named : Word → Option Word
named word = if is_name word then Some word else None

-- the file that an option names: none where no word gives the option
abbrev pub file_in : Option Word → Option (Option Word)
file_in None = Some None
file_in (Some word) = option_map Some (named word)

-- the number of workers that the words give
abbrev pub workers_in : Option Word → Option ℕ
workers_in None = Some usual_workers
workers_in (Some word) = within 1 most_workers (number_spelt worker_places word)

-- a call, where it has all five parts
abbrev pub call_by : Option Word → Option Word → Option (Option Word) → Option ℕ → Option (Option Word) → Option VerifyCall
call_by (Some file) (Some setup) (Some script) (Some workers) (Some stock) =
    Some (record { file = file; setup = setup; script = script; workers = workers; stock = stock })
call_by _ _ _ _ _ = None

abbrev pub call_in : Values → Option VerifyCall
call_in values = call_by (option_and_then named values.file) (option_and_then named values.setup) (file_in values.script)
    (workers_in values.workers) (file_in values.stock)

-- the call that the words after `verify` stand for, where they are one
abbrev pub call_of : Words → Option VerifyCall
call_of words = option_and_then call_in (values_of words)
