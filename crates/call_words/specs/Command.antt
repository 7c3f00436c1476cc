-- `verify CL SETUP [--script F] [--workers N] [--stock F]` as a command of the library's parser: which words it takes, and the values that it
-- finds there. What such a command is, and what it makes of words, is defined in `clap/specs`: the words that it faults in Faults,
-- the rows of values that it finds in Walk and Simple.
use Rattle.std.specs.Prelude.{[], ◌∷◌, List, Option, Some, None, codes, true, if◌then◌else◌}
use Rattle.clap.specs.Faults.{fault_of}
use Rattle.clap.specs.Simple.{App, matches_of, new_rule, new_shape}
use Rattle.clap.specs.Walk.{Row, Rule, first_of, is_empty}
use Rattle.call_words.specs.Words.{Word, Words}

-- an argument by its place, which has to be there
abbrev pub place : Word → Rule
place name = record (new_rule name) { required = true }

-- an option of one value, by `--` and its name, which may be left out
abbrev pub option : Word → Rule
option name = record (new_rule name) { long = Some name }

-- two places and three options; the words are those after `verify`
abbrev pub verify_command : App
verify_command = record {
  top = record (new_shape (codes "verify")) {
    rules = place (codes "CL") ∷ place (codes "SETUP") ∷ option (codes "script") ∷ option (codes "workers")
        ∷ option (codes "stock") ∷ [];
    no_binary_name = true;
  };
  subs = [];
}

-- the values of the five, each where the words give it one
pub record Values : Type 0 where
  pub file : Option Word
  pub setup : Option Word
  pub script : Option Word
  pub workers : Option Word
  pub stock : Option Word

abbrev pub values_in : List Row → Values
values_in rows = record {
  file = first_of (codes "CL") rows;
  setup = first_of (codes "SETUP") rows;
  script = first_of (codes "script") rows;
  workers = first_of (codes "workers") rows;
  stock = first_of (codes "stock") rows;
}

-- the values that the parser finds, where it has no fault to report of the words
abbrev pub values_of : Words → Option Values
values_of words = if is_empty (fault_of verify_command words) then Some (values_in (matches_of verify_command words)) else None
