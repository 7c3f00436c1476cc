-- The code's values and calls, seen as those of the definitions.
use Rattle.std.specs.Prelude.{Option}
use Rattle.std.specs.Borrow.{Bor}
use Rattle.std.specs.Option.{option_map}
use Rattle.call_words.specs.Call.{VerifyCall}
use Rattle.call_words.specs.Command as command
use Rattle.call_words.specs.Words.{Word}
use Rattle.call_words.specs.declared.call.VerifyWords.{VerifyWords}
use Rattle.call_words.specs.declared.command.Values.{Values}

-- the word of a reference, where there is one
abbrev pub word_seen : Option (Bor Word) → Option Word
word_seen = option_map (λ (word : Bor Word). word.now)

abbrev pub values_seen : Values → command.Values
values_seen values = record {
  file = word_seen values.file;
  setup = word_seen values.setup;
  script = word_seen values.script;
  workers = word_seen values.workers;
  stock = word_seen values.stock;
}

abbrev pub call_seen : VerifyWords → VerifyCall
call_seen said = record {
  file = said.file.now;
  setup = said.setup.now;
  script = word_seen said.script;
  workers = said.workers;
  stock = word_seen said.stock;
}
