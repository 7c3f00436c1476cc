use Rattle.clap.specs.Matches.{found_of}
use Rattle.call_words.specs.Seen.{values_seen}
use Rattle.call_words.proofs.Commands.{found-in_rows}
use Rattle.call_words.proofs.command.found_values.Goals as goal

pub returns : goal.returns
returns c =
    found-in_rows (found_of c.args.matches.now) (values_seen record { file = c.get_str.result; setup = c.get_str-2.result; script = c.get_str-3.result; workers = c.get_str-4.result; stock = c.get_str-5.result })
    c.get_str.ensures c.get_str-2.ensures c.get_str-3.ensures c.get_str-4.ensures c.get_str-5.ensures
