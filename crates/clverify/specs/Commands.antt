-- The commands. A new one is a file of its own in Commands/ (its words, what is due, what is true of what it writes) and a line
-- in each of these: `Command`, `command_by` and `files_of` here, `command_due` in Due, `IsTrueText` in Truth, `command_seen` and
-- `MayBeAsked` in Asked.
use Rattle.std.specs.Prelude.{ℕ, Bool, false, [], ◌∷◌, Option, Some, None, if◌then◌else◌}
use Rattle.std.specs.Option.{option_map}
use Rattle.std.specs.Str.{bytes_eq}
use Rattle.clverify.specs.Commands.Certify.{MoveCall, certify_name, certify_words}
use Rattle.clverify.specs.Commands.Check.{CheckCall, check_name, check_words}
use Rattle.clverify.specs.Commands.List.{list_name, list_words}
use Rattle.clverify.specs.Commands.Point.{point_name, point_words}
use Rattle.clverify.specs.Commands.Save.{SaveCall, save_name, save_words, saved_names}
use Rattle.clverify.specs.Commands.Selftest.{selftest_name, selftest_words}
use Rattle.clverify.specs.Commands.Verify.{names_of, verify_name}
use Rattle.call_words.specs.Call.{VerifyCall, call_of}
use Rattle.call_words.specs.Words.{Word, Words}
use Rattle.point_marks.specs.declared.question.Question.{Question}
pub mod Certify
pub mod Check
pub mod List
pub mod Point
pub mod Questions
pub mod Save
pub mod Selftest
pub mod Verify

-- a command and its values
pub data Command : Type 0 where
  list_moves : Word → Command
  mark_moves : Word → Question → Command
  verify_moves : VerifyCall → Command
  self_test : ℕ → Command
  certify_move : MoveCall → Command
  check_cert : CheckCall → Command
  save_stock : SaveCall → Command

-- the command that a first word names, where the words after it are its own
abbrev pub command_by : Word → Words → Option Command
command_by word words =
    if bytes_eq word list_name then option_map list_moves (list_words words)
    else (if bytes_eq word point_name then option_map (λ asked. mark_moves asked.0 asked.1) (point_words words)
    else (if bytes_eq word verify_name then option_map verify_moves (call_of words)
    else (if bytes_eq word selftest_name then option_map self_test (selftest_words words)
    else (if bytes_eq word certify_name then option_map certify_move (certify_words words)
    else (if bytes_eq word check_name then option_map check_cert (check_words words)
    else (if bytes_eq word save_name then option_map save_stock (save_words words)
    else None))))))

-- the command that words stand for, where they are one
abbrev pub command_of : Words → Option Command
command_of [] = None
command_of (word ∷ words) = command_by word words

-- words that are read by the library's parser, which needs memory
abbrev pub are_parsed : Words → Bool
are_parsed [] = false
are_parsed (word ∷ words) = bytes_eq word verify_name

-- the files that a command names, in the order in which they are read
abbrev pub files_of : Option Command → Words
files_of None = []
files_of (Some (list_moves file)) = file ∷ []
files_of (Some (mark_moves file question)) = file ∷ []
files_of (Some (verify_moves call)) = names_of call
files_of (Some (self_test number)) = []
files_of (Some (certify_move call)) = call.file ∷ call.setup ∷ []
files_of (Some (check_cert call)) = call.move_asked.file ∷ call.move_asked.setup ∷ call.cert ∷ []
files_of (Some (save_stock call)) = saved_names call
