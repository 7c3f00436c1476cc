-- A command as the code has it, and as the words ask for it.
use Rattle.std.specs.Prelude.{ℕ, ◌≤◌}
use Rattle.clverify.specs.Commands as words
use Rattle.clverify.specs.declared.commands.Command.{Command}
use Rattle.clverify.specs.declared.commands.Command.TheVariants.{Certify, Check, List, Point, Save, Selftest, Verify}
use Rattle.clverify.specs.Commands.Certify.{MoveCall}
use Rattle.clverify.specs.Commands.Check.{CheckCall}
use Rattle.clverify.specs.Commands.Save.{SaveCall}
use Rattle.clverify.specs.Commands.Save as save
use Rattle.clverify.specs.declared.commands.asked.MoveWords.{MoveWords}
use Rattle.clverify.specs.declared.commands.asked.CheckWords.{CheckWords}
use Rattle.clverify.specs.declared.commands.save.MoreFiles.{MoreFiles}
use Rattle.clverify.specs.declared.commands.save.SaveWords.{SaveWords}
use Rattle.point_marks.specs.Questions.{IsQuestion}
use Rattle.call_words.specs.Call.{most_workers}
use Rattle.call_words.specs.Seen.{call_seen, word_seen}

-- a call that asks for a move
abbrev pub move_seen : MoveWords → MoveCall
move_seen said = record { file = said.file.now; setup = said.setup.now; number = said.number }

-- a call that names a certificate too
abbrev pub check_seen : CheckWords → CheckCall
check_seen said = record { move_asked = move_seen said.move_asked; cert = said.cert.now }

-- a call that saves
abbrev pub more_seen : MoreFiles → save.MoreFiles
more_seen more = record { script = word_seen more.script; stock = word_seen more.stock }

abbrev pub save_seen : SaveWords → SaveCall
save_seen said = record { file = said.file.now; setup = said.setup.now; more = more_seen said.more }

abbrev pub command_seen : Command → words.Command
command_seen (List file) = words.list_moves file.now
command_seen (Point file question) = words.mark_moves file.now question
command_seen (Verify said) = words.verify_moves (call_seen said)
command_seen (Selftest number) = words.self_test number
command_seen (Certify said) = words.certify_move (move_seen said)
command_seen (Check said) = words.check_cert (check_seen said)
command_seen (Save said) = words.save_stock (save_seen said)

-- at least one worker, and not too many
pub record AreWorkers (workers : ℕ) : Type 0 where
  pub some : 1 ≤ workers
  pub few : workers ≤ most_workers

-- what a command asks for is allowed
abbrev pub MayBeAsked : Command → Type 0
MayBeAsked (List file) = Unit {0}
MayBeAsked (Point file question) = IsQuestion question
MayBeAsked (Verify said) = AreWorkers said.workers
MayBeAsked (Selftest number) = Unit {0}
MayBeAsked (Certify said) = Unit {0}
MayBeAsked (Check said) = Unit {0}
MayBeAsked (Save said) = Unit {0}
