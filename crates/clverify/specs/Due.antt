-- The answer that is due to words over files that are known: a text and a status.
use Rattle.std.specs.Prelude.{Option, Some, None}
use Rattle.std.specs.Option.{option_map}
use Rattle.vf_io.specs.Files.{Files}
use Rattle.clverify.specs.Reply.{Due, usage_due}
use Rattle.clverify.specs.Commands.{Command, certify_move, check_cert, list_moves, mark_moves, save_stock}
use Rattle.clverify.specs.Commands.{self_test, verify_moves}
use Rattle.clverify.specs.Commands.Certify.{certify_due}
use Rattle.clverify.specs.Commands.Check.{check_due}
use Rattle.clverify.specs.Commands.List.{list_due}
use Rattle.clverify.specs.Commands.Point.{point_due}
use Rattle.clverify.specs.Commands.Save.{save_due}
use Rattle.clverify.specs.Commands.Selftest.{selftest_due}
use Rattle.clverify.specs.Commands.Verify.{verify_due}

-- A command is due what the files say that it names; where no files are known, that isn't known. One that names none is due the same
-- over all files.
abbrev pub command_due : Option Files → Command → Option Due
command_due files (list_moves file) = option_map (list_due file) files
command_due files (mark_moves file question) = option_map (point_due file question) files
command_due files (verify_moves call) = option_map (verify_due call) files
command_due files (self_test number) = Some (selftest_due number)
command_due files (certify_move call) = option_map (certify_due call) files
command_due files (check_cert call) = option_map (check_due call) files
command_due files (save_stock call) = option_map (save_due call) files

-- words that are no command are due the usage line, whatever the files are
abbrev pub due : Option Files → Option Command → Option Due
due files None = Some usage_due
due files (Some command) = command_due files command
