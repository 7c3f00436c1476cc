-- The first word is the command's name, so the words are its command's.
use Rattle.std.proofs.Common.{◌≡◌, ap, Option, IfOk, option_map, string_bytes, subst, sym, ◌∙◌}
use Rattle.clverify.specs.Asked.{command_seen}
use Rattle.clverify.specs.Commands.{Command, are_parsed, command_of}
use Rattle.clverify.specs.Commands.Certify.{certify_name}
use Rattle.clverify.specs.Commands.Check.{check_name}
use Rattle.clverify.specs.Commands.List.{list_name}
use Rattle.clverify.specs.Commands.Point.{point_name}
use Rattle.clverify.specs.Commands.Save.{save_name}
use Rattle.clverify.specs.Commands.Selftest.{selftest_name}
use Rattle.clverify.specs.Commands.Verify.{verify_name}
use Rattle.clverify.proofs.Words.{headed, of_any_error}
use Rattle.clverify.proofs.commands.read_command.Goals as goal

pub returns-in-list-clause-command : goal.returns-in-list-clause-command
returns-in-list-clause-command c =
    let words = headed string_bytes c.args.words.now c.word-item.result list_name c.in-len1-up.len_at_least c.word-item.is (sym c.in-list.is ∙ c.as_str.ensures.value) in
    c.list_words.ensures ∙ sym (ap command_of words)

pub returns-in-point-clause-command : goal.returns-in-point-clause-command
returns-in-point-clause-command c =
    let words = headed string_bytes c.args.words.now c.word-item.result point_name c.in-len1-up.len_at_least c.word-item.is (sym c.in-point.is ∙ c.as_str.ensures.value) in
    c.point_words.ensures.command ∙ sym (ap command_of words)

pub returns-in-selftest-clause-command : goal.returns-in-selftest-clause-command
returns-in-selftest-clause-command c =
    let words = headed string_bytes c.args.words.now c.word-item.result selftest_name c.in-len1-up.len_at_least c.word-item.is (sym c.in-selftest.is ∙ c.as_str.ensures.value) in
    c.selftest_words.ensures ∙ sym (ap command_of words)

pub returns-in-certify-clause-command : goal.returns-in-certify-clause-command
returns-in-certify-clause-command c =
    let words = headed string_bytes c.args.words.now c.word-item.result certify_name c.in-len1-up.len_at_least c.word-item.is (sym c.in-certify.is ∙ c.as_str.ensures.value) in
    c.certify_words.ensures ∙ sym (ap command_of words)

pub returns-in-check-clause-command : goal.returns-in-check-clause-command
returns-in-check-clause-command c =
    let words = headed string_bytes c.args.words.now c.word-item.result check_name c.in-len1-up.len_at_least c.word-item.is (sym c.in-check.is ∙ c.as_str.ensures.value) in
    c.check_words.ensures ∙ sym (ap command_of words)

pub returns-in-save-clause-command : goal.returns-in-save-clause-command
returns-in-save-clause-command c =
    let words = headed string_bytes c.args.words.now c.word-item.result save_name c.in-len1-up.len_at_least c.word-item.is (sym c.in-save.is ∙ c.as_str.ensures.value) in
    c.save_words.ensures ∙ sym (ap command_of words)

pub returns-in-verify-clause-command : goal.returns-in-verify-clause-command
returns-in-verify-clause-command c =
    let words = headed string_bytes c.args.words.now c.word-item.result verify_name c.in-len1-up.len_at_least c.word-item.is (sym c.in-verify.is ∙ c.as_str.ensures.value) in
    subst (λ (asked : Option Command). IfOk c.verify_command.result (λ command. option_map command_seen command ≡ asked)) (sym (ap command_of words)) c.verify_command.ensures.command

pub returns-in-verify-clause-memory : goal.returns-in-verify-clause-memory
returns-in-verify-clause-memory c =
    let words = headed string_bytes c.args.words.now c.word-item.result verify_name c.in-len1-up.len_at_least c.word-item.is (sym c.in-verify.is ∙ c.as_str.ensures.value) in
    of_any_error c.verify_command.result (ap are_parsed words)
