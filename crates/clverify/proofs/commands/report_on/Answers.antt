use Rattle.std.proofs.Common.{All, IfOk, IfSome, Some, subst, sym}
use Rattle.vf_io.specs.Files.{Files, bytes_of}
use Rattle.clverify.specs.Asked.{command_seen, save_seen}
use Rattle.clverify.specs.Commands.List.{IsTrueListing}
use Rattle.clverify.specs.Commands.Point.{IsTrueMarking}
use Rattle.clverify.specs.Commands.Save.{IsTrueSaving}
use Rattle.clverify.specs.Due.{command_due}
use Rattle.job_inputs.specs.Inputs.{is_read_fault}
use Rattle.clverify.specs.Settled.{IsReport}
use Rattle.clverify.specs.Truth.{IsTrueText}
use Rattle.clverify.specs.declared.commands.Command.{Command}
use Rattle.clverify.specs.Commands.{files_of}
use Rattle.clverify.proofs.Endings.{without_findings}
use Rattle.clverify.proofs.Saved.{may_read_setup, may_read_stock}
use Rattle.clverify.proofs.Unread.{true_over_all, unread}
use Rattle.clverify.proofs.commands.report_on.Goals as goal

pub returns-in-List-clause-sound : goal.returns-in-List-clause-sound
returns-in-List-clause-sound g c =
    subst (λ (command : Command). IfSome (g.S.Shelf.files c.args.shelf.now) (λ (files : Files).
    IfOk c.list_report.result (λ answer. IsTrueText answer.status files (command_seen command) answer.text.items)))
    (sym c.in-List.is)
    (without_findings (g.S.Shelf.files c.args.shelf.now) c.list_report.result (λ files text. IsTrueListing (bytes_of files c.in-List.file.now) text)
    c.list_report.ensures.clean c.list_report.ensures.sound)

pub returns-in-Point-clause-sound : goal.returns-in-Point-clause-sound
returns-in-Point-clause-sound g c =
    subst (λ (command : Command). IfSome (g.S.Shelf.files c.args.shelf.now) (λ (files : Files).
    IfOk c.point_report.result (λ answer. IsTrueText answer.status files (command_seen command) answer.text.items)))
    (sym c.in-Point.is)
    (without_findings (g.S.Shelf.files c.args.shelf.now) c.point_report.result
    (λ files text. IsTrueMarking c.in-Point.question (bytes_of files c.in-Point.file.now) text) c.point_report.ensures.clean c.point_report.ensures.sound)

pub returns-in-Save-clause-sound : goal.returns-in-Save-clause-sound
returns-in-Save-clause-sound g c =
    subst (λ (command : Command). IfSome (g.S.Shelf.files c.args.shelf.now) (λ (files : Files).
    IfOk c.save_report.result (λ answer. IsTrueText answer.status files (command_seen command) answer.text.items)))
    (sym c.in-Save.is)
    (without_findings (g.S.Shelf.files c.args.shelf.now) c.save_report.result
    (λ files text. IsTrueSaving (save_seen c.in-Save.said) files text) c.save_report.ensures.clean c.save_report.ensures.sound)

pub save_report-requires-clause-setup : goal.save_report-requires-clause-setup
save_report-requires-clause-setup g c κs within =
    may_read_setup (g.S.Shelf.allows c.args.shelf.now) c.in-Save.said
    (subst (λ (command : Command). All (g.S.Shelf.allows c.args.shelf.now) (files_of (Some (command_seen command)))) c.in-Save.is c.requires.allowed)

pub save_report-requires-clause-stock : goal.save_report-requires-clause-stock
save_report-requires-clause-stock g c κs within =
    may_read_stock (g.S.Shelf.allows c.args.shelf.now) c.in-Save.said
    (subst (λ (command : Command). All (g.S.Shelf.allows c.args.shelf.now) (files_of (Some (command_seen command)))) c.in-Save.is c.requires.allowed)

pub returns-in-Selftest-clause-report : goal.returns-in-Selftest-clause-report
returns-in-Selftest-clause-report g c =
    subst (λ (command : Command). IfSome (command_due (g.S.Shelf.files c.args.shelf.now) (command_seen command)) (IsReport c.selftest_report.result))
    (sym c.in-Selftest.is) c.selftest_report.ensures.report

pub returns-in-Selftest-clause-sound : goal.returns-in-Selftest-clause-sound
returns-in-Selftest-clause-sound g c =
    subst (λ (command : Command). IfSome (g.S.Shelf.files c.args.shelf.now) (λ (files : Files).
    IfOk c.selftest_report.result (λ answer. IsTrueText answer.status files (command_seen command) answer.text.items)))
    (sym c.in-Selftest.is)
    (true_over_all (g.S.Shelf.files c.args.shelf.now) c.selftest_report.result c.in-Selftest.number c.selftest_report.ensures.sound)

pub returns-in-Selftest-clause-read : goal.returns-in-Selftest-clause-read
returns-in-Selftest-clause-read g c =
    unread g.S.Shelf.files g.S.Shelf.faults g.S.Shelf.failures (is_read_fault c.selftest_report.result) c.args.shelf.now
    c.selftest_report.ensures.memory
