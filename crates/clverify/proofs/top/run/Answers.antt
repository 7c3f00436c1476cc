use Rattle.std.proofs.Common.{Option, ap, option_map, subst, sym, ◌∙◌}
use Rattle.std.specs.List.{All}
use Rattle.clverify.specs.Asked.{command_seen}
use Rattle.clverify.specs.Commands.{Command, files_of}
use Rattle.clverify.specs.Due.{command_due, due}
use Rattle.clverify.specs.Headline.{Answers, Hands, IsComplete}
use Rattle.clverify.specs.Truth.{TellsTruth}
use Rattle.clverify.proofs.Endings.{answers_due, complete_from, settled_calm, settled_not_usage, settled_read_fault, tells_truth, usage_complete}
use Rattle.clverify.proofs.top.run.Goals as goal

pub report_on-report-requires-clause-allowed : goal.report_on-report-requires-clause-allowed
report_on-report-requires-clause-allowed g c κs within =
    subst (λ (command : Option Command). All (g.S.Shelf.allows c.args.shelf.now) (files_of command)) (sym (ap (λ o. option_map command_seen o) (sym c.in-Ok-Some.field-0-is) ∙ c.in-Ok-Some.ensures.command)) c.requires

pub returns-in-Ok-Some-clause-answer : goal.returns-in-Ok-Some-clause-answer
returns-in-Ok-Some-clause-answer g c =
    subst (λ (command : Option Command). Answers c.settle.result (due (g.S.Shelf.files c.args.shelf.now) command) (g.K.Sink.written c.args.sink.now) (g.K.Sink.written c.settle.new.sink))
    (ap (λ o. option_map command_seen o) (sym c.in-Ok-Some.field-0-is) ∙ c.in-Ok-Some.ensures.command)
    (answers_due g.K.Sink.written g.K.Sink.pieces g.K.Sink.faults c.settle.result c.args.sink.now c.settle.new.sink c.report_on-report.result
    (command_due (g.S.Shelf.files c.args.shelf.now) (command_seen c.in-Ok-Some.command)) c.report_on-report.ensures.report c.settle.ensures).answer

pub returns-in-Ok-Some-clause-hands : goal.returns-in-Ok-Some-clause-hands
returns-in-Ok-Some-clause-hands g c =
    subst (λ (command : Option Command). Hands c.settle.result (due (g.S.Shelf.files c.args.shelf.now) command) (g.K.Sink.written c.args.sink.now) (g.K.Sink.written c.settle.new.sink) (g.K.Sink.pieces c.args.sink.now) (g.K.Sink.pieces c.settle.new.sink))
    (ap (λ o. option_map command_seen o) (sym c.in-Ok-Some.field-0-is) ∙ c.in-Ok-Some.ensures.command)
    (answers_due g.K.Sink.written g.K.Sink.pieces g.K.Sink.faults c.settle.result c.args.sink.now c.settle.new.sink c.report_on-report.result
    (command_due (g.S.Shelf.files c.args.shelf.now) (command_seen c.in-Ok-Some.command)) c.report_on-report.ensures.report c.settle.ensures).hands

pub returns-in-Ok-Some-clause-sound : goal.returns-in-Ok-Some-clause-sound
returns-in-Ok-Some-clause-sound g c =
    subst (λ (command : Option Command). TellsTruth c.settle.result (g.S.Shelf.files c.args.shelf.now) command (g.K.Sink.written c.args.sink.now) (g.K.Sink.written c.settle.new.sink))
    (ap (λ o. option_map command_seen o) (sym c.in-Ok-Some.field-0-is) ∙ c.in-Ok-Some.ensures.command)
    (tells_truth g.K.Sink.written g.K.Sink.pieces g.K.Sink.faults c.args.sink.now c.settle.new.sink (command_seen c.in-Ok-Some.command) c.settle.result
    (g.S.Shelf.files c.args.shelf.now) c.report_on-report.result c.report_on-report.ensures.report c.report_on-report.ensures.sound c.settle.ensures)

pub returns-in-Ok-Some-clause-usage_only : goal.returns-in-Ok-Some-clause-usage_only
returns-in-Ok-Some-clause-usage_only g c = λ usage.
    absurd (settled_not_usage g.K.Sink.written g.K.Sink.pieces g.K.Sink.faults c.settle.result c.args.sink.now c.settle.new.sink c.report_on-report.result
    c.report_on-report.ensures.verdict c.settle.ensures usage)

pub returns-in-Ok-Some-clause-read_fault : goal.returns-in-Ok-Some-clause-read_fault
returns-in-Ok-Some-clause-read_fault g c = λ failed.
    c.report_on-report.ensures.read.rose
    (settled_read_fault g.K.Sink.written g.K.Sink.pieces g.K.Sink.faults c.settle.result c.args.sink.now c.settle.new.sink c.report_on-report.result c.report_on-report.ensures.verdict c.settle.ensures failed)

pub returns-in-Ok-Some-clause-one_failure : goal.returns-in-Ok-Some-clause-one_failure
returns-in-Ok-Some-clause-one_failure g c = λ failed.
    c.report_on-report.ensures.read.one
    (settled_read_fault g.K.Sink.written g.K.Sink.pieces g.K.Sink.faults c.settle.result c.args.sink.now c.settle.new.sink c.report_on-report.result c.report_on-report.ensures.verdict c.settle.ensures failed)

pub returns-in-Ok-Some-clause-calm : goal.returns-in-Ok-Some-clause-calm
returns-in-Ok-Some-clause-calm g c = λ calm.
    c.report_on-report.ensures.read.calm
    (settled_calm g.K.Sink.written g.K.Sink.pieces g.K.Sink.faults c.settle.result c.args.sink.now c.settle.new.sink c.report_on-report.result c.settle.ensures calm)

pub returns-in-Ok-Some-clause-files : goal.returns-in-Ok-Some-clause-files
returns-in-Ok-Some-clause-files g c = c.report_on-report.ensures.read.kept

pub returns-in-Ok-Some-clause-complete : goal.returns-in-Ok-Some-clause-complete
returns-in-Ok-Some-clause-complete g c = λ reads_calm writes_calm.
    let writes =
    answers_due g.K.Sink.written g.K.Sink.pieces g.K.Sink.faults c.settle.result c.args.sink.now c.settle.new.sink c.report_on-report.result
    (command_due (g.S.Shelf.files c.args.shelf.now) (command_seen c.in-Ok-Some.command)) c.report_on-report.ensures.report c.settle.ensures in
    subst (λ (command : Option Command). IsComplete c.settle.result (due (g.S.Shelf.files c.args.shelf.now) command) (g.K.Sink.written c.args.sink.now) (g.K.Sink.written c.settle.new.sink))
    (ap (λ o. option_map command_seen o) (sym c.in-Ok-Some.field-0-is) ∙ c.in-Ok-Some.ensures.command)
    (complete_from c.settle.result (command_due (g.S.Shelf.files c.args.shelf.now) (command_seen c.in-Ok-Some.command)) (g.K.Sink.written c.args.sink.now) (g.K.Sink.written c.settle.new.sink) writes.answer
    (λ failed. reads_calm (c.report_on-report.ensures.read.rose
    (settled_read_fault g.K.Sink.written g.K.Sink.pieces g.K.Sink.faults c.settle.result c.args.sink.now c.settle.new.sink c.report_on-report.result c.report_on-report.ensures.verdict c.settle.ensures failed)))
    (λ failed. writes_calm (writes.rose failed)))

pub returns-in-Ok-None-clause-answer : goal.returns-in-Ok-None-clause-answer
returns-in-Ok-None-clause-answer g c =
    subst (λ (command : Option Command). Answers c.write_answer.result (due (g.S.Shelf.files c.args.shelf.now) command) (g.K.Sink.written c.args.sink.now) (g.K.Sink.written c.write_answer.new.sink))
    (ap (λ o. option_map command_seen o) (sym c.in-Ok-None.field-0-is) ∙ c.in-Ok-None.ensures.command) c.write_answer.ensures.answer.answer

pub returns-in-Ok-None-clause-hands : goal.returns-in-Ok-None-clause-hands
returns-in-Ok-None-clause-hands g c =
    subst (λ (command : Option Command). Hands c.write_answer.result (due (g.S.Shelf.files c.args.shelf.now) command) (g.K.Sink.written c.args.sink.now) (g.K.Sink.written c.write_answer.new.sink) (g.K.Sink.pieces c.args.sink.now) (g.K.Sink.pieces c.write_answer.new.sink))
    (ap (λ o. option_map command_seen o) (sym c.in-Ok-None.field-0-is) ∙ c.in-Ok-None.ensures.command) c.write_answer.ensures.answer.hands

pub returns-in-Ok-None-clause-complete : goal.returns-in-Ok-None-clause-complete
returns-in-Ok-None-clause-complete g c = λ _ calm.
    subst (λ (command : Option Command). IsComplete c.write_answer.result (due (g.S.Shelf.files c.args.shelf.now) command) (g.K.Sink.written c.args.sink.now) (g.K.Sink.written c.write_answer.new.sink))
    (ap (λ o. option_map command_seen o) (sym c.in-Ok-None.field-0-is) ∙ c.in-Ok-None.ensures.command)
    (usage_complete c.write_answer.result (g.K.Sink.written c.args.sink.now) (g.K.Sink.written c.write_answer.new.sink) c.write_answer.ensures.answer.answer c.write_answer.ensures.ends
    (λ failed. calm (c.write_answer.ensures.answer.rose failed)))
