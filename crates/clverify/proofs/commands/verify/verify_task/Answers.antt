use Rattle.std.proofs.Common.{subst}
use Rattle.clverify.specs.Commands.Verify.{reported}
use Rattle.clverify.specs.Settled.{IsReport}
use Rattle.clverify.proofs.Done.{report_is_true}
use Rattle.clverify.proofs.commands.verify.verify_task.Goals as goal
use Rattle.job_report.specs.Facts.{JobFacts}

pub returns-in-Ok-clause-report : goal.returns-in-Ok-clause-report
returns-in-Ok-clause-report g c = subst (λ (facts : JobFacts). IsReport c.report.result (reported facts)) c.in-Ok.ensures.facts c.report.ensures.report

pub returns-in-Ok-clause-sound : goal.returns-in-Ok-clause-sound
returns-in-Ok-clause-sound g c =
    report_is_true c.report.result c.args.inputs c.in-Ok.facts c.in-Ok.ensures.facts c.in-Ok.ensures.valid c.report.ensures.text c.report.ensures.report
