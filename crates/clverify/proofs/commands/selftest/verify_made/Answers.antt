use Rattle.std.proofs.Common.{◌∙◌, ap, subst}
use Rattle.clverify.specs.Commands.Selftest.{summed_up}
use Rattle.clverify.specs.Settled.{IsReport}
use Rattle.clverify.proofs.Done.{sums_truly}
use Rattle.clverify.proofs.commands.selftest.verify_made.Goals as goal
use Rattle.job_report.specs.Facts.{JobFacts}
use Rattle.job_report.specs.Report.{facts_of}
use Rattle.job_report.specs.Tasks.{IsTask}

pub returns-in-Ok-clause-report : goal.returns-in-Ok-clause-report
returns-in-Ok-clause-report g c =
    let facts = c.in-Ok.ensures.facts ∙ ap facts_of c.requires in
    subst (λ (found : JobFacts). IsReport c.summary.result (summed_up c.args.number found)) facts c.summary.ensures.report

pub returns-in-Ok-clause-sound : goal.returns-in-Ok-clause-sound
returns-in-Ok-clause-sound g c =
    let facts = c.in-Ok.ensures.facts ∙ ap facts_of c.requires in
    let valid = subst IsTask c.requires c.in-Ok.ensures.valid in
    sums_truly c.summary.result c.args.number c.in-Ok.facts facts valid c.summary.ensures.text c.summary.ensures.report
