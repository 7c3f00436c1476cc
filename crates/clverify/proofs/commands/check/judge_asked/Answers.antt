use Rattle.clverify.proofs.Certified.{judges, judges_due}
use Rattle.clverify.proofs.commands.check.judge_asked.Goals as goal

pub returns-in-Ok-clause-report : goal.returns-in-Ok-clause-report
returns-in-Ok-clause-report c = judges_due c.verdict_reply.result c.args.asked.now c.args.cert.now c.in-Ok.verdict c.in-Ok.ensures c.verdict_reply.ensures.report

pub returns-in-Ok-clause-sound : goal.returns-in-Ok-clause-sound
returns-in-Ok-clause-sound c =
    judges c.verdict_reply.result c.args.asked.now c.args.cert.now c.in-Ok.verdict c.in-Ok.ensures c.verdict_reply.ensures.text c.verdict_reply.ensures.report
