use Rattle.clverify.proofs.Certified.{certifies, certifies_due}
use Rattle.clverify.proofs.commands.certify.certify_asked.Goals as goal

pub returns-in-Ok-clause-report : goal.returns-in-Ok-clause-report
returns-in-Ok-clause-report c = certifies_due c.cert_reply.result c.args.asked.now c.in-Ok.made c.in-Ok.ensures c.cert_reply.ensures.report

pub returns-in-Ok-clause-sound : goal.returns-in-Ok-clause-sound
returns-in-Ok-clause-sound c =
    certifies c.cert_reply.result c.args.asked.now c.in-Ok.made c.grid-grid.ensures.valid c.requires c.in-Ok.ensures c.cert_reply.ensures.text c.cert_reply.ensures.report
