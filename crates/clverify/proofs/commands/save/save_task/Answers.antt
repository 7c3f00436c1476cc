use Rattle.std.proofs.Common.{subst}
use Rattle.stock_file.specs.Saved.{Saved}
use Rattle.clverify.specs.Commands.Save.{stock_answered}
use Rattle.clverify.specs.Settled.{IsReport}
use Rattle.clverify.proofs.Saved.{saves_truly}
use Rattle.clverify.proofs.commands.save.save_task.Goals as goal

pub returns-in-Ok-clause-report : goal.returns-in-Ok-clause-report
returns-in-Ok-clause-report g c =
    subst (λ (stock : Saved). IsReport c.stock_reply.result (stock_answered stock)) c.in-Ok.ensures.stock c.stock_reply.ensures.report

pub returns-in-Ok-clause-sound : goal.returns-in-Ok-clause-sound
returns-in-Ok-clause-sound g c =
    saves_truly c.stock_reply.result c.args.inputs c.in-Ok.stock c.in-Ok.ensures.stock c.in-Ok.ensures.valid c.stock_reply.ensures.report
    c.stock_reply.ensures.stands_for c.stock_reply.ensures.valid
