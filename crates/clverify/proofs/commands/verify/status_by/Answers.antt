use Rattle.std.proofs.Common.{ap, sym}
use Rattle.clverify.specs.Commands.Verify.{status_by}
use Rattle.clverify.proofs.commands.verify.status_by.Goals as goal

pub returns-then-clean-clause-status : goal.returns-then-clean-clause-status
returns-then-clean-clause-status c = sym (ap status_by c.if-clean.true)

pub returns-else-clean-clause-status : goal.returns-else-clean-clause-status
returns-else-clean-clause-status c = sym (ap status_by c.if-clean.false)
