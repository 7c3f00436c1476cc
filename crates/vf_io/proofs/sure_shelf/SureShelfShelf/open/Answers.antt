use Rattle.std.proofs.Common.{ap, refl, is_some}
use Rattle.vf_io.proofs.ShelvedLemmas.{unread_or_none-opened}
use Rattle.vf_io.proofs.sure_shelf.SureShelfShelf.open.Goals as goal

pub returns-clause-sure : goal.returns-clause-sure
returns-clause-sure c = refl

pub returns-clause-rest : goal.returns-clause-rest
returns-clause-rest c =
    rw c.is_err-self.ensures.value (unread_or_none-opened c.args.self.now.shelf c.open.new.self c.args.name.now c.open.result c.args.self.now.sure c.open.ensures.failed c.open.ensures.rest)

pub returns-clause-opened : goal.returns-clause-opened
returns-clause-opened c = ap is_some (returns-clause-rest c)

pub returns-clause-files : goal.returns-clause-files
returns-clause-files c = c.open.ensures.files
