use Rattle.vf_io.proofs.ConsumedLemmas.{TakesBytes-consumed}
use Rattle.std.proofs.Common.{arith}
use Rattle.vf_io.proofs.HoldLemmas.{HasCause-counted}
use Rattle.vf_io.proofs.folder_shelf.FolderShelfShelf.next.Goals as goal

pub returns-in-Ok-clause-bytes : goal.returns-in-Ok-clause-bytes
returns-in-Ok-clause-bytes g c = rw c.in-Some.is (λ _. TakesBytes-consumed c.read_some.result _ _ _ _ c.in-Ok.is (omega arith) c.read_some.ensures.bound c.read_some.ensures.bytes)

pub returns-in-Err-clause-cause : goal.returns-in-Err-clause-cause
returns-in-Err-clause-cause g c = HasCause-counted _ _ _ c.fail.ensures.counted c.fail.ensures.later
