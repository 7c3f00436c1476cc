use Rattle.vf_io.proofs.HoldLemmas.{HasCause-counted}
use Rattle.vf_io.proofs.folder_shelf.FolderShelfShelf.open.Goals as goal

pub returns-clause-cause : goal.returns-clause-cause
returns-clause-cause g c = HasCause-counted _ _ _ c.hold.ensures.counted c.hold.ensures.later
