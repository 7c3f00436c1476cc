-- All coefficients are tested.
use Rattle.width_bisect.proofs.lists.Lists.is_open.Goals as goal

pub returns : goal.returns
returns c = c.each_above.ensures
