use Rattle.std.proofs.Common.{◌<◌, length, rules}
use Rattle.std.proofs.lemmas.List.{get_or_default}
use Rattle.strip_plan.proofs.NearBy.{one_more_holder}
use Rattle.strip_plan.proofs.holders.near_holders.Goals as goal

pub loop-n-preserved : goal.loop-n-preserved
loop-n-preserved c =
    let hulls = c.args.hulls.now in
    let lt : c.loop-n.n < length hulls = search rules in
    one_more_holder c.args.moves.now hulls c.loop-n.near c.take_in.new.near c.loop-n.n c.index-moves-n.result _ c.loop-n.invariant c.index-moves-n.is
    (λ d. get_or_default hulls c.loop-n.n _ d lt) c.in_ok-take_in.ensures
