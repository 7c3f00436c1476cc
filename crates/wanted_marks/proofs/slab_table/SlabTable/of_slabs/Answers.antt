use Rattle.std.proofs.Common.{◌≤◌, length, arith}
use Rattle.std.proofs.lemmas.List.Elements.{All-replicate, All-set}
use Rattle.wanted_marks.proofs.slab_table.SlabTable.of_slabs.Goals as goal

pub loop-i-init : goal.loop-i-init
loop-i-init c = (omega arith, All-replicate (λ number. number ≤ length c.args.slabs.now) 64 0 (omega arith))

pub loop-i-preserved : goal.loop-i-preserved
loop-i-preserved c =
    let inv = c.loop-i.invariant in let slabs = c.args.slabs.now in
    (c.walk_up-reached.ensures.within, All-set (λ number. number ≤ length slabs) c.loop-i.numbers c.loop-i.i c.min.result (omega arith) inv.1)
