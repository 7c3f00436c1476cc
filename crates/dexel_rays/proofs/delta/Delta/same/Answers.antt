use Rattle.dexel_rays.specs.declared.delta.Delta.{Delta}
use Rattle.dexel_rays.proofs.Laws.{nothing_new}
use Rattle.dexel_rays.proofs.delta.Delta.same.Goals as goal

pub returns-clause-equals : goal.returns-clause-equals
returns-clause-equals c =
    let same : Delta = record { sure = c.new.result; possible = c.new-2.result; counts = c.none.result } in
    λ before sure possible rapid delta bound s p d.
    nothing_new c.args.bound before sure possible rapid delta same bound s p d c.new.ensures.bound c.new-2.ensures.bound c.new.ensures.empty c.new-2.ensures.empty c.none.ensures
