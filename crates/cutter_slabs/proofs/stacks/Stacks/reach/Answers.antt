use Rattle.std.proofs.Common.{◌≡◌, ◌+◌, pos, rules}
use Rattle.cutter_slabs.specs.Stacks.{reach_of}
use mir.Syntax.{w32}
use mir.Val.{to_z}
use Rattle.cutter_slabs.proofs.Tested.{reach_encloses, read}
use Rattle.cutter_slabs.proofs.stacks.Stacks.reach.Goals as goal

pub returns-clause-encloses : goal.returns-clause-encloses
returns-clause-encloses c =
    let i = c.self.inside.inner.items in let o = c.self.inside.outer.items in
    let are = read record { cutter = c.self.inside.cutter; slabs = c.self.inside.slabs } c.args.self.now i o c.self.view_is c.self.invariant in
    let reach : to_z w32 (c.height.result + c.top_diameter.result) ≡ pos (reach_of c.args.self.now.cutter) = search rules in
    reach_encloses c.args.self.now i o (to_z w32 (c.height.result + c.top_diameter.result)) are reach
