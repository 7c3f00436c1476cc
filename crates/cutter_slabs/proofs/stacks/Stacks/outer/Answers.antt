use Rattle.cutter_slabs.proofs.Tested.{outer_as_many, outer_clear, outer_encloses, outer_rising, read}
use Rattle.cutter_slabs.proofs.stacks.Stacks.outer.Goals as goal

pub returns-clause-rising : goal.returns-clause-rising
returns-clause-rising c =
    let i = c.self.inside.inner.items in let o = c.self.inside.outer.items in
    let are = read record { cutter = c.self.inside.cutter; slabs = c.self.inside.slabs } c.args.self.now i o c.self.view_is c.self.invariant in
    outer_rising c.args.self.now i o c.deref.result.now are c.deref.ensures.value

pub returns-clause-as_many : goal.returns-clause-as_many
returns-clause-as_many c =
    let i = c.self.inside.inner.items in let o = c.self.inside.outer.items in
    let are = read record { cutter = c.self.inside.cutter; slabs = c.self.inside.slabs } c.args.self.now i o c.self.view_is c.self.invariant in
    outer_as_many c.args.self.now i o c.deref.result.now are c.deref.ensures.value

pub returns-clause-encloses : goal.returns-clause-encloses
returns-clause-encloses c =
    let i = c.self.inside.inner.items in let o = c.self.inside.outer.items in
    let are = read record { cutter = c.self.inside.cutter; slabs = c.self.inside.slabs } c.args.self.now i o c.self.view_is c.self.invariant in
    outer_encloses c.args.self.now i o c.deref.result.now are c.deref.ensures.value

pub returns-clause-clear : goal.returns-clause-clear
returns-clause-clear c =
    let i = c.self.inside.inner.items in let o = c.self.inside.outer.items in
    let are = read record { cutter = c.self.inside.cutter; slabs = c.self.inside.slabs } c.args.self.now i o c.self.view_is c.self.invariant in
    outer_clear c.args.self.now i o c.deref.result.now are c.deref.ensures.value
