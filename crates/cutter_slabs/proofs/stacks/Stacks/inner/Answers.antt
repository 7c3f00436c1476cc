use Rattle.cutter_slabs.proofs.Tested.{inner_enclosed, inner_inside, inner_met, inner_possible, inner_rising, read}
use Rattle.cutter_slabs.proofs.stacks.Stacks.inner.Goals as goal

pub returns-clause-rising : goal.returns-clause-rising
returns-clause-rising c =
    let i = c.self.inside.inner.items in let o = c.self.inside.outer.items in
    let are = read record { cutter = c.self.inside.cutter; slabs = c.self.inside.slabs } c.args.self.now i o c.self.view_is c.self.invariant in
    inner_rising c.args.self.now i o c.deref.result.now are c.deref.ensures.value

pub returns-clause-inside : goal.returns-clause-inside
returns-clause-inside c =
    let i = c.self.inside.inner.items in let o = c.self.inside.outer.items in
    let are = read record { cutter = c.self.inside.cutter; slabs = c.self.inside.slabs } c.args.self.now i o c.self.view_is c.self.invariant in
    inner_inside c.args.self.now i o c.deref.result.now are c.deref.ensures.value

pub returns-clause-enclosed : goal.returns-clause-enclosed
returns-clause-enclosed c =
    let i = c.self.inside.inner.items in let o = c.self.inside.outer.items in
    let are = read record { cutter = c.self.inside.cutter; slabs = c.self.inside.slabs } c.args.self.now i o c.self.view_is c.self.invariant in
    inner_enclosed c.args.self.now i o c.deref.result.now are c.deref.ensures.value

pub returns-clause-met : goal.returns-clause-met
returns-clause-met c =
    let i = c.self.inside.inner.items in let o = c.self.inside.outer.items in
    let are = read record { cutter = c.self.inside.cutter; slabs = c.self.inside.slabs } c.args.self.now i o c.self.view_is c.self.invariant in
    inner_met c.args.self.now i o c.deref.result.now are c.deref.ensures.value

pub returns-clause-possible : goal.returns-clause-possible
returns-clause-possible c =
    let i = c.self.inside.inner.items in let o = c.self.inside.outer.items in
    let are = read record { cutter = c.self.inside.cutter; slabs = c.self.inside.slabs } c.args.self.now i o c.self.view_is c.self.invariant in
    inner_possible c.args.self.now i o c.deref.result.now are c.deref.ensures.value
