use Rattle.std.proofs.Common.{◌∙◌, List, ap₂, arith, length, subst}
use Rattle.std.proofs.lemmas.List.{take_all}
use Rattle.cutter_slabs.specs.Stacks.{StacksOf}
use Rattle.strip_plan.specs.Cutters.{IsStackPlace}
use Rattle.strip_plan.proofs.Places.{all_pushed, kept_pushed, place_pushed}
use Rattle.strip_plan.proofs.cutters.place_of.Goals as goal

pub returns-in-Some-clause-all : goal.returns-in-Some-clause-all
returns-in-Some-clause-all c = c.requires.all

pub returns-in-Some-clause-kept : goal.returns-in-Some-clause-kept
returns-in-Some-clause-kept c = let stacks = c.args.stacks.now.items in take_all (length stacks) stacks (omega arith)

pub returns-in-Some-clause-place : goal.returns-in-Some-clause-place
returns-in-Some-clause-place c =
    subst (λ (stacks : List StacksOf). IsStackPlace stacks c.args.cutter c.args.slabs c.in-Some.place) c.deref.ensures.value c.in-Some.ensures

pub returns-clause-all : goal.returns-clause-all
returns-clause-all c =
    all_pushed c.args.slabs c.args.stacks.now.items c.push.new.self.items c.in_ok-new.field-0 c.in_ok-push.ensures.items c.requires.all c.in_ok-new.ensures.slabs

pub returns-clause-kept : goal.returns-clause-kept
returns-clause-kept c = kept_pushed c.args.stacks.now.items c.push.new.self.items c.in_ok-new.field-0 c.in_ok-push.ensures.items

pub returns-clause-place : goal.returns-clause-place
returns-clause-place c =
    place_pushed c.args.cutter c.args.slabs c.len-place.result c.args.stacks.now.items c.push.new.self.items c.in_ok-new.field-0 c.in_ok-push.ensures.items
    (c.len-place.ensures ∙ c.args.stacks.now.ok.0) (ap₂ (λ x y. record { cutter = x; slabs = y }) c.in_ok-new.ensures.cutter c.in_ok-new.ensures.slabs)
