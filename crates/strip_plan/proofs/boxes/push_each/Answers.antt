use Rattle.std.proofs.Common.{◌≡◌, ◌+◌, List, arith, length, subst, sym}
use Rattle.strip_plan.specs.declared.index_box.IndexBox.{IndexBox}
use Rattle.strip_plan.specs.Boxed.{ArePushed}
use Rattle.strip_plan.proofs.Boxed.{none_pushed, one_pushed}
use Rattle.strip_plan.proofs.boxes.push_each.Goals as goal

pub loop-places-init : goal.loop-places-init
loop-places-init c = none_pushed c.args.grid.now c.args.held.now c.args.boxes.now.items

pub loop-places-preserved : goal.loop-places-preserved
loop-places-preserved c =
    let next = c.loop-places.places-index in
    subst (λ (xs : List IndexBox). ArePushed c.args.grid.now c.args.held.now c.args.boxes.now.items xs (next + 1)) (sym c.in_ok-push.ensures.items)
    (one_pushed c.args.grid.now c.args.held.now c.args.boxes.now.items c.loop-places.boxes.items c.indexed.result next _ c.loop-places.invariant c.loop-places-test.true
    c.indexed.ensures)

pub returns : goal.returns
returns c =
    let held = c.args.held.now in
    let most = c.loop-places-test.false in
    let least = c.loop-places.auto.places-index-end in
    let all : c.loop-places.places-index ≡ length held = omega (arith, most, least) in
    subst (ArePushed c.args.grid.now held c.args.boxes.now.items c.loop-places.boxes.items) all c.loop-places.invariant
