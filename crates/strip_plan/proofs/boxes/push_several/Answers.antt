use Rattle.std.proofs.Common.{◌≡◌, ◌∙◌, ap, length, take, rules, subst, sym}
use Rattle.strip_plan.specs.IndexBoxes.{AreBoxesOf}
use Rattle.strip_plan.proofs.Boxed.{hull_has, one_held, pushed_fit, several_held}
use Rattle.strip_plan.proofs.boxes.push_several.Goals as goal

pub returns-then-held-eq1 : goal.returns-then-held-eq1
returns-then-held-eq1 c =
    let grid = c.args.grid.now in
    let held = c.args.held.now in
    let old = c.args.boxes.now.items in
    let new = c.push_each.new.boxes.items in
    let hull = c.hull_from-hull.result in
    let are = c.in_ok-push_each.ensures in
    let first : c.len-start.result ≡ length old = search rules in
    let left : c.truncate.new.self.items ≡ old = c.truncate.ensures.items ∙ ap (λ k. take k new) first ∙ are.kept in
    let fit = subst (AreBoxesOf grid) (sym c.deref.ensures.value) (pushed_fit grid held old new (length held) are c.requires) in
    one_held grid held hull old new _ are c.requires (c.hull_from-hull.ensures.fits grid fit)
    (hull_has hull old new c.deref.result.now c.len-start.result c.deref.ensures.value first c.hull_from-hull.ensures.has) left

pub returns-else-held-eq1 : goal.returns-else-held-eq1
returns-else-held-eq1 c =
    let grid = c.args.grid.now in
    let held = c.args.held.now in
    let old = c.args.boxes.now.items in
    let new = c.push_each.new.boxes.items in
    let hull = c.hull_from-hull.result in
    let are = c.in_ok-push_each.ensures in
    let first : c.len-start.result ≡ length old = search rules in
    let fit = subst (AreBoxesOf grid) (sym c.deref.ensures.value) (pushed_fit grid held old new (length held) are c.requires) in
    several_held grid held hull old new are c.requires (c.hull_from-hull.ensures.fits grid fit)
    (hull_has hull old new c.deref.result.now c.len-start.result c.deref.ensures.value first c.hull_from-hull.ensures.has)
