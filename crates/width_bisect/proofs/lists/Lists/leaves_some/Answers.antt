use Rattle.std.proofs.Common.{◌≡◌, not, false, arith, refl, sym, ◌-◌, ◌+◌, ◌∙◌}
use Rattle.box_bisect.specs.SlabTests.{is_below_by, is_excluded_by, is_past_by}
use Rattle.box_bisect.proofs.Deciding.{none_reached, one_decides, one_reached}
use Rattle.box_bisect.proofs.Leaving.{cell_goes_up, past_alone}
use Rattle.width_bisect.proofs.lists.Lists.leaves_some.Goals as goal

pub returns-then-reached-eq0 : goal.returns-then-reached-eq0
returns-then-reached-eq0 c = λ rising above turns.
    let l = c.args.self.now in
    sym (none_reached (λ s. not (is_excluded_by l.scale false l.raised l.height c.args.width.now s)) (λ s. not (is_below_by l.scale l.raised l.height s)) (cell_goes_up l.scale false l.raised l.height c.args.width.now above)
    c.args.slabs.now c.args.reached rising turns c.if-reached-eq0.true)

pub returns : goal.returns
returns c = λ rising above turns.
    let l = c.args.self.now in let j = c.args.reached in let x = c.index-slabs-reached.result in
    let e : j ≡ (j - 1) + 1 = omega (arith, c.if-reached-eq0.false) in
    let reached = one_reached (λ s. not (is_below_by l.scale l.raised l.height s)) c.args.slabs.now j (j - 1) x turns e c.index-slabs-reached.is in
    past_alone false (is_below_by l.scale l.raised l.height x) (is_past_by l.scale l.raised l.height c.args.width.now x) c.is_past.result refl reached c.is_past.ensures
    ∙ sym (one_decides (λ s. not (is_excluded_by l.scale false l.raised l.height c.args.width.now s)) (λ s. not (is_below_by l.scale l.raised l.height s)) (cell_goes_up l.scale false l.raised l.height c.args.width.now above)
    c.args.slabs.now j (j - 1) x rising turns e c.index-slabs-reached.is)
