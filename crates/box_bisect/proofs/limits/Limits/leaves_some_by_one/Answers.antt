use Rattle.std.proofs.Common.{◌≡◌, not, arith, sym, ◌-◌, ◌+◌, ◌∙◌}
use Rattle.box_bisect.specs.SlabTests.{is_below_by, is_excluded_by, is_past_by}
use Rattle.box_bisect.proofs.Deciding.{none_reached, one_decides, one_reached}
use Rattle.box_bisect.proofs.Leaving.{cell_goes_up, past_alone}
use Rattle.box_bisect.proofs.limits.Limits.leaves_some_by_one.Goals as goal

pub returns-then-reached-eq0-clause-left : goal.returns-then-reached-eq0-clause-left
returns-then-reached-eq0-clause-left g c =
    let l = c.args.self.now in
    sym (none_reached (λ s. not (is_excluded_by l.scale l.is_behind l.raised.c l.height.c l.width.c s)) (λ s. not (is_below_by l.scale l.raised.c l.height.c s)) (cell_goes_up l.scale l.is_behind l.raised.c l.height.c l.width.c c.requires.positive)
    c.args.slabs.now c.first_unreached-reached.result c.requires.rising c.first_unreached-reached.ensures.first_unreached c.if-reached-eq0.true)

pub returns-clause-left : goal.returns-clause-left
returns-clause-left g c =
    let l = c.args.self.now in let j = c.first_unreached-reached.result in let x = c.index-slabs-reached.result in
    let e : j ≡ (j - 1) + 1 = omega (arith, c.if-reached-eq0.false) in
    let reached = one_reached (λ s. not (is_below_by l.scale l.raised.c l.height.c s)) c.args.slabs.now j (j - 1) x c.first_unreached-reached.ensures.first_unreached e c.index-slabs-reached.is in
    past_alone l.is_behind (is_below_by l.scale l.raised.c l.height.c x) (is_past_by l.scale l.raised.c l.height.c l.width.c x) c.is_past.result c.requires.ahead reached c.is_past.ensures
    ∙ sym (one_decides (λ s. not (is_excluded_by l.scale l.is_behind l.raised.c l.height.c l.width.c s)) (λ s. not (is_below_by l.scale l.raised.c l.height.c s)) (cell_goes_up l.scale l.is_behind l.raised.c l.height.c l.width.c c.requires.positive)
    c.args.slabs.now j (j - 1) x c.requires.rising c.first_unreached-reached.ensures.first_unreached e c.index-slabs-reached.is)
