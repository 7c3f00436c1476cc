use Rattle.std.proofs.Common.{arith}
use Rattle.strip_marks.proofs.WholeStrips.{strip_marked, unentered_strip}
use Rattle.strip_marks.proofs.strip.mark_strip.Goals as goal

pub returns-then-window-clause-marked : goal.returns-then-window-clause-marked
returns-then-window-clause-marked c = λ move has.
    let a = c.args in
    let w = c.strip_window-window in
    unentered_strip a.plan.now a.number move a.strip w.result.0 w.result.1 a.rays.now c.clear.new.self.items c.none.result
    c.moves-valid.ensures.valid has c.requires.strip c.requires.rays c.if-window.true
    (omega (arith, w.ensures.within, c.requires.rays.many)) (w.ensures.holds move has) c.clear.ensures.items c.none.ensures

pub returns-clause-marked : goal.returns-clause-marked
returns-clause-marked c = λ move has.
    let a = c.args in
    let w = c.strip_window-window in
    strip_marked a.plan.now a.number move a.strip w.result.0 w.result.1 a.rays.now c.mark_rays.new.rays
    c.in_ok-marked.marked.changes.items c.in_ok-marked.marked.counts
    c.moves-valid.ensures.valid has c.requires.strip c.requires.rays w.ensures.order
    (omega (arith, w.ensures.within, c.requires.rays.many)) (w.ensures.holds move has)
    (c.in_ok-marked.ensures.marked move has)
