use Rattle.std.proofs.Common.{subst, sym, ◌∙◌}
use Rattle.space.proofs.Tests.{decides_le}
use Rattle.wanted_marks.specs.Ready.{IsReadyMove}
use Rattle.wanted_marks.proofs.OnRuns.{is_first_run, is_last_run}
use Rattle.wanted_marks.proofs.move_marker.MoveMarker.is_run.Goals as goal

pub returns-then-is_narrow-clause-first : goal.returns-then-is_narrow-clause-first
returns-then-is_narrow-clause-first c = λ yes r line same line_of first last.
    let s = c.self.inside in let v = c.args.self.now in let low = c.args.low.now in let high = c.args.high.now in
    let ready = subst (IsReadyMove s.ready.now) c.self.view_is c.self.invariant in
    is_first_run r v line low high same ready.rising ready.both line_of first last
    ((decides_le low.sample.width high.bounds.width).0 (sym c.is_narrow.ensures ∙ c.if-is_narrow.true))
    ((decides_le high.sample.width low.bounds.width).0 (sym c.is_narrow-then-is_narrow.ensures ∙ yes))

pub returns-then-is_narrow-clause-last : goal.returns-then-is_narrow-clause-last
returns-then-is_narrow-clause-last c = λ yes r line same line_of first last.
    let s = c.self.inside in let v = c.args.self.now in let low = c.args.low.now in let high = c.args.high.now in
    let ready = subst (IsReadyMove s.ready.now) c.self.view_is c.self.invariant in
    is_last_run r v line low high same ready.rising ready.both line_of first last
    ((decides_le low.sample.width high.bounds.width).0 (sym c.is_narrow.ensures ∙ c.if-is_narrow.true))
    ((decides_le high.sample.width low.bounds.width).0 (sym c.is_narrow-then-is_narrow.ensures ∙ yes))
