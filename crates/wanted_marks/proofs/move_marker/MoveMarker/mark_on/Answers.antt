use Rattle.std.proofs.Common.{subst}
use Rattle.wanted_marks.specs.Rays.{move_of}
use Rattle.wanted_marks.specs.Ready.{IsReadyMove}
use Rattle.wanted_marks.proofs.Telling.{marked_possible, marked_sure}
use Rattle.wanted_marks.proofs.move_marker.MoveMarker.mark_on.Goals as goal

pub returns-then-self-eq0-clause-sure : goal.returns-then-self-eq0-clause-sure
returns-then-self-eq0-clause-sure c =
    let a = c.args in let s = c.self.inside in
    marked_sure a.asked c.mark_by_forms.result a.self.now (move_of s.stacks.now s.sweep.now s.depth) a.point c.self.view_is c.mark_by_forms.ensures

pub returns-then-self-eq0-clause-possible : goal.returns-then-self-eq0-clause-possible
returns-then-self-eq0-clause-possible c =
    let a = c.args in let s = c.self.inside in
    let ready = subst (IsReadyMove s.ready.now) c.self.view_is c.self.invariant in
    marked_possible a.asked c.mark_by_forms.result a.self.now (move_of s.stacks.now s.sweep.now s.depth) a.point c.self.view_is (ready.both a.point) c.mark_by_forms.ensures

pub returns-clause-sure : goal.returns-clause-sure
returns-clause-sure c =
    let a = c.args in let s = c.self.inside in
    marked_sure a.asked c.mark_below.result a.self.now (move_of s.stacks.now s.sweep.now s.depth) a.point c.self.view_is c.mark_below.ensures

pub returns-clause-possible : goal.returns-clause-possible
returns-clause-possible c =
    let a = c.args in let s = c.self.inside in
    let ready = subst (IsReadyMove s.ready.now) c.self.view_is c.self.invariant in
    marked_possible a.asked c.mark_below.result a.self.now (move_of s.stacks.now s.sweep.now s.depth) a.point c.self.view_is (ready.both a.point) c.mark_below.ensures
