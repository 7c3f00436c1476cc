use Rattle.std.proofs.Common.{ap, subst, sym, ◌∙◌}
use Rattle.bern_form.specs.Forms.{all_negative, all_positive, difference4}
use Rattle.wanted_marks.specs.Ready.{IsReadyMove}
use Rattle.wanted_marks.proofs.Dropping.{behind_is_clear, beside_is_clear}
use Rattle.wanted_marks.proofs.move_marker.MoveMarker.is_missed.Goals as goal

pub returns-then-is_behind : goal.returns-then-is_behind
returns-then-is_behind c = λ yes p forms.
    let s = c.self.inside in
    let ready = subst (IsReadyMove s.ready.now) c.self.view_is c.self.invariant in
    behind_is_clear c.args.self.now p (ready.both p) (ap all_negative (sym forms.height) ∙ sym c.is_behind.ensures ∙ c.if-is_behind.true)

pub returns : goal.returns
returns c = λ yes p forms.
    let s = c.self.inside in
    let ready = subst (IsReadyMove s.ready.now) c.self.view_is c.self.invariant in
    beside_is_clear c.args.self.now s.ready.now.limits p ready.limits_are (ready.both p) (ap (λ x. all_positive (difference4 x s.ready.now.limits)) (sym forms.width) ∙ sym c.exceed.ensures ∙ yes)
