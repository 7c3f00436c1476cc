use Rattle.std.proofs.Common.{ℕ, ◌≡◌, pos, true, arith, ap, subst, sym, ◌∙◌}
use Rattle.box_bisect.specs.SlabTests.{some_covers}
use Rattle.cutter_slabs.specs.Stacks.{inner_stack}
use Rattle.wanted_marks.specs.Rays.{MoveOf}
use Rattle.wanted_marks.specs.Ready.{IsReadyMove}
use Rattle.wanted_marks.proofs.Holding.{is_removed, spread_at}
use Rattle.wanted_marks.proofs.move_marker.MoveMarker.is_held_first.Goals as goal

pub returns : goal.returns
returns c = λ yes p forms.
    let s = c.self.inside in let v = c.args.self.now in let slabs = c.inner.result.now in let x = c.first_sample-first.result in
    let ready = subst (IsReadyMove s.ready.now) c.self.view_is c.self.invariant in
    let first = c.first_sample-first.ensures.first p forms in
    let stack = c.inner.ensures.stack ∙ ap (λ (y : MoveOf). inner_stack y.cutter y.slabs) c.self.view_is in
    let held = sym (c.is_held.ensures (spread_at v p 0) first.width_is) ∙ yes in
    is_removed v p 0 slabs x.u x.n (omega arith) stack (ready.both p) first.u_is first.n_is
    (subst (λ (k : ℕ). some_covers (pos k) x.u x.n (spread_at v p 0) slabs ≡ true) first.scale_is held)
