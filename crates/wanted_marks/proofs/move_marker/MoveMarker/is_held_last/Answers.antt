use Rattle.std.proofs.Common.{◌^◌, ◌≤ℤ◌, pos, arith, refl, ap, subst, sym, ◌∙◌}
use Rattle.std.proofs.lemmas.Int.{ints}
use Rattle.cutter_slabs.specs.Stacks.{inner_stack}
use Rattle.width_bisect.specs.Bounds.{meets}
use Rattle.wanted_marks.specs.Ready.{IsReadyMove}
use Rattle.wanted_marks.specs.Samples.{sample_n}
use Rattle.wanted_marks.proofs.Holding.{is_removed, spread_at}
use Rattle.wanted_marks.proofs.Running.{one_held}
use Rattle.wanted_marks.proofs.move_marker.MoveMarker.is_held_last.Goals as goal

pub returns-clause-held : goal.returns-clause-held
returns-clause-held c = λ yes p last.
    let s = c.self.inside in let v = c.args.self.now in let S = 2 ^ v.depth in let x = c.args.last.now in let near = c.look_near.new.near in
    let ready = subst (IsReadyMove s.ready.now) c.self.view_is c.self.invariant in
    let ahead : pos 0 ≤ℤ x.u = omega (arith, ints) in
    let met = ap (meets near.bounds x.u) (sym last.width_is) ∙ sym c.holds.ensures ∙ yes in
    is_removed v p S (inner_stack v.cutter v.slabs) x.u (sample_n v S) (omega arith) refl (ready.both p) last.u_is refl
    (one_held near.bounds S (sample_n v S) (inner_stack v.cutter v.slabs) x.u (spread_at v p S) c.look_near.ensures ahead met)
