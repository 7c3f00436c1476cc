use Rattle.std.proofs.Common.{◌^◌, arith, rules, refl, ap, subst, sym, ◌∙◌}
use Rattle.cutter_slabs.specs.Stacks.{inner_stack}
use Rattle.width_bisect.specs.Bounds.{meets}
use Rattle.wanted_marks.specs.Ready.{IsReadyMove}
use Rattle.wanted_marks.specs.Samples.{sample_n}
use Rattle.wanted_marks.proofs.Exceeding.{read_natural}
use Rattle.wanted_marks.proofs.Holding.{is_removed, spread_at}
use Rattle.wanted_marks.proofs.Running.{one_held}
use Rattle.wanted_marks.proofs.move_marker.MoveMarker.held_first.Goals as goal

pub returns-clause-held : goal.returns-clause-held
returns-clause-held c = λ p forms. record {
  there = c.first_sample-sample.ensures.first p forms;
  ahead = read_natural c.first_sample-sample.result.u (search rules) c.if-sample-lt0.false;
  met = sym c.holds.ensures ∙ c.if-not-holds.false;
  near = c.inner_near-found.ensures 0 c.first_sample-sample.ensures.at_first;
}

pub returns-clause-sure : goal.returns-clause-sure
returns-clause-sure c = λ p forms.
    let s = c.self.inside in let v = c.args.self.now in let x = c.first_sample-sample.result in let bounds = c.inner_near-found.result.bounds in
    let ready = subst (IsReadyMove s.ready.now) c.self.view_is c.self.invariant in
    let first = c.first_sample-sample.ensures.first p forms in
    let ahead = read_natural x.u (search rules) c.if-sample-lt0.false in
    let met = ap (meets bounds x.u) (sym first.width_is) ∙ sym c.holds.ensures ∙ c.if-not-holds.false in
    is_removed v p 0 (inner_stack v.cutter v.slabs) x.u (sample_n v 0) (omega arith) refl (ready.both p) first.u_is refl
    (one_held bounds (2 ^ v.depth) (sample_n v 0) (inner_stack v.cutter v.slabs) x.u (spread_at v p 0) (c.inner_near-found.ensures 0 c.first_sample-sample.ensures.at_first) ahead met)
