use Rattle.std.proofs.Common.{ap, pos, ◌^◌, subst, sym}
use Rattle.ray_grid.specs.Lattice.{point_of}
use Rattle.wanted_marks.specs.Samples.{IsLastOf}
use Rattle.wanted_marks.specs.Lines.{HasForms}
use Rattle.wanted_marks.specs.Rays.{MoveOf}
use Rattle.wanted_marks.specs.ReadyRay.{IsReadyRay}
use Rattle.wanted_marks.proofs.OnRuns.{same_near}
use Rattle.wanted_marks.proofs.ray_marker.RayMarker.mark_at.Goals as goal

pub last_sample-last-requires : goal.last_sample-last-requires
last_sample-last-requires c =
    let ready = subst (IsReadyRay c.self.inside.line) c.self.view_is c.self.invariant in ready.line_of.fits c.args.l c.requires.within

pub is_held_last-requires-clause-near : goal.is_held_last-requires-clause-near
is_held_last-requires-clause-near c = same_near c.args.near.now.bounds c.args.self.now.sweep c.self.inside.mover.now (sym (ap (λ x. x.sweep) c.self.view_is)) c.requires.near

pub returns-then-is_held_last-clause-held : goal.returns-then-is_held_last-clause-held
returns-then-is_held_last-clause-held c =
    let ready = subst (IsReadyRay c.self.inside.line) c.self.view_is c.self.invariant in
    let r = c.args.self.now in let p = point_of r.grid r.ray c.args.l in let here = ap (λ x. x.sweep) c.self.view_is in
    let forms = subst (λ (v : MoveOf). HasForms c.self.inside.line (pos c.args.l) v.sweep p (2 ^ v.depth)) (sym here) (ready.line_of.forms c.args.l c.requires.within) in
    record {
      within = c.requires.within;
      there = record {
        there = subst (λ (v : MoveOf). IsLastOf c.last_sample-last.result v p) here (c.last_sample-last.ensures.last p forms);
        ahead = c.is_held_last.ensures.ahead c.if-is_held_last.true;
        met = c.is_held_last.ensures.met c.if-is_held_last.true;
        near = same_near c.is_held_last.new.near.bounds c.self.inside.mover.now r.sweep here c.is_held_last.ensures.near;
      };
    }

pub returns-then-is_missed-clause-near : goal.returns-then-is_missed-clause-near
returns-then-is_missed-clause-near c = c.requires.near

pub returns-then-is_held_last-clause-near : goal.returns-then-is_held_last-clause-near
returns-then-is_held_last-clause-near c = same_near c.is_held_last.new.near.bounds c.self.inside.mover.now c.args.self.now.sweep (ap (λ x. x.sweep) c.self.view_is) c.is_held_last.ensures.near

pub returns-clause-near : goal.returns-clause-near
returns-clause-near c = same_near c.is_held_last.new.near.bounds c.self.inside.mover.now c.args.self.now.sweep (ap (λ x. x.sweep) c.self.view_is) c.is_held_last.ensures.near
