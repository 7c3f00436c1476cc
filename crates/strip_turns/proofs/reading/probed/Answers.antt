use Rattle.std.proofs.Common.{◌<◌, rules, slice_get, ap, sym, ◌∙◌, subst}
use Rattle.ray_grid.specs.Lattice.{points_of}
use Rattle.ray_grid.specs.Strips.{strip_at, strip_number}
use Rattle.ray_grid.proofs.Rows.{only_place}
use Rattle.job_model.specs.Tasks.{PlanOf}
use Rattle.strip_turns.specs.Passes.{card}
use Rattle.strip_turns.specs.Asks.{Raised, Short}
use Rattle.strip_turns.proofs.OutAndBack.{raised_told}
use Rattle.strip_turns.proofs.ReadBack.{ray_there, ray_within, point_within, state_read}
use Rattle.strip_turns.proofs.reading.probed.Goals as goal

pub returns-in_err-piece-clause-short : goal.returns-in_err-piece-clause-short
returns-in_err-piece-clause-short g c =
    let b = c.args.board.now in
    let ray = c.args.ray.now in
    let k = c.place-strip.result.0 in
    let at = ap (λ grid. slice_get (strip_at grid k) c.place-strip.result.1) (sym c.grid.ensures) ∙ c.place-strip.ensures.there in
    let number = (only_place b.plan.grid ray k c.place-strip.result.1 at).0 in
    let short : Short (card b) (strip_number b.plan.grid ray.family ray.i) c.args.version c.args.seat.now.me.0 c.raised.new.seat.me.0 =
    subst (λ n. Short (card b) n c.args.version c.args.seat.now.me.0 c.raised.new.seat.me.0) number c.in_err-piece.ensures.short in
    search (rules, short)

pub state_at-state-requires-clause-ray : goal.state_at-state-requires-clause-ray
state_at-state-requires-clause-ray g c =
    let b = c.args.board.now in
    let k = c.place-strip.result.0 in
    let n = c.place-strip.result.1 in
    let at = ap (λ grid. slice_get (strip_at grid k) n) (sym c.grid.ensures) ∙ c.place-strip.ensures.there in
    let there = ap (λ (p : PlanOf). slice_get (strip_at p.grid k) n) b.card ∙ at in
    ray_within (card b) k _ c.in_ok-piece.piece b.whole c.in_ok-piece.ensures.out.of_case n c.args.ray.now there

pub state_at-state-requires-clause-point : goal.state_at-state-requires-clause-point
state_at-state-requires-clause-point g c =
    let b = c.args.board.now in
    let k = c.place-strip.result.0 in
    let n = c.place-strip.result.1 in
    let at = ap (λ grid. slice_get (strip_at grid k) n) (sym c.grid.ensures) ∙ c.place-strip.ensures.there in
    let there = ap (λ (p : PlanOf). slice_get (strip_at p.grid k) n) b.card ∙ at in
    let inside = subst (λ (p : PlanOf). c.args.l < points_of p.grid c.args.ray.now.family) (sym b.card) c.requires.point in
    point_within (card b) k _ c.in_ok-piece.piece b.whole c.in_ok-piece.ensures.out.of_case n c.args.l c.args.ray.now there inside

pub returns-clause-raised : goal.returns-clause-raised
returns-clause-raised g c =
    let b = c.args.board.now in
    let ray = c.args.ray.now in
    let k = c.place-strip.result.0 in
    let at = ap (λ grid. slice_get (strip_at grid k) c.place-strip.result.1) (sym c.grid.ensures) ∙ c.place-strip.ensures.there in
    let number = (only_place b.plan.grid ray k c.place-strip.result.1 at).0 in
    subst (λ n. Raised (card b) n c.args.version c.args.seat.now.me.0 c.put.new.seat.me.0) number
    (raised_told b k c.in_ok-piece.from c.max.result c.args.version c.args.seat.now c.raised.new.seat c.put.new.seat c.in_ok-piece.piece
    c.requires.idle c.in_ok-piece.ensures.out c.max.ensures c.put.ensures)

pub returns-clause-state : goal.returns-clause-state
returns-clause-state g c = λ job all.
    let b = c.args.board.now in
    let k = c.place-strip.result.0 in
    let n = c.place-strip.result.1 in
    let case = c.in_ok-piece.ensures.out.of_case in
    let at = ap (λ grid. slice_get (strip_at grid k) n) (sym c.grid.ensures) ∙ c.place-strip.ensures.there in
    let there = ap (λ (p : PlanOf). slice_get (strip_at p.grid k) n) b.card ∙ at in
    state_read (card b) k _ c.in_ok-piece.piece b.whole case job c.args.version c.args.l c.args.ray.now c.state_at-state.result all
    (c.state_at-state.ensures c.args.ray.now (ray_there (card b) k _ c.in_ok-piece.piece b.whole case n c.args.ray.now there))
