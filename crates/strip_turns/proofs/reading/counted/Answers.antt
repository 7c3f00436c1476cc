use Rattle.std.proofs.Common.{◌≡◌, ℕ, ◌+◌, ◌<◌, ◌≤◌, length, rules, arith, ap, ap₂, sym, ◌∙◌, subst}
use Rattle.std.proofs.lemmas.List.{length-append}
use Rattle.ray_grid.specs.Points.{lattice_of}
use Rattle.ray_grid.specs.Strips.{strips_of}
use Rattle.job_counts.specs.Counts.{most_count}
use Rattle.job_counts.specs.declared.totals.Totals.{Totals}
use Rattle.job_counts.specs.Totals.{TotalsWithin, plus_totals}
use Rattle.job_model.specs.Points.{left_moves, strip_points, totals_over}
use Rattle.job_model.specs.Tasks.{PlanOf}
use Rattle.turn_core.proofs.Parts.{first_points, first_all, first_more, first_within, totals_more, plus_within}
use Rattle.turn_core.proofs.ReadBack.{lattice_same}
use Rattle.strip_turns.specs.Passes.{card}
use Rattle.strip_turns.specs.Asks.{AllRaised, SomeRaised}
use Rattle.strip_turns.proofs.Asking.{all_raised_none, all_raised_more, some_raised}
use Rattle.strip_turns.proofs.OutAndBack.{is_out, back_idle, raised_case, raised_told}
use Rattle.strip_turns.proofs.ReadBack.{counts_read, counted_within}
use Rattle.strip_turns.proofs.reading.counted.Goals as goal

plus_told : (t a b : Totals) (m n most : ℕ) → t ≡ plus_totals a b → TotalsWithin m a → TotalsWithin n b → m + n ≤ most → TotalsWithin most t
plus_told t a b m n most is x y le = subst (TotalsWithin most) (sym is) (plus_within a b m n most x y le)

pub loop-strip-init : goal.loop-strip-init
loop-strip-init g c = record {
  idle = c.requires.idle;
  raised = all_raised_none (card c.args.board.now) c.args.version c.args.seat.now.me.0;
  totals = λ job all. c.none-totals.ensures;
  within = subst (TotalsWithin 0) (sym c.none-totals.ensures) (record { removed = omega arith; possible = omega arith; of = omega arith });
}

pub returns-in_err-piece-clause-some : goal.returns-in_err-piece-clause-some
returns-in_err-piece-clause-some g c =
    let b = c.args.board.now in
    let count = c.strips-strip-end.ensures ∙ ap (λ x. length (strips_of x)) c.grid-grid.ensures in
    let strips = length (strips_of b.plan.grid) in
    let some : SomeRaised (card b) c.args.version 0 strips c.args.seat.now.me.0 c.raised.new.seat.me.0 =
    some_raised (card b) c.args.version c.loop-strip.strip strips _ _ _ c.loop-strip.invariant.raised c.in_err-piece.ensures.short
    (omega (arith, c.loop-strip-test.true)) in
    search (rules, some)

pub plus-totals-requires : goal.plus-totals-requires
plus-totals-requires g c =
    let b = c.args.board.now in
    let grid = (card b).plan.grid in
    let k = c.loop-strip.strip in
    let same = c.grid-grid.ensures ∙ ap (λ (p : PlanOf). p.grid) (sym b.card) in
    let count = c.strips-strip-end.ensures ∙ ap (λ x. length (strips_of x)) same in
    let strip : k < length (strips_of grid) = omega (arith, c.loop-strip-test.true) in
    let here =
    counted_within (card b) k _ c.in_ok-piece.piece b.whole c.in_ok-piece.ensures.out.of_case c.args.version c.counts_at.result c.counts_at.ensures in
    let part = first_within grid k strip in
    let fits = c.lattice_len-points.type_inv in
    let whole = c.lattice_len-points.ensures.len ∙ ap (λ x. length (lattice_of x)) same in
    plus_within c.loop-strip.totals c.counts_at.result (length (first_points grid k)) (length (strip_points grid k)) most_count
    c.loop-strip.invariant.within here (omega arith)

pub loop-strip-preserved : goal.loop-strip-preserved
loop-strip-preserved g c =
    let b = c.args.board.now in
    let grid = (card b).plan.grid in
    let k = c.loop-strip.strip in
    let piece = c.in_ok-piece.piece in
    let from = c.in_ok-piece.from in
    let h = c.in_ok-piece.ensures.out in
    let idle = c.loop-strip.invariant.idle in
    let same = c.grid-grid.ensures ∙ ap (λ (p : PlanOf). p.grid) (sym b.card) in
    let count = c.strips-strip-end.ensures ∙ ap (λ x. length (strips_of x)) same in
    let strip : k < length (strips_of grid) = omega (arith, c.loop-strip-test.true) in
    let told =
    raised_told b k from c.max.result c.args.version c.loop-strip.seat c.raised.new.seat c.put.new.seat piece idle h c.max.ensures c.put.ensures in
    record {
      idle = back_idle b k from c.max.result c.loop-strip.seat c.raised.new.seat c.put.new.seat idle h.out c.put.ensures;
      raised = all_raised_more (card b) c.args.version k _ _ _ c.loop-strip.invariant.raised told;
      totals = λ job all.
          c.plus-totals.ensures
          ∙ ap₂ plus_totals (c.loop-strip.invariant.totals job all)
          (c.counts_at.ensures ∙ counts_read (card b) k _ piece b.whole h.of_case job c.args.version all)
          ∙ sym (totals_more job grid (left_moves job.plan c.args.version) k strip);
      within =
          let here = counted_within (card b) k _ piece b.whole h.of_case c.args.version c.counts_at.result c.counts_at.ensures in
          let long = ap length (first_more grid k strip) ∙ length-append (first_points grid k) (strip_points grid k) in
          plus_told c.plus-totals.result c.loop-strip.totals c.counts_at.result (length (first_points grid k)) (length (strip_points grid k))
          (length (first_points grid (k + 1))) c.plus-totals.ensures c.loop-strip.invariant.within here (omega arith);
    }

pub returns-clause-totals : goal.returns-clause-totals
returns-clause-totals g c = λ job all.
    let b = c.args.board.now in
    let plan = (card b).plan in
    let same = c.grid-grid.ensures ∙ ap (λ (p : PlanOf). p.grid) (sym b.card) in
    let count = c.strips-strip-end.ensures ∙ ap (λ x. length (strips_of x)) same in
    let le : length (strips_of plan.grid) ≤ c.loop-strip.strip = omega (arith, c.loop-strip-test.false) in
    c.loop-strip.invariant.totals job all
    ∙ ap (λ points. totals_over job points (left_moves job.plan c.args.version)) (first_all plan.grid c.loop-strip.strip le)
    ∙ ap (λ points. totals_over job points (left_moves job.plan c.args.version))
    (lattice_same plan job (card b).strips b.whole all)

pub raised-requires-clause-strip : goal.raised-requires-clause-strip
raised-requires-clause-strip g c =
    let count = c.strips-strip-end.ensures ∙ ap (λ x. length (strips_of x)) c.grid-grid.ensures in omega (arith, c.loop-strip-test.true)

pub put-requires-clause-out : goal.put-requires-clause-out
put-requires-clause-out g c =
    is_out c.args.board.now c.loop-strip.strip c.in_ok-piece.from c.loop-strip.seat c.raised.new.seat c.loop-strip.invariant.idle
    c.in_ok-piece.ensures.out.out

pub put-requires-clause-strip : goal.put-requires-clause-strip
put-requires-clause-strip g c =
    let count = c.strips-strip-end.ensures ∙ ap (λ x. length (strips_of x)) c.grid-grid.ensures in omega (arith, c.loop-strip-test.true)

pub put-requires-clause-of_case : goal.put-requires-clause-of_case
put-requires-clause-of_case g c =
    raised_case c.args.board.now c.loop-strip.strip c.in_ok-piece.from c.args.version c.loop-strip.seat c.raised.new.seat c.in_ok-piece.piece
    c.in_ok-piece.ensures.out

pub put-requires-clause-further : goal.put-requires-clause-further
put-requires-clause-further g c = omega (arith, c.max.ensures)

pub returns-clause-raised : goal.returns-clause-raised
returns-clause-raised g c =
    let b = c.args.board.now in
    let count = c.strips-strip-end.ensures ∙ ap (λ x. length (strips_of x)) c.grid-grid.ensures in
    let most = c.loop-strip.auto.strip-end in
    let all : c.loop-strip.strip ≡ length (strips_of b.plan.grid) = omega (arith, c.loop-strip-test.false) in
    subst (λ n. AllRaised (card b) c.args.version n c.args.seat.now.me.0 c.loop-strip.seat.me.0) all c.loop-strip.invariant.raised
