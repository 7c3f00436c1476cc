use Rattle.std.proofs.Common.{◌≡◌, arith, rules, length, ap, ◌∙◌, subst}
use Rattle.ray_grid.specs.Strips.{strips_of}
use Rattle.strip_turns.specs.Passes.{card}
use Rattle.strip_turns.specs.Asks.{AllRaised, SomeRaised}
use Rattle.strip_turns.proofs.Asking.{all_raised_none, all_raised_more, some_raised}
use Rattle.strip_turns.proofs.OutAndBack.{is_out, back_idle, raised_case, raised_told}
use Rattle.strip_turns.proofs.raising.all_raised.Goals as goal

pub loop-strip-init : goal.loop-strip-init
loop-strip-init g c = (c.requires.idle, all_raised_none (card c.args.board.now) c.args.version c.args.seat.now.me.0)

pub returns-in_err-piece-clause-some : goal.returns-in_err-piece-clause-some
returns-in_err-piece-clause-some g c =
    let b = c.args.board.now in
    let count = c.strips-strip-end.ensures ∙ ap (λ x. length (strips_of x)) c.grid.ensures in
    let strips = length (strips_of b.plan.grid) in
    let some : SomeRaised (card b) c.args.version 0 strips c.args.seat.now.me.0 c.raised.new.seat.me.0 =
    some_raised (card b) c.args.version c.loop-strip.strip strips _ _ _ c.loop-strip.invariant.1 c.in_err-piece.ensures.short
    (omega (arith, c.loop-strip-test.true)) in
    search (rules, some)

pub loop-strip-preserved : goal.loop-strip-preserved
loop-strip-preserved g c =
    let b = c.args.board.now in
    let k = c.loop-strip.strip in
    let idle = c.loop-strip.invariant.0 in
    let h = c.in_ok-piece.ensures.out in
    let told = raised_told b k c.in_ok-piece.from c.max.result c.args.version c.loop-strip.seat c.raised.new.seat c.put.new.seat
    c.in_ok-piece.piece idle h c.max.ensures c.put.ensures in (
      back_idle b k c.in_ok-piece.from c.max.result c.loop-strip.seat c.raised.new.seat c.put.new.seat idle h.out c.put.ensures,
      all_raised_more (card b) c.args.version k _ _ _ c.loop-strip.invariant.1 told,
    )

pub raised-requires-clause-strip : goal.raised-requires-clause-strip
raised-requires-clause-strip g c =
    let count = c.strips-strip-end.ensures ∙ ap (λ x. length (strips_of x)) c.grid.ensures in omega (arith, c.loop-strip-test.true)

pub put-requires-clause-out : goal.put-requires-clause-out
put-requires-clause-out g c =
    is_out c.args.board.now c.loop-strip.strip c.in_ok-piece.from c.loop-strip.seat c.raised.new.seat c.loop-strip.invariant.0
    c.in_ok-piece.ensures.out.out

pub put-requires-clause-strip : goal.put-requires-clause-strip
put-requires-clause-strip g c =
    let count = c.strips-strip-end.ensures ∙ ap (λ x. length (strips_of x)) c.grid.ensures in omega (arith, c.loop-strip-test.true)

pub put-requires-clause-of_case : goal.put-requires-clause-of_case
put-requires-clause-of_case g c =
    raised_case c.args.board.now c.loop-strip.strip c.in_ok-piece.from c.args.version c.loop-strip.seat c.raised.new.seat c.in_ok-piece.piece
    c.in_ok-piece.ensures.out

pub put-requires-clause-further : goal.put-requires-clause-further
put-requires-clause-further g c = omega (arith, c.max.ensures)

pub returns-clause-raised : goal.returns-clause-raised
returns-clause-raised g c =
    let b = c.args.board.now in
    let count = c.strips-strip-end.ensures ∙ ap (λ x. length (strips_of x)) c.grid.ensures in
    let most = c.loop-strip.auto.strip-end in
    let all : c.loop-strip.strip ≡ length (strips_of b.plan.grid) = omega (arith, c.loop-strip-test.false) in
    subst (λ n. AllRaised (card b) c.args.version n c.args.seat.now.me.0 c.loop-strip.seat.me.0) all c.loop-strip.invariant.1
