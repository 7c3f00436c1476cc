use Rattle.std.proofs.Common.{ℕ, [], ◌∷◌, arith, ap, refl, subst, sym, ◌≡◌, ◌∙◌, ◌+◌, length, length-append, List, Some, false}
use Rattle.std.proofs.lemmas.List.Elements.{All-nil, All-push}
use Rattle.strip_turns.specs.Views.{fresh}
use Rattle.strip_turns.specs.Passes.{card}
use Rattle.worker_gate.specs.Workers.{IsFresh, AreFresh, AreNumbered}
use Rattle.worker_gate.specs.Crew.{with_splits}
use Rattle.worker_gate.specs.declared.worker.Worker.{Worker}
use Rattle.worker_gate.proofs.Teams.{split_none, split_more, numbered_none, numbered_more}
use Rattle.worker_gate.proofs.team.hire.Goals as goal

pub loop-i-init : goal.loop-i-init
loop-i-init c =
    let r = c.requires.ready in
    let e = c.in-Ok.ensures in
    let s = c.args.pass.now.seat.me.0.splits in
    let numbered : AreNumbered s c.in-Ok.team.items = subst (λ (l : List Worker). AreNumbered s l) (sym e.items) (numbered_none s) in
    let none : AreFresh c.args.board.now [] = record { each = All-nil (IsFresh c.args.board.now) } in
    let all : AreFresh c.args.board.now c.in-Ok.team.items = subst (λ (l : List Worker). AreFresh c.args.board.now l) (sym e.items) none in
    (r.pass, split_none c.args.pass.now.seat.me.0 r.alone.out, all, ap length e.items, e.capacity, numbered)

pub loop-i-preserved : goal.loop-i-preserved
loop-i-preserved c =
    let b = c.args.board.now in
    let inv = c.loop-i.invariant in
    let e = c.push_reserved.ensures in
    let n = c.loop-i._i in
    let fresh_view = c.split.ensures.fresh in
    let number : c.split.result.seat.me.0.number ≡ c.loop-i.pass.seat.me.0.splits + 1 = ap (λ z. z.number) fresh_view in
    let splits : c.loop-i.pass.seat.me.0.splits ≡ c.args.pass.now.seat.me.0.splits + n = ap (λ z. z.splits) inv.1 in
    let x : Worker = record { pass = c.split.result; short = false } in
    let view = fresh_view ∙ ap (λ z. fresh false z (Some (card b))) (sym number) in
    let is_fresh : IsFresh b x = record { pass = c.split.ensures.new; view = view; short = refl } in
    let all = All-push (IsFresh b) c.loop-i.team.items x inv.2.each is_fresh in
    let many = ap length e.items in
    let size = length-append c.loop-i.team.items (x ∷ []) in
    let numbered = numbered_more c.args.pass.now.seat.me.0.splits c.loop-i.team.items x inv.5 (omega (arith, number, splits, inv.3)) in (
      c.split.ensures.pass,
      split_more n c.args.pass.now.seat.me.0 _ _ inv.1 c.split.ensures.split,
      subst (λ (l : List Worker). AreFresh b l) (sym e.items) (record { each = all }),
      omega (arith, many, size, inv.3),
      omega (arith, inv.4, e.capacity),
      subst (λ (l : List Worker). AreNumbered c.args.pass.now.seat.me.0.splits l) (sym e.items) numbered,
    )

pub split-requires-clause-pass : goal.split-requires-clause-pass
split-requires-clause-pass c = c.loop-i.invariant.0

pub returns-clause-pass : goal.returns-clause-pass
returns-clause-pass c = c.loop-i.invariant.0

pub returns-clause-fresh : goal.returns-clause-fresh
returns-clause-fresh c =
    let inv = c.loop-i.invariant in
    let all : c.loop-i._i ≡ c.args.workers = omega (arith, c.loop-i-test.false, c.loop-i.auto._i-end) in
    (inv.2, inv.3 ∙ all)

pub returns-clause-numbered : goal.returns-clause-numbered
returns-clause-numbered c = c.loop-i.invariant.5

pub returns-clause-split : goal.returns-clause-split
returns-clause-split c =
    let all : c.loop-i._i ≡ c.args.workers = omega (arith, c.loop-i-test.false, c.loop-i.auto._i-end) in
    c.loop-i.invariant.1 ∙ ap (λ (n : ℕ). with_splits n c.args.pass.now.seat.me.0) all
