use Rattle.std.proofs.Common.{◌+◌, arith, ap, ◌∙◌, false}
use Rattle.strip_turns.specs.Passes.{card}
use Rattle.strip_turns.specs.Views.{fresh}
use Rattle.strip_turns.proofs.Cutting.{splits}
use Rattle.strip_turns.proofs.board.Board.split.Goals as goal

pub split_seat-requires : goal.split_seat-requires
split_seat-requires c =
    let b = c.args.self.now in let i = c.requires.pass in (i.own, omega (arith, b.words), splits (card b) c.args.pass.now.seat.id c.args.pass.now.seat.me.0 (card b) i.named c.requires.first c.requires.few)

pub returns : goal.returns
returns c =
    let i = c.requires.pass in
    let e = c.split_seat.ensures in
    let v = ap (λ m. m.0) e.2 in
    let w = ap (λ m. m.0) e.4 in
    record {
      pass = record { own = e.0 ∙ i.own; named = ap (λ z. z.card) v ∙ i.named; held = ap (λ z. z.held) v ∙ i.held; slots = ap (λ m. m.1) e.2 ∙ i.slots };
      split = v;
      new = record { own = e.3 ∙ i.own; named = ap (λ z. z.card) w ∙ i.named; held = ap (λ z. z.held) w; slots = ap (λ m. m.1) e.4 };
      fresh = w ∙ ap (fresh false (c.args.pass.now.seat.me.0.splits + 1)) i.named;
    }
