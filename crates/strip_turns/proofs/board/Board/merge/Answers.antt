use Rattle.std.proofs.Common.{arith, ap, ◌∙◌}
use Rattle.strip_turns.specs.Passes.{card}
use Rattle.strip_turns.proofs.Cutting.{joins}
use Rattle.strip_turns.proofs.board.Board.merge.Goals as goal

pub join_seat-requires : goal.join_seat-requires
join_seat-requires c =
    let b = c.args.self.now in
    let i = c.requires.pass in
    let o = c.requires.other in
    (i.own, o.own, o.slots, omega (arith, b.words), joins (card b) c.args.pass.now.seat.id c.args.pass.now.seat.me.0 (card b) i.named c.requires.first _ c.args.other.seat.me.0 (card b, o.named) o.held)

pub returns : goal.returns
returns c =
    let i = c.requires.pass in
    let e = c.join_seat.ensures in
    let v = ap (λ m. m.0) e.2 in
    record {
      pass = record { own = e.0 ∙ i.own; named = ap (λ z. z.card) v ∙ i.named; held = ap (λ z. z.held) v ∙ i.held; slots = ap (λ m. m.1) e.2 ∙ i.slots };
      joined = v;
    }
