use Rattle.std.proofs.Common.{arith, ap, ◌∙◌}
use Rattle.strip_turns.specs.Passes.{card}
use Rattle.strip_turns.proofs.Drawing.{draws}
use Rattle.strip_turns.proofs.board.Board.claim.Goals as goal

pub fetch_add-requires : goal.fetch_add-requires
fetch_add-requires c = let b = c.args.self.now in let i = c.requires.pass in (i.own, omega (arith, b.words), draws (card b) _ _ c.args.pass.now.seat.me (card b) i.named c.requires.few)

pub returns : goal.returns
returns c =
    let i = c.requires.pass in
    let e = c.fetch_add.ensures in
    let me = e.2.me in
    let v = ap (λ m. m.0) me in
    record {
      pass = record { own = e.0 ∙ i.own; named = ap (λ z. z.card) v ∙ i.named; held = ap (λ z. z.held) v ∙ i.held; slots = ap (λ m. m.1) me ∙ i.slots };
      drew = v;
      above = e.2.above;
    }
