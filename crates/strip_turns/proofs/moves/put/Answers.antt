use Rattle.std.proofs.Common.{ap, sym, ◌∙◌, ◌∷◌, None, Some}
use Rattle.atomic_table.specs.Table.{rest}
use Rattle.strip_turns.proofs.OutAndBack.{back_from}
use Rattle.strip_turns.proofs.moves.put.Goals as goal

pub exchange-requires : goal.exchange-requires
exchange-requires c =
    let h = c.requires.out in (h.own, (None, h.slots ∙ ap (λ l. (c.args.strip, None) ∷ l) (sym (ap rest h.slots))))

pub give_back-requires-clause-held : goal.give_back-requires-clause-held
give_back-requires-clause-held c =
    let h = c.requires.out in
    let e = c.exchange.ensures in
    let v = ap (λ m. m.0) e.3 in (
      c.args.piece,
      record {
        own = e.0 ∙ h.own;
        named = ap (λ z. z.card) v ∙ h.named;
        held = ap (λ z. z.held) v ∙ h.held;
        slots = ap (λ m. m.1) e.3 ∙ ap (λ l. (c.args.strip, Some c.args.piece) ∷ l) (ap rest h.slots);
        of_case = c.requires.of_case;
        at = c.requires.at;
        further = c.requires.further;
      },
    )

pub returns : goal.returns
returns c =
    back_from c.args.board.now c.args.strip c.args.from c.args.to c.args.seat.now c.exchange.new.seat c.give_back.new.seat
    (ap (λ m. m.0) c.exchange.ensures.3) c.give_back.ensures
