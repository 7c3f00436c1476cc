use Rattle.std.proofs.Common.{arith, ◌∙◌}
use Rattle.strip_turns.specs.Passes.{card}
use Rattle.strip_turns.proofs.Giving.{giving_at}
use Rattle.strip_turns.proofs.OutAndBack.{given_told}
use Rattle.strip_turns.proofs.moves.give_back.Goals as goal

pub home_word-requires : goal.home_word-requires
home_word-requires c =
    let few = c.args.board.now.few in
    let h = c.requires.held.1 in
    let within = h.of_case.within in
    let at = h.at in omega arith

pub swap-requires : goal.swap-requires
swap-requires c =
    let b = c.args.board.now in
    let piece = c.requires.held.0 in
    let h = c.requires.held.1 in
    let words = b.words in
    let slots = b.slots in
    let lt = c.requires.strip in
    let word = c.word_at-word.ensures in
    let at = h.at in
    let further = h.further in
    let home = c.home_word.ensures in (
      h.own,
      omega arith,
      giving_at (card b) _ _ c.args.seat.now.me (card b) h.named c.args.strip c.args.from piece h.held h.slots h.of_case
          (omega arith) _ _ word (omega arith) (omega arith),
    )

pub returns : goal.returns
returns c =
    let b = c.args.board.now in
    let h = c.requires.held.1 in
    let x = c.swap.ensures in
    given_told b b.table.shared.table_id.slots c.args.strip c.args.from c.args.to c.word_at-word.result c.home_word.result c.swap.result
    c.args.seat.now c.swap.new.seat c.requires.held.0 h c.home_word.ensures x.2 (x.0 ∙ h.own)
