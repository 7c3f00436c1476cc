use Rattle.std.proofs.Common.{arith, refl, sym, ◌∙◌, ne_eqb}
use Rattle.strip_turns.specs.Passes.{card}
use Rattle.strip_turns.proofs.Taking.{takes_or_not_at, at_false}
use Rattle.strip_turns.proofs.Looking.{looks}
use Rattle.strip_turns.proofs.OutAndBack.{CameOut, came_out, not_none, slot_of, still_idle, the_one, took_found, word_least}
use Rattle.strip_turns.proofs.moves.try_take.Goals as goal

pub load-word-requires : goal.load-word-requires
load-word-requires c =
    let b = c.args.board.now in
    let words = b.words in
    let slots = b.slots in
    let lt = c.requires.strip in
    let at = c.word_at-at.ensures in
    (c.requires.idle.own, omega arith, looks (card b) _ _ c.word_at-at.result c.args.seat.now.me (omega arith))

pub compare_exchange-found-requires : goal.compare_exchange-found-requires
compare_exchange-found-requires c =
    let b = c.args.board.now in
    let e = c.load-word.ensures in
    let i = still_idle b _ c.load-word.new.seat c.requires.idle e.0 e.2.me in
    let words = b.words in
    let slots = b.slots in
    let lt = c.requires.strip in
    let at = c.word_at-at.ensures in (
      i.own,
      omega arith,
      takes_or_not_at (card b) _ _ c.args.strip c.load-word.new.seat.me (card b) i.named i.held b.few _ _ _ at (omega arith)
          c.if-word-ne0.false refl,
    )

pub returns-then-found-word-clause-told : goal.returns-then-found-word-clause-told
returns-then-found-word-clause-told c =
    let b = c.args.board.now in
    let e = c.load-word.ensures in
    let i = still_idle b _ c.load-word.new.seat c.requires.idle e.0 e.2.me in
    let x = c.compare_exchange-found.ensures in
    let other = ne_eqb c.compare_exchange-found.result c.load-word.result c.if-found-word.true in
    at_false _ _ _ other (x.2 (card b) c.args.strip i.named c.word_at-at.ensures) ∙ e.2.me

pub exchange-requires : goal.exchange-requires
exchange-requires c =
    let b = c.args.board.now in
    let k = c.args.strip in
    let idle = c.requires.idle in
    let look = c.load-word.ensures in
    let swap = c.compare_exchange-found.ensures in
    let t = took_found b k _ _ _ c.args.seat.now c.load-word.new.seat c.compare_exchange-found.new.seat idle look.2.me swap.2 c.word_at-at.ensures
    c.if-found-word.false in
    (swap.0 ∙ (look.0 ∙ idle.own), slot_of (card b) k _ _ _ t)

pub version_of-requires : goal.version_of-requires
version_of-requires c =
    let b = c.args.board.now in
    let k = c.args.strip in
    let look = c.load-word.ensures in
    let swap = c.compare_exchange-found.ensures in
    let t = took_found b k _ _ _ c.args.seat.now c.load-word.new.seat c.compare_exchange-found.new.seat c.requires.idle look.2.me swap.2
    c.word_at-at.ensures c.if-found-word.false in
    let least = word_least (card b) k _ _ _ t in
    omega (arith, least, c.if-found-word.false)

pub returns-in_err-piece-clause-told : goal.returns-in_err-piece-clause-told
returns-in_err-piece-clause-told c =
    let came = came_out c.args.board.now c.args.strip _ _ _ c.args.seat.now c.load-word.new.seat c.compare_exchange-found.new.seat c.exchange.new.seat c.exchange.result c.requires.idle c.load-word.ensures.0
    c.load-word.ensures.2.me c.compare_exchange-found.ensures.0 c.compare_exchange-found.ensures.2 c.word_at-at.ensures c.if-found-word.false
    c.exchange.ensures.0 c.exchange.ensures.2 c.exchange.ensures.3 in
    absurd (not_none (CameOut c.args.board.now c.args.strip _ c.args.seat.now c.exchange.new.seat) c.exchange.result c.in_err-piece.was came)

pub returns-clause-told : goal.returns-clause-told
returns-clause-told c =
    let b = c.args.board.now in
    let came = came_out b c.args.strip _ _ _ c.args.seat.now c.load-word.new.seat c.compare_exchange-found.new.seat c.exchange.new.seat c.exchange.result c.requires.idle c.load-word.ensures.0
    c.load-word.ensures.2.me c.compare_exchange-found.ensures.0 c.compare_exchange-found.ensures.2 c.word_at-at.ensures c.if-found-word.false
    c.exchange.ensures.0 c.exchange.ensures.2 c.exchange.ensures.3 in
    let told = the_one (CameOut b c.args.strip _ c.args.seat.now c.exchange.new.seat) c.exchange.result c.in_ok-piece.piece c.in_ok-piece.was came in
    let few = b.few in
    let within = told.0.of_case.within in
    (told.0, c.version_of.ensures _ (omega (arith, few, within)) (sym c.if-found-word.false ∙ told.1))
