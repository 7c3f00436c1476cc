-- The word was that of the strip that was taken, and says its version.
use Rattle.std.proofs.Common.{◌%◌, ◌^◌, arith, eq-eqb, ne_eqb, ◌∙◌}
use Rattle.strip_turns.specs.Passes.{card}
use Rattle.strip_turns.proofs.Taking.{at_false, at_true, takes_or_misses_at}
use Rattle.strip_turns.proofs.OutAndBack.{took_at, word_least}
use Rattle.strip_turns.proofs.moves.hold.Goals as goal

pub fetch_add-found-requires : goal.fetch_add-found-requires
fetch_add-found-requires c =
    let b = c.args.board.now in
    let i = c.requires.idle in
    let words = b.words in
    let slots = b.slots in
    let lt = c.requires.strip in
    let word = c.word_at-word.ensures in (
      i.own,
      omega arith,
      takes_or_misses_at (card b) _ _ c.args.strip c.args.seat.now.me (card b) i.named i.held b.few _ word (omega arith) c.requires.few,
    )

pub returns-then-found-ne0-clause-told : goal.returns-then-found-ne0-clause-told
returns-then-found-ne0-clause-told c =
    let told = c.fetch_add-found.ensures.2 (card c.args.board.now) c.args.strip c.requires.idle.named c.word_at-word.ensures in
    at_false _ _ _ (ne_eqb (c.fetch_add-found.result % 2 ^ 40) 0 c.if-found-ne0.true) told

pub version_of-requires : goal.version_of-requires
version_of-requires c =
    let told = c.fetch_add-found.ensures.2 (card c.args.board.now) c.args.strip c.requires.idle.named c.word_at-word.ensures in
    let home = eq-eqb (c.fetch_add-found.result % 2 ^ 40) 0 c.if-found-ne0.false in
    word_least (card c.args.board.now) c.args.strip _ _ _ (at_true _ _ _ home told)

pub returns-clause-told : goal.returns-clause-told
returns-clause-told c =
    let b = c.args.board.now in
    let e = c.fetch_add-found.ensures in
    let told = e.2 (card b) c.args.strip c.requires.idle.named c.word_at-word.ensures in
    let home = eq-eqb (c.fetch_add-found.result % 2 ^ 40) 0 c.if-found-ne0.false in
    took_at b c.args.strip c.fetch_add-found.result c.version_of.result c.args.seat.now c.fetch_add-found.new.seat c.requires.idle (e.0 ∙ c.requires.idle.own)
    b.few c.version_of.ensures (at_true _ _ _ home told)

pub returns-clause-own : goal.returns-clause-own
returns-clause-own c = c.fetch_add-found.ensures.0
