use Rattle.std.proofs.Common.{◌-◌, ◌^◌, refl, rules}
use Rattle.std.specs.Prelude.{bit_and}
use Rattle.strip_journal.proofs.WordsLeft.{one_more_word}
use Rattle.strip_journal.proofs.remaining.remaining_of.Goals as goal

pub loop-n-preserved : goal.loop-n-preserved
loop-n-preserved c =
    let word = c.word-word.result in
    one_more_word c.args.ray.now.sets c.loop-n.n word (bit_and word.stock (2 ^ 64 - 1 - word.sure)) c.loop-n.left c.or_word.new.self
    c.loop-n.invariant c.word-word.ensures (search rules) refl c.or_word.ensures.bound c.or_word.ensures.added
