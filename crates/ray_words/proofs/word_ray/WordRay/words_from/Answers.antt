-- One word more: the words are those of the sets still.
use Rattle.std.proofs.Common.{◌∷◌, [], length, length-append, arith, ap, subst, sym}
use Rattle.ray_words.specs.Kept.{AreWordsFrom}
use Rattle.ray_words.proofs.Keeping.{words_more}
use Rattle.ray_words.proofs.word_ray.WordRay.words_from.Goals as goal

pub loop-n-preserved : goal.loop-n-preserved
loop-n-preserved c =
    let sets = c.args.self.now.sets in
    let words = c.loop-n.words.items in
    let before = c.loop-n.invariant in
    let pushed = c.in_ok-push.ensures.items in
    record {
      size = omega (arith, ap length pushed, length-append words (c.word.result ∷ []), before.size);
      bits =
          subst (AreWordsFrom sets c.args.first) (sym pushed)
          (words_more sets c.args.first words c.word.result c.loop-n.n before.bits before.size c.word.ensures);
    }

pub returns-clause-bits : goal.returns-clause-bits
returns-clause-bits c = c.loop-n.invariant.bits
