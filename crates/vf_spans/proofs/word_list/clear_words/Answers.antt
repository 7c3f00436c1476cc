use Rattle.std.proofs.Common.{◌*◌, ◌<◌, ◌≤◌, ◌∙◌, ⊎_elim, arith}
use Rattle.std.proofs.Math.ListN.{length-set}
use Rattle.std.proofs.lemmas.Bool.{cases_lt}
use Rattle.vf_spans.proofs.WordFlags.{past_words, in_words-cleared}
use Rattle.vf_spans.proofs.word_list.clear_words.Goals as goal

pub loop-n-preserved : goal.loop-n-preserved
loop-n-preserved c = record {
  size = length-set c.loop-n.words c.loop-n.n 0 ∙ c.loop-n.invariant.size;
  cleared = in_words-cleared c.loop-n.words c.loop-n.n (omega arith) c.loop-n.invariant.cleared;
}

pub returns : goal.returns
returns c = λ i.
    ⊎_elim (λ (lt : i < 64 * c.loop-n.n). c.loop-n.invariant.cleared i lt)
    (λ (le : 64 * c.loop-n.n ≤ i). past_words c.loop-n.words i (omega arith)) (cases_lt i (64 * c.loop-n.n))
