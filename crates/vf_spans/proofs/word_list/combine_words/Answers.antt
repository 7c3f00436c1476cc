use Rattle.std.proofs.Common.{◌*◌, ◌<◌, ◌≤◌, ◌∙◌, ⊎_elim, arith, ap₂, sym}
use Rattle.std.proofs.lemmas.Bool.{cases_lt}
use Rattle.vf_spans.specs.Merge.{combined}
use Rattle.vf_spans.proofs.WordFlags.{past_words, none_combined}
use Rattle.vf_spans.proofs.word_list.combine_words.Goals as goal

pub returns : goal.returns
returns c = λ i.
    ⊎_elim
    (λ (lt : i < 64 * c.loop-n.n). c.loop-n.invariant.made i lt)
    (λ (le : 64 * c.loop-n.n ≤ i).
    let old = past_words c.args.words.now i (omega arith) in
    let other = past_words c.args.other.now i (omega arith) in
    c.loop-n.invariant.rest i le ∙ old ∙ sym (ap₂ (combined c.args.operation) old other ∙ none_combined c.args.operation))
    (cases_lt i (64 * c.loop-n.n))
