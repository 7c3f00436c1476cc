use Rattle.std.proofs.Common.{◌∙◌, sym, rules, get_or, ◌<◌, ◌^◌, ◌*◌, ◌+◌}
use Rattle.vf_spans.proofs.WordFlags.{in_words-at}
use Rattle.vf_spans.proofs.WordCounts.{is_word_of_set}
use Rattle.vf_spans.proofs.words.Words.word.Goals as goal

pub returns-clause-value : goal.returns-clause-value
returns-clause-value c =
    let fits : get_or c.as_slice.result.now c.args.n 0 < 2 ^ 64 = search rules in
    is_word_of_set c.args.self.now c.args.n (get_or c.as_slice.result.now c.args.n 0) fits
    (λ b lt. sym (in_words-at c.as_slice.result.now c.args.n b lt) ∙ c.as_slice.ensures.flags (64 * c.args.n + b))
