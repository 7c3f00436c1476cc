use Rattle.std.proofs.Common.{◌∙◌, refl}
use Rattle.cert_lines.proofs.WordLemmas.{spaced_words-cut}
use Rattle.stock_file.proofs.words.split_word.Goals as goal

pub returns-clause-words : goal.returns-clause-words
returns-clause-words c = spaced_words-cut c.args.text.now ∙ rw (c.split_at.ensures.front, c.split_at.ensures.back, c.word_len.ensures.count) refl
