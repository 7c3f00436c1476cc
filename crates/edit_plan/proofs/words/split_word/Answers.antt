use Rattle.std.proofs.Common.{◌≡◌, ◌<◌, ◌∙◌, length, rules, refl, sym, ap}
use Rattle.edit_plan.proofs.WordLemmas.{words_of-first, words_of-none}
use Rattle.edit_plan.proofs.words.split_word.Goals as goal

pub returns-then-is_empty : goal.returns-then-is_empty
returns-then-is_empty c =
    let none : length c.skip_blanks-front.result.now ≡ 0 = search rules in
    words_of-none c.args.text.now (sym (ap length c.skip_blanks-front.ensures.text) ∙ none)

pub returns : goal.returns
returns c =
    let front = c.skip_blanks-front.result.now in
    let some : 0 < length front = search rules in
    let cut = words_of-first c.args.text.now front c.skip_blanks-front.ensures.text some in
    cut ∙ rw (c.split_at.ensures.front, c.split_at.ensures.back, c.word_len.ensures.count) refl
