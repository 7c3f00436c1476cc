use Rattle.std.proofs.Common.{◌∙◌, ap, sym}
use Rattle.std.specs.Str.{str_eq_ignore_ascii_case}
use Rattle.cl_lines.specs.Words.{word_name}
use Rattle.cl_records.proofs.WordLemmas.{named-next}
use Rattle.cl_records.proofs.word.find_refused.Goals as goal

pub loop-word-preserved : goal.loop-word-preserved
loop-word-preserved c =
    let letters = c.args.letters.now in
    let other = ap (str_eq_ignore_ascii_case letters) (sym c.name.ensures) ∙ sym c.spells.ensures ∙ c.if-spells.false in
    sym (named-next word_name c.args.words.now letters c.loop-word.word-index _ c.loop-word-test.true other) ∙ c.loop-word.invariant
