use Rattle.std.proofs.Common.{◌∙◌, ap, sym}
use Rattle.std.specs.Str.{str_eq_ignore_ascii_case}
use Rattle.cl_records.specs.Words.{keyword_name}
use Rattle.cl_records.proofs.WordLemmas.{named-next}
use Rattle.cl_records.proofs.word.find_keyword.Goals as goal

pub loop-keyword-preserved : goal.loop-keyword-preserved
loop-keyword-preserved c =
    let letters = c.args.letters.now in
    let other = ap (str_eq_ignore_ascii_case letters) (sym c.name.ensures) ∙ sym c.spells.ensures ∙ c.if-spells.false in
    sym (named-next keyword_name c.args.keywords.now letters c.loop-keyword.keyword-index _ c.loop-keyword-test.true other) ∙ c.loop-keyword.invariant
