use Rattle.std.proofs.Common.{arith, ◌∙◌, length, sym, ap}
use Rattle.vf_text.specs.Digits.{spelt}
use Rattle.vf_text.proofs.DigitLemmas.{fits-append, fits-whole, spelt-append}
use Rattle.vf_text.proofs.PowerLemmas.{ten_monotone}
use Rattle.cl_lines.proofs.decimal.spell_both.Goals as goal

pub spell-requires-clause-fits : goal.spell-requires-clause-fits
spell-requires-clause-fits c = omega (arith, ten_monotone (length c.args.whole.now) 18 (omega arith))

pub spell-requires-then-whole-fraction-le-SHORT_DIGITS-clause-fits :
    goal.spell-requires-then-whole-fraction-le-SHORT_DIGITS-clause-fits
spell-requires-then-whole-fraction-le-SHORT_DIGITS-clause-fits c = fits-append 18 _ _ _ c.spell.ensures.bound (omega arith)

pub spell_long-requires-else-whole-fraction-le-SHORT_DIGITS-clause-fits :
    goal.spell_long-requires-else-whole-fraction-le-SHORT_DIGITS-clause-fits
spell_long-requires-else-whole-fraction-le-SHORT_DIGITS-clause-fits c = fits-append 20 _ _ _ c.spell_long.ensures.bound (omega arith)

pub returns-then-whole-fraction-le-SHORT_DIGITS-clause-spelt :
    goal.returns-then-whole-fraction-le-SHORT_DIGITS-clause-spelt
returns-then-whole-fraction-le-SHORT_DIGITS-clause-spelt c =
    let whole = c.args.whole.now in
    let fraction = c.args.fraction.now in
    c.spell-then-whole-fraction-le-SHORT_DIGITS.ensures.spelt ∙ ap (λ n. spelt n fraction) c.spell.ensures.spelt ∙ sym (spelt-append 0 whole fraction)

pub returns-else-whole-fraction-le-SHORT_DIGITS-clause-spelt :
    goal.returns-else-whole-fraction-le-SHORT_DIGITS-clause-spelt
returns-else-whole-fraction-le-SHORT_DIGITS-clause-spelt c =
    let whole = c.args.whole.now in
    let fraction = c.args.fraction.now in
    c.spell_long-else-whole-fraction-le-SHORT_DIGITS.ensures.spelt ∙ ap (λ n. spelt n fraction) c.spell_long.ensures.spelt ∙ sym (spelt-append 0 whole fraction)

pub returns-else-whole-fraction-le-SHORT_DIGITS-clause-bound :
    goal.returns-else-whole-fraction-le-SHORT_DIGITS-clause-bound
returns-else-whole-fraction-le-SHORT_DIGITS-clause-bound c = fits-whole 20 _ _ _ _ c.spell_long.ensures.bound c.spell_long-else-whole-fraction-le-SHORT_DIGITS.ensures.bound (omega arith)
