use Rattle.std.proofs.Common.{arith, ◌+◌, ◌*◌, subst, sym, ℕ, length, ◌^◌}
use Rattle.vf_text.specs.Digits.{spelt}
use Rattle.vf_text.proofs.DigitLemmas.{SpellsOn, SpellsOn-next, SpellsOn-small}
use Rattle.cl_lines.proofs.decimal.spell_long.Goals as goal

pub overflow_mul-value : goal.overflow_mul-value
overflow_mul-value c = let small = SpellsOn-small _ _ _ _ _ c.loop-digit.invariant in omega (arith, small, c.requires.fits)

pub overflow_add-value : goal.overflow_add-value
overflow_add-value c =
    let small = SpellsOn-small _ _ _ _ _ c.loop-digit.invariant in omega (arith, small, c.requires.fits, c.from.ensures, c.type_inv.digits c.loop-digit.digit-index)

pub loop-digit-preserved : goal.loop-digit-preserved
loop-digit-preserved c =
    subst (λ (d : ℕ). SpellsOn c.args.digits.now (c.loop-digit.digit-index + 1) (10 * c.loop-digit.value + d) (spelt c.args.n c.args.digits.now) ((c.args.n + 1) * 10 ^ length c.args.digits.now)) (sym c.from.ensures) (SpellsOn-next _ _ _ _ _ c.loop-digit-test.true c.loop-digit.invariant)
