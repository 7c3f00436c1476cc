use Rattle.std.proofs.Common.{◌+◌, ◌*◌, ◌^◌, length}
use Rattle.vf_text.specs.Digits.{spelt}
use Rattle.vf_text.proofs.DigitLemmas.{SpellsOn}
use Rattle.cl_lines.proofs.decimal.spell_long.Given as goal

abbrev pub invariant-loop-digit : goal.invariant-loop-digit
invariant-loop-digit l = SpellsOn l.digits l.digit-index l.value (spelt l.n l.digits) ((l.n + 1) * 10 ^ length l.digits)
