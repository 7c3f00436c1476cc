use Rattle.std.specs.Char.{is_ascii_digit}
use Rattle.vf_text.proofs.DigitLemmas.{all_of_prefix}
use Rattle.vf_text.proofs.digits.split_digits.Goals as goal

pub returns-clause-digits : goal.returns-clause-digits
returns-clause-digits c = rw (c.split_at.ensures.front, c.digit_count.ensures.count) (all_of_prefix is_ascii_digit c.args.text.now)
