use Rattle.std.proofs.Common.{arith, ◌≡◌, ◌+◌, nat_le, length, true, Some, sym}
use Rattle.std.proofs.lemmas.Bool.{le-leb}
use Rattle.cl_lines.proofs.NumberLemmas.{number_of-parts}
use Rattle.cl_lines.proofs.decimal.number.Goals as goal

pub returns-clause-number : goal.returns-clause-number
returns-clause-number c =
    let whole = c.split_digits.result.0.now in
    let fraction = c.split_fraction.result.0.now in
    let count = length whole + length fraction in
    let parts = number_of-parts c.args.text.now c.behind_sign-negative.result.1.now whole c.split_digits.result.1.now fraction c.split_fraction.result.1.now c.behind_sign-negative.result.0 (Some (c.in_ok-up.up, c.in_ok-up.down)) c.behind_sign-negative.ensures.sign c.behind_sign-negative.ensures.behind c.split_digits.ensures.run c.split_digits.ensures.behind c.split_fraction.ensures.run c.split_fraction.ensures.behind c.in_ok-up.ensures.power in
    let some : nat_le 1 count ≡ true = le-leb 1 count (omega arith) in
    let short : nat_le count 20 ≡ true = le-leb count 20 (omega arith) in
    rw c.spell_both.ensures.spelt (sym (rw (some, short) at parts))
