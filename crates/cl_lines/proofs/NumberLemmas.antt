-- A number by its parts, as they are cut off one by one.
use Rattle.std.proofs.Common.{◌≡◌, ℕ, ◌+◌, ◌&&◌, ◌++◌, nat_le, List, Bool, Option, None, length, refl, if◌then◌else◌}
use Rattle.std.specs.Option.{option_map}
use Rattle.vf_text.specs.Digits.{digits_of, spelt}
use Rattle.cl_lines.specs.Numbers.{signed, fraction_of, exponent_of, number_of}

pub number_of-parts : (text rest whole after fraction behind : List ℕ) (negative : Bool) (power : Option (ℕ × ℕ))
    → negative ≡ (signed text).0 → rest ≡ (signed text).1 → whole ≡ (digits_of rest).0 → after ≡ (digits_of rest).1
    → fraction ≡ (fraction_of after).0 → behind ≡ (fraction_of after).1 → power ≡ exponent_of behind
    → number_of text ≡ (if nat_le 1 (length whole + length fraction) && nat_le (length whole + length fraction) 20
    then option_map (λ p. record { negative = negative; digits = spelt 0 (whole ++ fraction); up = p.0; down = length fraction + p.1 }) power
    else None)
number_of-parts text rest whole after fraction behind negative power sign behind_sign run behind_run point behind_point is =
    rw (is, behind_point, point, behind_run, run, behind_sign, sign) refl
