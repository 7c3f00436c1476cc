-- The numbers of a saved stock: one to nine digits, with no zero before others, and a minus before an origin that is below zero.
use Rattle.std.specs.Prelude.{ℕ, ℤ, pos, neg_ℤ, ◌==◌, Bool, false, List, [], ◌∷◌, Option, Some, None, if◌then◌else◌}
use Rattle.std.specs.Option.{option_map}
use Rattle.vf_text.specs.Digits.{digit_zero}
use Rattle.cert_lines.specs.Lines.{spelt_number}

-- the first of several bytes is a zero
abbrev pub has_spare_zero : List ℕ → Bool
has_spare_zero [] = false
has_spare_zero (d ∷ []) = false
has_spare_zero (d ∷ e ∷ digits) = d == digit_zero

-- the number that a word is, without a spare zero
abbrev pub plain_number : List ℕ → Option ℕ
plain_number word = if has_spare_zero word then None else spelt_number word

-- the byte before a number below zero
abbrev pub sign_byte : ℕ
sign_byte = 45

-- the number below zero with these digits; there is no -0
abbrev pub below_zero : Option ℕ → Option ℤ
below_zero None = None
below_zero (Some n) = if n == 0 then None else Some (neg_ℤ (pos n))

-- the number that a word is, with or without a sign
abbrev pub signed_number : List ℕ → Option ℤ
signed_number [] = None
signed_number (b ∷ word) =
    if b == sign_byte then below_zero (plain_number word) else option_map (λ n. pos n) (plain_number (b ∷ word))
