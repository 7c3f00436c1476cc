-- Decimal digits, and the numbers that they spell.
use Rattle.std.specs.Prelude.{ℕ, ◌+◌, ◌-◌, ◌*◌, ◌&&◌, nat_le, List, [], ◌∷◌, take, drop, length, Option, Some, None, if◌then◌else◌}
use Rattle.std.specs.Char.{is_ascii_digit}
use Rattle.std.specs.List.{list_all, prefix_len}

-- the longest run of digits in front, and what follows it
abbrev pub digits_of : List ℕ → List ℕ × List ℕ
digits_of bytes = (take (prefix_len is_ascii_digit bytes) bytes, drop (prefix_len is_ascii_digit bytes) bytes)

-- the byte of the digit 0, after which the other digits come
abbrev pub digit_zero : ℕ
digit_zero = 48

-- the number that these digits spell after those of n
abbrev pub spelt : ℕ → List ℕ → ℕ
spelt n [] = n
spelt n (d ∷ digits) = spelt (10 * n + (d - digit_zero)) digits

-- the most digits of a count: that many fit in 32 bits, whatever they are
abbrev pub count_digits : ℕ
count_digits = 9

-- the number that a text spells which is digits and nothing else, 1 to `most` of them
abbrev pub number_spelt : ℕ → List ℕ → Option ℕ
number_spelt most text =
    if nat_le 1 (length text) && (nat_le (length text) most && list_all is_ascii_digit text) then Some (spelt 0 text) else None
