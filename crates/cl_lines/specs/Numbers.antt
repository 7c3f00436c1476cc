-- What a text stands for as a decimal number, and as a length in micrometres.
use Rattle.std.specs.Prelude.{ℕ, ℤ, pos, neg_ℤ, int_lt, ◌+◌, ◌==◌, ◌||◌, ◌&&◌, nat_le, Bool, true, false, List, [], ◌∷◌, ◌++◌, length, Option, Some, None, Result, Ok, Err, if◌then◌else◌}
use Rattle.std.specs.Option.{option_map}
use Rattle.vf_text.specs.Digits.{digits_of, number_spelt, spelt}
use Rattle.cl_lines.specs.Rounding.{scaled}
use Rattle.cl_lines.specs.declared.decimal.Decimal.{Decimal}
use Rattle.cl_lines.specs.declared.number.Unit.{Unit}
use Rattle.cl_lines.specs.declared.number.Unit.TheVariants.{Mm, Inch}
use Rattle.cl_lines.specs.declared.number.NumberFault.{NumberFault}
use Rattle.cl_lines.specs.declared.number.NumberFault.TheVariants.{Syntax, Range}

-- the bytes of a number that are no digits
abbrev pub plus_sign : ℕ
plus_sign = 43

abbrev pub minus_sign : ℕ
minus_sign = 45

abbrev pub decimal_point : ℕ
decimal_point = 46

abbrev pub capital_e : ℕ
capital_e = 69

abbrev pub small_e : ℕ
small_e = 101

-- the most digits of a number, and of its exponent
abbrev pub most_digits : ℕ
most_digits = 20

abbrev pub exponent_digits : ℕ
exponent_digits = 2

-- whether a minus sign is in front, and what follows a sign
abbrev pub signed : List ℕ → Bool × List ℕ
signed [] = (false, [])
signed (b ∷ bytes) = if b == minus_sign then (true, bytes) else (if b == plus_sign then (false, bytes) else (false, b ∷ bytes))

-- the digits after a point, and what follows them
abbrev pub fraction_of : List ℕ → List ℕ × List ℕ
fraction_of [] = ([], [])
fraction_of (b ∷ bytes) = if b == decimal_point then digits_of bytes else ([], b ∷ bytes)

-- a power of ten to multiply by and one to divide by
abbrev pub power_of : Bool × List ℕ → Option (ℕ × ℕ)
power_of (negative, digits) = option_map (λ n. if negative then (0, n) else (n, 0)) (number_spelt exponent_digits digits)

-- nothing, or E with a power after it
abbrev pub exponent_of : List ℕ → Option (ℕ × ℕ)
exponent_of [] = Some (0, 0)
exponent_of (b ∷ bytes) = if b == capital_e || b == small_e then power_of (signed bytes) else None

-- a sign, 1 to 20 digits with a point among, before or after them, and an exponent: the sign and the
-- point may be missing, and so may the exponent
abbrev pub number_of : List ℕ → Option Decimal
number_of bytes =
    let sign = signed bytes in
    let whole = digits_of sign.1 in
    let fraction = fraction_of whole.1 in
    let count = length whole.0 + length fraction.0 in
    let digits = spelt 0 (whole.0 ++ fraction.0) in
    if nat_le 1 count && nat_le count most_digits
    then option_map
    (λ power. record { negative = sign.0; digits = digits; up = power.0; down = length fraction.0 + power.1 })
    (exponent_of fraction.1)
    else None

-- the micrometres of a millimetre and of an inch
abbrev pub micrometres : Unit → ℕ
micrometres Mm = 1000
micrometres Inch = 25400

-- the parts of one in which numbers are read that are no lengths
abbrev pub parts : ℕ
parts = 100000

-- a size and its sign as a whole number
abbrev pub with_sign : Bool → ℕ → ℤ
with_sign negative size = if negative then neg_ℤ (pos size) else pos size

-- the number times a factor, to the nearest whole number, halves away from zero
abbrev pub whole_of : ℕ → Decimal → ℤ
whole_of factor number =
    with_sign number.negative (scaled number.digits factor number.up number.down)

-- a value between the bounds, both included
abbrev pub bounded : ℤ → ℤ → Option ℤ → Result ℤ NumberFault
bounded least most None = Err Syntax
bounded least most (Some value) = if int_lt value least || int_lt most value then Err Range else Ok value

-- the length in whole micrometres that a text stands for
abbrev pub length_of : Unit → ℤ → ℤ → List ℕ → Result ℤ NumberFault
length_of unit least most text = bounded least most (option_map (whole_of (micrometres unit)) (number_of text))

-- the number in 1/100,000 that a text stands for
abbrev pub scaled_of : ℤ → ℤ → List ℕ → Result ℤ NumberFault
scaled_of least most text = bounded least most (option_map (whole_of parts) (number_of text))
