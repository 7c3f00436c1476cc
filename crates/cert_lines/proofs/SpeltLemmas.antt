-- Lines that are spelt, read again.
use Rattle.std.proofs.Common.{◌≡◌, ℕ, ◌^◌, ◌<◌, ◌≤◌, ◌==◌, ◌&&◌, List, [], ◌∷◌, ◌++◌, Bool, true, false, not, length, leb, Some, arith, refl, ap, ◌∙◌, ne_eqb, decimal, rules}
use Rattle.std.specs.Char.{is_ascii_digit}
use Rattle.std.specs.List.{list_all}
use Rattle.std.specs.Option.{option_and_then}
use Rattle.std.proofs.lemmas.Bool.{and_parts, le-leb, leb-true}
use Rattle.std.proofs.lemmas.Fmt.{decimal_nonempty, digits_decimal, digits_value-decimal, length-decimal-le}
use Rattle.std.proofs.lemmas.List.Folds.{list_all-append}
use Rattle.std.proofs.lemmas.Str.Parse.{IsNumeralModel, numerals_by_fold}
use Rattle.vf_io.specs.Pieces.{lead, line_feed, pieces_of}
use Rattle.vf_text.specs.Blanks.{blank_space}
use Rattle.vf_text.specs.Digits.{spelt}
use Rattle.vf_text.specs.Pages.{line}
use Rattle.cert_lines.specs.Lines.{form_in, form_of, spelt_number}
use Rattle.cert_lines.specs.Spelling.{joined}
use Rattle.cert_lines.specs.Words.{spaced_words}
use Rattle.cert_lines.proofs.WordLemmas.{line_in-push}

-- a byte of a word is neither a space nor LF
abbrev pub is_plain : ℕ → Bool
is_plain b = not (b == blank_space) && not (b == line_feed)

abbrev pub are_plain : List (List ℕ) → Bool
are_plain words = list_all (λ word. list_all is_plain word) words

is_not : (t : Bool) → not t ≡ true → t ≡ false
is_not true is = cc
is_not false is = refl

-- a line that is spelt is the first piece of a text that begins with it
abbrev is_inside : ℕ → Bool
is_inside b = not (b == line_feed)

pub pieces_of-line : (front rest : List ℕ) → list_all is_inside front ≡ true → pieces_of ((front ++ line_feed ∷ []) ++ rest) ≡ (front ++ line_feed ∷ []) ∷ pieces_of rest
pieces_of-line [] rest inside = refl
pieces_of-line (b ∷ front) rest inside =
    let (one, more) = and_parts (is_inside b) (list_all is_inside front) inside in
    let other : (b == line_feed) ≡ false = is_not (b == line_feed) one in
    rw other (ap (lead b) (pieces_of-line front rest more))

-- a word ends at the first space
spaced_words-word : (word rest : List ℕ) → list_all is_plain word ≡ true → spaced_words (word ++ blank_space ∷ rest) ≡ word ∷ spaced_words rest
spaced_words-word [] rest plain = refl
spaced_words-word (b ∷ word) rest plain =
    let (one, more) = and_parts (is_plain b) (list_all is_plain word) plain in
    let (space, end) = and_parts (not (b == blank_space)) (not (b == line_feed)) one in
    let other : (b == blank_space) ≡ false = is_not (b == blank_space) space in
    rw other (ap (lead b) (spaced_words-word word rest more))

spaced_words-last : (word : List ℕ) → list_all is_plain word ≡ true → spaced_words word ≡ word ∷ []
spaced_words-last [] plain = refl
spaced_words-last (b ∷ word) plain =
    let (one, more) = and_parts (is_plain b) (list_all is_plain word) plain in
    let (space, end) = and_parts (not (b == blank_space)) (not (b == line_feed)) one in
    let other : (b == blank_space) ≡ false = is_not (b == blank_space) space in
    rw other (ap (lead b) (spaced_words-last word more))

-- joined words are cut where they were joined
spaced_words-joined : (word : List ℕ) (words : List (List ℕ)) → are_plain (word ∷ words) ≡ true → spaced_words (joined (word ∷ words)) ≡ word ∷ words
spaced_words-joined word [] plain =
    let (one, more) = and_parts (list_all is_plain word) true plain in spaced_words-last word one
spaced_words-joined word (next ∷ words) plain =
    let (one, more) = and_parts (list_all is_plain word) (are_plain (next ∷ words)) plain in
    spaced_words-word word (joined (next ∷ words)) one ∙ ap (λ others. word ∷ others) (spaced_words-joined next words more)

plain_inside : (word : List ℕ) → list_all is_plain word ≡ true → list_all is_inside word ≡ true
plain_inside [] plain = refl
plain_inside (b ∷ word) plain =
    let (one, more) = and_parts (is_plain b) (list_all is_plain word) plain in
    let (space, end) = and_parts (not (b == blank_space)) (not (b == line_feed)) one in
    rw end (plain_inside word more)

joined_inside : (words : List (List ℕ)) → are_plain words ≡ true → list_all is_inside (joined words) ≡ true
joined_inside [] plain = refl
joined_inside (word ∷ []) plain =
    let (one, more) = and_parts (list_all is_plain word) true plain in plain_inside word one
joined_inside (word ∷ next ∷ words) plain =
    let (one, more) = and_parts (list_all is_plain word) (are_plain (next ∷ words)) plain in
    list_all-append is_inside word (blank_space ∷ joined (next ∷ words)) ∙ rw (plain_inside word one) (joined_inside (next ∷ words) more)

-- a line that is spelt says what its words say
pub form_of-line : (word : List ℕ) (words : List (List ℕ)) → are_plain (word ∷ words) ≡ true → form_of (line (joined (word ∷ words))) ≡ form_in (word ∷ words)
form_of-line word words plain =
    ap (option_and_then (λ text. form_in (spaced_words text))) (line_in-push (joined (word ∷ words)) line_feed) ∙ ap form_in (spaced_words-joined word words plain)

pub pieces_of-joined : (words : List (List ℕ)) (rest : List ℕ) → are_plain words ≡ true → pieces_of (line (joined words) ++ rest) ≡ line (joined words) ∷ pieces_of rest
pieces_of-joined words rest plain = pieces_of-line (joined words) rest (joined_inside words plain)

-- the digits of a number are a word
digit_plain : (d : ℕ) → is_ascii_digit d ≡ true → is_plain d ≡ true
digit_plain d digit =
    let range = and_parts (leb 48 d) (leb d 57) digit in
    let least : 48 ≤ d = leb-true 48 d range.0 in
    let space : (d == blank_space) ≡ false = ne_eqb d blank_space (λ same. omega (arith, same, least)) in
    let end : (d == line_feed) ≡ false = ne_eqb d line_feed (λ same. omega (arith, same, least)) in
    rw (space, end) refl

digits_plain : (digits : List ℕ) → list_all is_ascii_digit digits ≡ true → list_all is_plain digits ≡ true
digits_plain [] all = refl
digits_plain (d ∷ digits) all =
    let (one, more) = and_parts (is_ascii_digit d) (list_all is_ascii_digit digits) all in
    rw (digit_plain d one) (digits_plain digits more)

own : IsNumeralModel (λ digits. list_all is_ascii_digit digits ≡ true) (spelt 0)
own = numerals_by_fold _ (search rules) spelt (search rules)

decimal_digits : (n : ℕ) → n < 10 ^ 9 → list_all is_ascii_digit (decimal n) ≡ true
decimal_digits n few = digits_decimal own n (omega arith)

pub decimal_plain : (n : ℕ) → n < 10 ^ 9 → list_all is_plain (decimal n) ≡ true
decimal_plain n few = digits_plain (decimal n) (decimal_digits n few)

-- and the word is read as the number
pub spelt_number-decimal : (n : ℕ) → n < 10 ^ 9 → spelt_number (decimal n) ≡ Some n
spelt_number-decimal n few =
    let some : leb 1 (length (decimal n)) ≡ true = le-leb 1 (length (decimal n)) (omega (arith, decimal_nonempty n (omega arith))) in
    let short : leb (length (decimal n)) 9 ≡ true = le-leb (length (decimal n)) 9 (length-decimal-le 9 n (omega arith) few (omega arith)) in
    rw (some, short, decimal_digits n few) (ap Some (digits_value-decimal own n (omega arith)))
