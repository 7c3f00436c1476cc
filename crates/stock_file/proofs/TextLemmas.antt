-- Words and numbers as text, and read again.
use Rattle.std.proofs.Common.{◌≡◌, ℕ, suc, zero, ◌^◌, ◌<◌, ◌≤◌, ◌==◌, ◌&&◌, ℤ, pos, negsuc, List, [], ◌∷◌, ◌++◌, Bool, true, false, not, map, length, get_or, leb, Option, Some, None, cond, decimal, arith, refl, sym, ap, ap₂, ◌∙◌, subst, rules, ne_eqb}
use Rattle.std.specs.Char.{is_ascii_digit}
use Rattle.std.specs.Fmt.{signed_decimal}
use Rattle.std.specs.List.{flat_map, list_all}
use Rattle.std.specs.Option.{option_map}
use Rattle.std.proofs.lemmas.Bool.{and_parts, eqb-true, leb-true, not-true}
use Rattle.std.proofs.lemmas.Fmt.{decimal-digits_value, decimal_digit, decimal_nonempty, digits_decimal, first_decimal}
use Rattle.std.proofs.lemmas.List.Folds.{list_all-append}
use Rattle.std.proofs.lemmas.Option.{cond_some, same_Some}
use Rattle.std.proofs.lemmas.Str.Parse.{IsNumeralModel, digits_value_short, numerals_by_fold}
use Rattle.vf_io.specs.Pieces.{lead, line_feed, pieces_of}
use Rattle.vf_text.specs.Blanks.{blank_space}
use Rattle.vf_text.specs.Digits.{spelt}
use Rattle.vf_text.specs.Pages.{line, numbers}
use Rattle.ray_grid.specs.declared.ray.Family.{Family}
use Rattle.ray_grid.specs.declared.ray.Family.TheVariants.{X, Y, Z}
use Rattle.cert_lines.specs.Lines.{named_family, spelt_number}
use Rattle.cert_lines.specs.Spelling.{family_letter}
use Rattle.cert_lines.specs.Words.{line_in, spaced_words}
use Rattle.cert_lines.proofs.SpeltLemmas.{decimal_plain, is_plain, spelt_number-decimal}
use Rattle.stock_file.specs.Numbers.{below_zero, has_spare_zero, sign_byte, plain_number, signed_number}
use Rattle.stock_file.specs.RayLines.{bounds_in, bounds_with}
use Rattle.stock_file.specs.Spelling.{counts_spelt}

-- the pieces of a text are the text
abbrev pub all_bytes : List (List ℕ) → List ℕ
all_bytes pieces = flat_map (λ piece. piece) pieces

lead_bytes : (b : ℕ) (pieces : List (List ℕ)) → all_bytes (lead b pieces) ≡ b ∷ all_bytes pieces
lead_bytes b [] = refl
lead_bytes b (piece ∷ pieces) = refl

pub bytes-pieces : (bytes : List ℕ) → all_bytes (pieces_of bytes) ≡ bytes
bytes-pieces [] = refl
bytes-pieces (b ∷ bytes) =
    elim (b == line_feed) as (λ t. all_bytes (cond t ((b ∷ []) ∷ pieces_of bytes) (lead b (pieces_of bytes))) ≡ b ∷ bytes) [
      | true ↦ ap (λ (rest : List ℕ). b ∷ rest) (bytes-pieces bytes)
      | false ↦ lead_bytes b (pieces_of bytes) ∙ ap (λ (rest : List ℕ). b ∷ rest) (bytes-pieces bytes)
    ]

-- a piece that has a line is the line and its line end
option_map_some : {A B : Type 0} (f : A → B) (o : Option A) (y : B) → option_map f o ≡ Some y → (x : A) × (o ≡ Some x) × (f x ≡ y)
option_map_some f None y is = absurd (cc)
option_map_some f (Some x) y is = (x, refl, same_Some (f x) y is)

pub line_is : (piece text : List ℕ) → line_in piece ≡ Some text → piece ≡ line text
line_is [] text is = absurd (cc)
line_is (b ∷ []) text is =
    let (end, empty) = cond_some (b == line_feed) [] text is in
    ap (λ (c : ℕ). c ∷ []) (eqb-true b line_feed end) ∙ ap (λ (front : List ℕ). line front) empty
line_is (b ∷ c ∷ bytes) text is =
    let one = option_map_some (λ (rest : List ℕ). b ∷ rest) (line_in (c ∷ bytes)) text is in
    ap (λ (rest : List ℕ). b ∷ rest) (line_is (c ∷ bytes) one.0 one.1) ∙ ap (λ (front : List ℕ). line front) one.2

-- words, each with a space before it
abbrev pub spaced_text : List (List ℕ) → List ℕ
spaced_text words = flat_map (λ word. blank_space ∷ word) words

-- the words of a line make the line
abbrev pub text_of_words : List (List ℕ) → List ℕ
text_of_words [] = []
text_of_words (word ∷ words) = word ++ spaced_text words

lead_text : (b : ℕ) (words : List (List ℕ)) → text_of_words (lead b words) ≡ b ∷ text_of_words words
lead_text b [] = refl
lead_text b (word ∷ words) = refl

-- a line has a word at least
abbrev IsSome : List (List ℕ) → Type 0
IsSome [] = ⊥
IsSome (word ∷ words) = Unit {0}

some_word : (text : List ℕ) → IsSome (spaced_words text)
some_word [] = tt
some_word (b ∷ bytes) =
    elim (b == blank_space) as (λ t. IsSome (cond t ([] ∷ spaced_words bytes) (lead b (spaced_words bytes)))) [
      | true ↦ tt
      | false ↦ lead_some (spaced_words bytes)
    ]
  where
    lead_some : (words : List (List ℕ)) → IsSome (lead b words)
    lead_some [] = tt
    lead_some (word ∷ words) = tt

spaced_of : (words : List (List ℕ)) → IsSome words → spaced_text words ≡ blank_space ∷ text_of_words words
spaced_of [] some = absurd some
spaced_of (word ∷ words) some = refl

pub words_make : (text : List ℕ) → text_of_words (spaced_words text) ≡ text
words_make [] = refl
words_make (b ∷ bytes) = by_test (b == blank_space) refl (words_make bytes)
  where
    by_test : (t : Bool) → (b == blank_space) ≡ t → text_of_words (spaced_words bytes) ≡ bytes
        → text_of_words (cond t ([] ∷ spaced_words bytes) (lead b (spaced_words bytes))) ≡ b ∷ bytes
    by_test true is later =
        spaced_of (spaced_words bytes) (some_word bytes)
        ∙ ap₂ (λ (c : ℕ) (rest : List ℕ). c ∷ rest) (sym (eqb-true b blank_space is)) later
    by_test false is later = lead_text b (spaced_words bytes) ∙ ap (λ (rest : List ℕ). b ∷ rest) later

-- a word ends at the first space
pub words-word : (word rest : List ℕ) → list_all is_plain word ≡ true → spaced_words (word ++ blank_space ∷ rest) ≡ word ∷ spaced_words rest
words-word [] rest plain = refl
words-word (b ∷ word) rest plain =
    let (one, more) = and_parts (is_plain b) (list_all is_plain word) plain in
    let (space, end) = and_parts (not (b == blank_space)) (not (b == line_feed)) one in
    let other : (b == blank_space) ≡ false = not-true (b == blank_space) space in
    rw other (ap (lead b) (words-word word rest more))

pub words-last : (word : List ℕ) → list_all is_plain word ≡ true → spaced_words word ≡ word ∷ []
words-last [] plain = refl
words-last (b ∷ word) plain =
    let (one, more) = and_parts (is_plain b) (list_all is_plain word) plain in
    let (space, end) = and_parts (not (b == blank_space)) (not (b == line_feed)) one in
    let other : (b == blank_space) ≡ false = not-true (b == blank_space) space in
    rw other (ap (lead b) (words-last word more))

-- words with spaces before them are cut where they begin
abbrev pub all_plain : List (List ℕ) → Bool
all_plain words = list_all (λ word. list_all is_plain word) words

pub words_of-text : (word : List ℕ) (words : List (List ℕ)) → list_all is_plain word ≡ true → all_plain words ≡ true
    → spaced_words (word ++ spaced_text words) ≡ word ∷ words
words_of-text word [] plain all = ap spaced_words (append_nothing word) ∙ words-last word plain
  where
    append_nothing : (xs : List ℕ) → xs ++ [] ≡ xs
    append_nothing [] = refl
    append_nothing (x ∷ xs) = ap (λ (rest : List ℕ). x ∷ rest) (append_nothing xs)
words_of-text word (next ∷ words) plain all =
    let (one, more) = and_parts (list_all is_plain next) (all_plain words) all in
    words-word word (next ++ spaced_text words) plain ∙ ap (λ (others : List (List ℕ)). word ∷ others) (words_of-text next words one more)

-- the digits of a number, with no spare zero
own : IsNumeralModel (λ digits. list_all is_ascii_digit digits ≡ true) (spelt 0)
own = numerals_by_fold _ (search rules) spelt (search rules)

no_spare : (digits : List ℕ) → (get_or digits 0 0 ≡ 48 → ⊥) → has_spare_zero digits ≡ false
no_spare [] other = refl
no_spare (d ∷ []) other = refl
no_spare (d ∷ e ∷ digits) other = ne_eqb d 48 other

pub no_spare_zero : (n : ℕ) → n < 10 ^ 9 → has_spare_zero (decimal n) ≡ false
no_spare_zero zero few = ap has_spare_zero (decimal_digit 0 (omega arith))
no_spare_zero (suc n) few =
    let first : 48 < get_or (decimal (suc n)) 0 0 = first_decimal (suc n) (omega arith) (omega arith) in
    no_spare (decimal (suc n)) (λ same. omega (arith, first, same))

-- a number is read as it is written
pub plain-decimal : (n : ℕ) → n < 10 ^ 9 → plain_number (decimal n) ≡ Some n
plain-decimal n few = rw (no_spare_zero n few) (spelt_number-decimal n few)

-- and what is read was written so
one_digit : (digits : List ℕ) → has_spare_zero digits ≡ false → 0 < length digits → get_or digits 0 0 ≡ 48 → length digits ≡ 1
one_digit [] spare some first = absurd (omega arith)
one_digit (d ∷ []) spare some first = refl
one_digit (d ∷ e ∷ digits) spare some first = absurd (let zero_first : (d == 48) ≡ true = ap (λ k. k == 48) first in cc)

no_none : {A : Type 0} (t : Bool) (o : Option A) (y : A) → cond t None o ≡ Some y → (t ≡ false) × (o ≡ Some y)
no_none true o y is = absurd (cc)
no_none false o y is = (refl, is)

pub plain_is : (word : List ℕ) (n : ℕ) → plain_number word ≡ Some n → (word ≡ decimal n) × (n < 10 ^ 9)
plain_is word n is =
    let (spare, number) = no_none (has_spare_zero word) (spelt_number word) n is in
    let (test, value) = cond_some (leb 1 (length word) && (leb (length word) 9 && list_all is_ascii_digit word)) (spelt 0 word) n number in
    let (some, more) = and_parts (leb 1 (length word)) (leb (length word) 9 && list_all is_ascii_digit word) test in
    let (short, digits) = and_parts (leb (length word) 9) (list_all is_ascii_digit word) more in
    let low : 1 ≤ length word = leb-true 1 (length word) some in
    let few : spelt 0 word < 10 ^ 9 = digits_value_short own word 9 digits (leb-true (length word) 9 short) in
    let back : decimal (spelt 0 word) ≡ word = decimal-digits_value own word digits (omega arith) (one_digit word spare (omega arith)) (omega arith) in
    (sym back ∙ ap decimal value, omega (arith, few, value))

-- numbers with a sign
abbrev pub is_small : ℤ → Type 0
is_small (pos n) = n < 10 ^ 9
is_small (negsuc n) = suc n < 10 ^ 9

not_minus : (digits : List ℕ) → list_all is_ascii_digit digits ≡ true → 0 < length digits → signed_number digits ≡ option_map (λ n. pos n) (plain_number digits)
not_minus [] all some = absurd (omega arith)
not_minus (d ∷ digits) all some =
    let (digit, more) = and_parts (is_ascii_digit d) (list_all is_ascii_digit digits) all in
    let (from, to) = and_parts (leb 48 d) (leb d 57) digit in
    let least : 48 ≤ d = leb-true 48 d from in
    let other : (d == sign_byte) ≡ false = ne_eqb d sign_byte (λ same. omega (arith, same, least)) in
    rw other refl

below_suc : (n : ℕ) → below_zero (Some (suc n)) ≡ Some (negsuc n)
below_suc n = let other : (suc n == 0) ≡ false = ne_eqb (suc n) 0 (λ same. omega (arith, same)) in rw other refl

pub signed-decimal : (z : ℤ) → is_small z → signed_number (signed_decimal z) ≡ Some z
signed-decimal (pos n) few =
    not_minus (decimal n) (digits_decimal own n (omega arith)) (decimal_nonempty n (omega arith)) ∙ ap (option_map (λ n. pos n)) (plain-decimal n few)
signed-decimal (negsuc n) few = ap below_zero (plain-decimal (suc n) few) ∙ below_suc n

below_is : (o : Option ℕ) (z : ℤ) → below_zero o ≡ Some z → (n : ℕ) × (o ≡ Some (suc n)) × (z ≡ negsuc n)
below_is None z is = absurd (cc)
below_is (Some zero) z is = absurd (cc)
below_is (Some (suc n)) z is = (n, refl, sym (same_Some (negsuc n) z (sym (below_suc n) ∙ is)))

pub signed_is : (word : List ℕ) (z : ℤ) → signed_number word ≡ Some z → (word ≡ signed_decimal z) × is_small z
signed_is [] z is = absurd (cc)
signed_is (b ∷ word) z is = by_test (b == sign_byte) refl is
  where
    by_test : (t : Bool) → (b == sign_byte) ≡ t → cond t (below_zero (plain_number word)) (option_map (λ n. pos n) (plain_number (b ∷ word))) ≡ Some z
        → (b ∷ word ≡ signed_decimal z) × is_small z
    by_test true minus here =
        let one = below_is (plain_number word) z here in
        let digits = plain_is word (suc one.0) one.1 in
        subst (λ (y : ℤ). (b ∷ word ≡ signed_decimal y) × is_small y) (sym one.2)
        (ap₂ (λ (c : ℕ) (rest : List ℕ). c ∷ rest) (eqb-true b sign_byte minus) digits.0, digits.1)
    by_test false plain here =
        let one = option_map_some (λ n. pos n) (plain_number (b ∷ word)) z here in
        let digits = plain_is (b ∷ word) one.0 one.1 in
        subst (λ (y : ℤ). (b ∷ word ≡ signed_decimal y) × is_small y) one.2 digits

pub signed_plain : (z : ℤ) → is_small z → list_all is_plain (signed_decimal z) ≡ true
signed_plain (pos n) few = decimal_plain n few
signed_plain (negsuc n) few = decimal_plain (suc n) few

-- lists of numbers
abbrev pub all_few : List ℕ → Type 0
all_few [] = Unit {0}
all_few (n ∷ ns) = (n < 10 ^ 9) × all_few ns

pub bounds-decimal : (ns : List ℕ) → all_few ns → bounds_in (map decimal ns) ≡ Some ns
bounds-decimal [] few = refl
bounds-decimal (n ∷ ns) few = ap₂ bounds_with (plain-decimal n few.0) (bounds-decimal ns few.1)

with_is : (first : Option ℕ) (rest : Option (List ℕ)) (ns : List ℕ) → bounds_with first rest ≡ Some ns
    → (n : ℕ) × (more : List ℕ) × (first ≡ Some n) × (rest ≡ Some more) × (n ∷ more ≡ ns)
with_is None None ns is = absurd (cc)
with_is None (Some more) ns is = absurd (cc)
with_is (Some n) None ns is = absurd (cc)
with_is (Some n) (Some more) ns is = (n, more, refl, refl, same_Some (n ∷ more) ns is)

pub bounds_are : (words : List (List ℕ)) (ns : List ℕ) → bounds_in words ≡ Some ns → (words ≡ map decimal ns) × all_few ns
bounds_are [] ns is = subst (λ (all : List ℕ). ([] ≡ map decimal all) × all_few all) (same_Some [] ns is) (refl, tt)
bounds_are (word ∷ words) ns is =
    let parts = with_is (plain_number word) (bounds_in words) ns is in
    let first = plain_is word parts.0 parts.2 in
    let rest = bounds_are words parts.1 parts.3 in
    subst (λ (all : List ℕ). (word ∷ words ≡ map decimal all) × all_few all) parts.4
    (ap₂ (λ (w : List ℕ) (ws : List (List ℕ)). w ∷ ws) first.0 rest.0, (first.1, rest.1))

pub counts_as_words : (ns : List ℕ) → counts_spelt ns ≡ spaced_text (map decimal ns)
counts_as_words [] = refl
counts_as_words (n ∷ ns) = ap (λ (rest : List ℕ). (blank_space ∷ decimal n) ++ rest) (counts_as_words ns)

pub decimals_plain : (ns : List ℕ) → all_few ns → all_plain (map decimal ns) ≡ true
decimals_plain [] few = refl
decimals_plain (n ∷ ns) few = ap₂ ◌&&◌ (decimal_plain n few.0) (decimals_plain ns few.1)

pub numbers_as_words : (zs : List ℤ) → numbers zs ≡ spaced_text (map signed_decimal zs)
numbers_as_words [] = refl
numbers_as_words (z ∷ zs) = ap (λ (rest : List ℕ). (blank_space ∷ signed_decimal z) ++ rest) (numbers_as_words zs)

-- the letters of the families
pub letter_plain : (f : Family) → list_all is_plain (family_letter f) ≡ true
letter_plain X = refl
letter_plain Y = refl
letter_plain Z = refl

pub letter_read : (f : Family) → named_family (family_letter f) ≡ Some f
letter_read X = refl
letter_read Y = refl
letter_read Z = refl

-- no byte of a line of plain words is a line end
abbrev no_end : ℕ → Bool
no_end b = not (b == line_feed)

plain_no_end : (word : List ℕ) → list_all is_plain word ≡ true → list_all no_end word ≡ true
plain_no_end [] plain = refl
plain_no_end (b ∷ word) plain =
    let (one, more) = and_parts (is_plain b) (list_all is_plain word) plain in
    let (space, end) = and_parts (not (b == blank_space)) (not (b == line_feed)) one in
    rw end (plain_no_end word more)

spaced_no_end : (words : List (List ℕ)) → all_plain words ≡ true → list_all no_end (spaced_text words) ≡ true
spaced_no_end [] plain = refl
spaced_no_end (word ∷ words) plain =
    let (one, more) = and_parts (list_all is_plain word) (all_plain words) plain in
    list_all-append no_end word (spaced_text words) ∙ rw (plain_no_end word one) (spaced_no_end words more)

pub text_no_end : (word : List ℕ) (words : List (List ℕ)) → list_all is_plain word ≡ true → all_plain words ≡ true
    → list_all no_end (word ++ spaced_text words) ≡ true
text_no_end word words plain all =
    list_all-append no_end word (spaced_text words) ∙ rw (plain_no_end word plain) (spaced_no_end words all)
