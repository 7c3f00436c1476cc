-- Words cut off one by one.
use Rattle.std.proofs.Common.{◌≡◌, ℕ, ◌+◌, ◌<◌, ◌&&◌, List, [], ◌∷◌, Bool, true, false, not, cond, filter, map, length, take, drop, one-add, arith, refl, sym, ap, ◌∙◌}
use Rattle.std.specs.List.{prefix_len}
use Rattle.vf_io.specs.Pieces.{lead, pieces_of}
use Rattle.vf_text.specs.Blanks.{is_blank, is_blank_text, behind_blanks}
use Rattle.vf_text.specs.Lines.{line_of, lines_of}
use Rattle.edit_plan.specs.Words.{WordedLine, ahead_of_comment, ahead_unless_blank, blank_parts, has_byte, worded_from, words_of}

abbrev word_bytes : List ℕ → ℕ
word_bytes text = prefix_len (λ b. not (is_blank b)) text

-- the parts after the blank in front of a text
abbrev parts_behind : List ℕ → List (List ℕ)
parts_behind [] = []
parts_behind (b ∷ bytes) = blank_parts bytes

words_of-blank : (b : ℕ) (bytes : List ℕ) → is_blank b ≡ true → words_of (b ∷ bytes) ≡ words_of bytes
words_of-blank b bytes blank = rw blank refl

behind_blanks-blank : (b : ℕ) (bytes : List ℕ) → is_blank b ≡ true → behind_blanks (b ∷ bytes) ≡ behind_blanks bytes
behind_blanks-blank b bytes blank = rw (blank, one-add) refl

behind_blanks-other : (b : ℕ) (bytes : List ℕ) → is_blank b ≡ false → behind_blanks (b ∷ bytes) ≡ b ∷ bytes
behind_blanks-other b bytes other = rw other refl

word_bytes-blank : (b : ℕ) (bytes : List ℕ) → is_blank b ≡ true → word_bytes (b ∷ bytes) ≡ 0
word_bytes-blank b bytes blank = rw blank refl

word_bytes-other : (b : ℕ) (bytes : List ℕ) → is_blank b ≡ false → word_bytes (b ∷ bytes) ≡ 1 + word_bytes bytes
word_bytes-other b bytes other = rw other refl

-- a text is a word and what comes after the blank that ends it
blank_parts-cut : (text : List ℕ) → blank_parts text ≡ take (word_bytes text) text ∷ parts_behind (drop (word_bytes text) text)
blank_parts-cut [] = refl
blank_parts-cut (b ∷ bytes) =
    elim (is_blank b) as (λ t. cond t ([] ∷ blank_parts bytes) (lead b (blank_parts bytes))
    ≡ take (cond (not t) (1 + word_bytes bytes) 0) (b ∷ bytes) ∷ parts_behind (drop (cond (not t) (1 + word_bytes bytes) 0) (b ∷ bytes))) [
      | true ↦ refl
      | false ↦ rw one-add (ap (lead b) (blank_parts-cut bytes))
    ]

behind_after : (b : ℕ) (bytes : List ℕ) (blank : Bool) → is_blank b ≡ blank
    → filter has_byte (parts_behind (drop (word_bytes bytes) bytes)) ≡ words_of (drop (word_bytes bytes) bytes)
    → filter has_byte (parts_behind (drop (word_bytes (b ∷ bytes)) (b ∷ bytes))) ≡ words_of (drop (word_bytes (b ∷ bytes)) (b ∷ bytes))
behind_after b bytes true blank later = rw (word_bytes-blank b bytes blank) (sym (words_of-blank b bytes blank))
behind_after b bytes false other later = rw (word_bytes-other b bytes other, one-add) later

-- the words of what comes after the first word
words_of-behind : (text : List ℕ) → filter has_byte (parts_behind (drop (word_bytes text) text)) ≡ words_of (drop (word_bytes text) text)
words_of-behind [] = refl
words_of-behind (b ∷ bytes) = behind_after b bytes (is_blank b) refl (words_of-behind bytes)

-- a text that begins with no blank is a word and the words after it
words_of-cut : (b : ℕ) (bytes : List ℕ) → is_blank b ≡ false → words_of (b ∷ bytes) ≡ take (word_bytes (b ∷ bytes)) (b ∷ bytes) ∷ words_of (drop (word_bytes (b ∷ bytes)) (b ∷ bytes))
words_of-cut b bytes other =
    let front : has_byte (take (word_bytes (b ∷ bytes)) (b ∷ bytes)) ≡ true = rw (word_bytes-other b bytes other, one-add) refl in
    ap (filter has_byte) (blank_parts-cut (b ∷ bytes)) ∙ rw front (ap (λ words. take (word_bytes (b ∷ bytes)) (b ∷ bytes) ∷ words) (words_of-behind (b ∷ bytes)))

-- what is cut off a text without the blanks in front
abbrev IsCut : List ℕ → List ℕ → Type 0
IsCut text front = (0 < length front → words_of text ≡ take (word_bytes front) front ∷ words_of (drop (word_bytes front) front)) × (length front ≡ 0 → words_of text ≡ [])

cut_after : (b : ℕ) (bytes : List ℕ) (blank : Bool) → is_blank b ≡ blank → IsCut bytes (behind_blanks bytes) → IsCut (b ∷ bytes) (behind_blanks (b ∷ bytes))
cut_after b bytes true blank later =
    rw (behind_blanks-blank b bytes blank) (λ some. words_of-blank b bytes blank ∙ later.0 some, λ none. words_of-blank b bytes blank ∙ later.1 none)
cut_after b bytes false other later =
    rw (behind_blanks-other b bytes other) (λ some. words_of-cut b bytes other, λ none. absurd (omega (arith, none)))

is_cut : (text : List ℕ) → IsCut text (behind_blanks text)
is_cut [] = (λ some. absurd (omega (arith, some)), λ none. refl)
is_cut (b ∷ bytes) = cut_after b bytes (is_blank b) refl (is_cut bytes)

-- the first word and the words after it, where a text has more than blanks
pub words_of-first : (text front : List ℕ) → front ≡ behind_blanks text → 0 < length front → words_of text ≡ take (word_bytes front) front ∷ words_of (drop (word_bytes front) front)
words_of-first text front is some = rw is ((is_cut text).0 (rw (sym is) some))

-- no word where it has not
pub words_of-none : (text : List ℕ) → length (behind_blanks text) ≡ 0 → words_of text ≡ []
words_of-none text none = (is_cut text).1 none

first_blank : (b rest : Bool) → (b && rest) ≡ true → b ≡ true
first_blank true rest e = refl
first_blank false rest e = cc

later_blank : (b rest : Bool) → (b && rest) ≡ true → rest ≡ true
later_blank true rest e = e
later_blank false rest e = cc

-- blanks have no words
pub words_of-blanks : (text : List ℕ) → is_blank_text text ≡ true → words_of text ≡ []
words_of-blanks [] blank = refl
words_of-blanks (b ∷ bytes) blank =
    words_of-blank b bytes (first_blank (is_blank b) (is_blank_text bytes) blank) ∙ words_of-blanks bytes (later_blank (is_blank b) (is_blank_text bytes) blank)

some_after : (b : ℕ) (bytes : List ℕ) (blank : Bool) → is_blank b ≡ blank → (is_blank_text bytes ≡ false → 0 < length (words_of bytes)) → (blank && is_blank_text bytes) ≡ false → 0 < length (words_of (b ∷ bytes))
some_after b bytes true blank later other = rw (words_of-blank b bytes blank) (later other)
some_after b bytes false none later other = rw (words_of-cut b bytes none) (omega arith)

-- and any other text has some
pub words_of-some : (text : List ℕ) → is_blank_text text ≡ false → 0 < length (words_of text)
words_of-some [] other = absurd (cc)
words_of-some (b ∷ bytes) other = some_after b bytes (is_blank b) refl (words_of-some bytes) other

worded : (number : ℕ) (words : List (List ℕ)) (lines : List WordedLine) → 0 < length words → ahead_unless_blank number words lines ≡ record { number = number; words = words } ∷ lines
worded number [] lines some = absurd (omega (arith, some))
worded number (word ∷ words) lines some = refl

split_lines : (number : ℕ) (bytes piece behind : List ℕ) → pieces_of bytes ≡ piece ∷ pieces_of behind
    → worded_from number (lines_of bytes) ≡ ahead_unless_blank number (words_of (ahead_of_comment (line_of piece))) (worded_from (number + 1) (lines_of behind))
split_lines number bytes piece behind cut = ap (λ pieces. worded_from number (map line_of pieces)) cut

-- a line with words is the first of the lines that have any
pub worded_from-some : (number : ℕ) (bytes piece behind text : List ℕ) → pieces_of bytes ≡ piece ∷ pieces_of behind → text ≡ ahead_of_comment (line_of piece) → is_blank_text text ≡ false
    → worded_from number (lines_of bytes) ≡ record { number = number; words = words_of text } ∷ worded_from (number + 1) (lines_of behind)
worded_from-some number bytes piece behind text cut is other =
    split_lines number bytes piece behind cut
    ∙ ap (λ t. ahead_unless_blank number (words_of t) (worded_from (number + 1) (lines_of behind))) (sym is)
    ∙ worded number (words_of text) (worded_from (number + 1) (lines_of behind)) (words_of-some text other)

-- one without is none of them
pub worded_from-blank : (number : ℕ) (bytes piece behind text : List ℕ) → pieces_of bytes ≡ piece ∷ pieces_of behind → text ≡ ahead_of_comment (line_of piece) → is_blank_text text ≡ true
    → worded_from number (lines_of bytes) ≡ worded_from (number + 1) (lines_of behind)
worded_from-blank number bytes piece behind text cut is blank =
    split_lines number bytes piece behind cut
    ∙ ap (λ t. ahead_unless_blank number (words_of t) (worded_from (number + 1) (lines_of behind))) (sym is)
    ∙ ap (λ words. ahead_unless_blank number words (worded_from (number + 1) (lines_of behind))) (words_of-blanks text blank)
