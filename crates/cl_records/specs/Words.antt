-- The major word of a record text, and what is done with its record.
use Rattle.std.specs.Prelude.{ℕ, ◌==◌, ◌||◌, Bool, List, [], ◌∷◌, drop, take, codes, Option, Some, None}
use Rattle.std.specs.List.{find, prefix_len}
use Rattle.std.specs.Char.{is_ascii_alphanumeric}
use Rattle.std.specs.Str.{str_eq_ignore_ascii_case}
use Rattle.vf_text.specs.Blanks.{behind_blanks}
use Rattle.cl_lines.specs.Words.{word_name}
use Rattle.cl_lines.specs.declared.word.Word.{Word}
use Rattle.cl_lines.specs.declared.word.Word.TheVariants as refused
use Rattle.cl_records.specs.declared.word.Keyword.{Keyword}
use Rattle.cl_records.specs.declared.word.Keyword.TheVariants.{Goto, From, Godlta, Cutter, Multax, Units, Rapid, Fini}
use Rattle.cl_records.specs.declared.word.Major.{Major}
use Rattle.cl_records.specs.declared.word.Major.TheVariants.{Read, Refused, Passed}

-- the bytes of a word that are no letters or digits
abbrev pub dash : ℕ
dash = 45

abbrev pub underscore : ℕ
underscore = 95

-- a letter, a digit, a dash or an underscore
abbrev pub is_word_byte : ℕ → Bool
is_word_byte b = is_ascii_alphanumeric b || (b == dash || b == underscore)

-- the longest run of those after the blanks in front
abbrev pub word_of : List ℕ → List ℕ
word_of text = take (prefix_len is_word_byte (behind_blanks text)) (behind_blanks text)

-- what follows that run
abbrev pub behind_word : List ℕ → List ℕ
behind_word text = drop (prefix_len is_word_byte (behind_blanks text)) (behind_blanks text)

abbrev pub keyword_name : Keyword → List ℕ
keyword_name Goto = codes "GOTO"
keyword_name From = codes "FROM"
keyword_name Godlta = codes "GODLTA"
keyword_name Cutter = codes "CUTTER"
keyword_name Multax = codes "MULTAX"
keyword_name Units = codes "UNITS"
keyword_name Rapid = codes "RAPID"
keyword_name Fini = codes "FINI"

-- the first of these that the letters spell, whatever their case
abbrev pub named : {A : Type 0} → (A → List ℕ) → List A → List ℕ → Option A
named name items letters = find (λ item. str_eq_ignore_ascii_case letters (name item)) items

abbrev pub refused_or_passed : Option Word → Major
refused_or_passed None = Passed
refused_or_passed (Some word) = Refused word

abbrev pub read_or_not : Option Keyword → Major → Major
read_or_not None other = other
read_or_not (Some keyword) other = Read keyword

-- the words whose records are read
abbrev pub keywords : List Keyword
keywords = Goto ∷ Rapid ∷ Godlta ∷ From ∷ Cutter ∷ Multax ∷ Units ∷ Fini ∷ []

-- the words whose records are refused, since they can change the motion or the tool axis
abbrev pub refused_words : List Word
refused_words =
    refused.Circle ∷ refused.Cycle ∷ refused.Movarc ∷ refused.Copy ∷ refused.Tracut ∷ refused.Trans
    ∷ refused.Origin ∷ refused.Rotate ∷ refused.Rotabl ∷ refused.Rothed ∷ refused.Gohome ∷ refused.Index
    ∷ refused.Gofwd ∷ refused.Goback ∷ refused.Golft ∷ refused.Gorgt ∷ refused.Goup ∷ refused.Godown
    ∷ refused.Tlon ∷ refused.Tllft ∷ refused.Tlrgt ∷ refused.Indirp ∷ refused.Indirv ∷ refused.Tlaxis ∷ []

-- a record is read, refused or passed over by its word
abbrev pub major_of : List ℕ → Major
major_of letters = read_or_not (named keyword_name keywords letters) (refused_or_passed (named word_name refused_words letters))
