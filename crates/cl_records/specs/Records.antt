-- The record that a text stands for, or its first fault, and the records of a list of texts.
use Rattle.std.specs.Prelude.{ℕ, ℤ, ◌==◌, ◌||◌, ◌&&◌, nat_le, Bool, true, false, List, [], ◌∷◌, length, codes, Option, Some, None, Result, Ok, Err, if◌then◌else◌}
use Rattle.std.specs.List.{list_all}
use Rattle.std.specs.Str.{str_eq_ignore_ascii_case}
use Rattle.space.specs.Vectors.{is_zero}
use Rattle.vf_text.specs.Blanks.{blank_space, tab}
use Rattle.cl_lines.specs.Texts.{Numbered}
use Rattle.cl_lines.specs.declared.fault.ClWhy.{ClWhy}
use Rattle.cl_lines.specs.declared.fault.ClWhy.TheVariants.{BadByte, Unsupported, ParamCount, ParamWord, AxisZero}
use Rattle.cl_lines.specs.declared.number.Unit.{Unit}
use Rattle.cl_lines.specs.declared.number.Unit.TheVariants.{Mm, Inch}
use Rattle.cl_lines.specs.declared.word.Word.{Word}
use Rattle.cl_lines.specs.declared.word.Word.TheVariants as refused
use Rattle.cl_records.specs.Cutters.{cutter_of}
use Rattle.cl_records.specs.Kinds.{cutter_kinds, delta_count, delta_kinds, fewest_sizes, most_sizes, position_count, position_kinds, tip_count}
use Rattle.cl_records.specs.Parameters.{parameters_of, only_of}
use Rattle.cl_records.specs.Values.{reads_of, values_of}
use Rattle.cl_records.specs.Words.{word_of, behind_word, major_of}
use Rattle.cl_records.specs.declared.statement.Position.{Position}
use Rattle.cl_records.specs.declared.statement.Record.{Record}
use Rattle.cl_records.specs.declared.statement.Record.TheVariants as records
use Rattle.cl_records.specs.declared.word.Keyword.{Keyword}
use Rattle.cl_records.specs.declared.word.Keyword.TheVariants as keywords
use Rattle.cl_records.specs.declared.word.Major.{Major}
use Rattle.cl_records.specs.declared.word.Major.TheVariants.{Read, Refused, Passed}

-- the last byte that is printed
abbrev pub tilde : ℕ
tilde = 126

-- a tab, or a byte from the space to the tilde
abbrev pub is_plain : ℕ → Bool
is_plain b = b == tab || (nat_le blank_space b && nat_le b tilde)

-- the word parameter that a text is, whatever its case
abbrev pub is_word : List ℕ → List ℕ → Bool
is_word text word = str_eq_ignore_ascii_case text word

-- what follows where what comes before it has no fault
abbrev pub and_then : {A B : Type 0} → Result A ClWhy → (A → Result B ClWhy) → Result B ClWhy
and_then (Ok x) next = next x
and_then (Err why) next = Err why

-- a tip with an axis, which isn't zero
abbrev pub with_axis : List ℤ → List ℤ → Result Position ClWhy
with_axis tip axis = if is_zero axis then Err AxisZero else Ok (record { tip = tip; axis = Some axis })

-- three coordinates, with three components of an axis after them or none
abbrev pub position_of : List ℤ → Result Position ClWhy
position_of (x ∷ y ∷ z ∷ []) = Ok (record { tip = x ∷ y ∷ z ∷ []; axis = None })
position_of (x ∷ y ∷ z ∷ i ∷ j ∷ k ∷ []) = with_axis (x ∷ y ∷ z ∷ []) (i ∷ j ∷ k ∷ [])
position_of _ = Err ParamCount

-- the position that three or six parameters give
abbrev pub position_in : Unit → List (List ℕ) → Result Position ClWhy
position_in unit parameters =
    if length parameters == tip_count || length parameters == position_count
    then and_then (values_of (reads_of unit position_kinds parameters)) position_of
    else Err ParamCount

-- the distance that three parameters give
abbrev pub delta_of : List ℤ → Result Record ClWhy
delta_of (x ∷ y ∷ z ∷ []) = Ok (records.Delta (x ∷ y ∷ z ∷ []))
delta_of _ = Err ParamCount

abbrev pub delta_in : Unit → List (List ℕ) → Result Record ClWhy
delta_in unit parameters =
    if length parameters == delta_count then and_then (values_of (reads_of unit delta_kinds parameters)) delta_of else Err ParamCount

-- the cutter that one to seven parameters give
abbrev pub cutter_in : Unit → List (List ℕ) → Result Record ClWhy
cutter_in unit parameters =
    if nat_le fewest_sizes (length parameters) && nat_le (length parameters) most_sizes
    then and_then (values_of (reads_of unit cutter_kinds parameters))
    (λ sizes. and_then (cutter_of sizes) (λ cutter. Ok (records.Cutter cutter)))
    else Err ParamCount

abbrev pub multax_of : List ℕ → Result Record ClWhy
multax_of word =
    if is_word word (codes "ON") then Ok (records.Multax true)
    else (if is_word word (codes "OFF") then Ok (records.Multax false) else Err ParamWord)

-- MULTAX without a parameter is MULTAX/ON
abbrev pub multax_in : List (List ℕ) → Result Record ClWhy
multax_in [] = Ok (records.Multax true)
multax_in (word ∷ []) = multax_of word
multax_in _ = Err ParamCount

abbrev pub units_of : List ℕ → Result Record ClWhy
units_of word =
    if is_word word (codes "MM") then Ok (records.Units Mm)
    else (if is_word word (codes "INCHES") || (is_word word (codes "INCH") || is_word word (codes "IN"))
    then Ok (records.Units Inch) else Err ParamWord)

abbrev pub units_in : Option (List ℕ) → Result Record ClWhy
units_in None = Err ParamCount
units_in (Some word) = units_of word

-- the record of a word with its parameters, or its first fault
abbrev pub with_parameters : Unit → Keyword → List (List ℕ) → Result Record ClWhy
with_parameters unit keywords.Goto parameters =
    and_then (position_in unit parameters) (λ position. Ok (records.Goto position.tip position.axis))
with_parameters unit keywords.From parameters =
    and_then (position_in unit parameters) (λ position. Ok (records.From position.tip position.axis))
with_parameters unit keywords.Godlta parameters = delta_in unit parameters
with_parameters unit keywords.Cutter parameters = cutter_in unit parameters
with_parameters unit keywords.Multax parameters = multax_in parameters
with_parameters unit keywords.Units parameters = units_in (only_of parameters)
with_parameters unit keywords.Rapid parameters = Ok records.Rapid
with_parameters unit keywords.Fini parameters = Ok records.Fini

-- something else than a slash follows the word
abbrev pub where_parameters : Unit → Keyword → Option (List (List ℕ)) → Result Record ClWhy
where_parameters unit keyword None = Err ParamWord
where_parameters unit keyword (Some parameters) = with_parameters unit keyword parameters

-- what follows RAPID and FINI isn't read
abbrev pub read_as : Unit → Keyword → List ℕ → Result Record ClWhy
read_as unit keywords.Rapid behind = Ok records.Rapid
read_as unit keywords.Fini behind = Ok records.Fini
read_as unit keyword behind = where_parameters unit keyword (parameters_of behind)

-- the one parameter OFF
abbrev pub is_off : Option (List ℕ) → Bool
is_off None = false
is_off (Some word) = is_word word (codes "OFF")

-- the parameters of a record, or none where something else than a slash follows its word
abbrev pub known : Option (List (List ℕ)) → List (List ℕ)
known None = []
known (Some parameters) = parameters

abbrev pub is_cycle : Word → Bool
is_cycle refused.Cycle = true
is_cycle _ = false

-- CYCLE/OFF ends a cycle, which is none; every other record of a word that is refused is
abbrev pub judged_refused : Word → List ℕ → List ℕ → Result Record ClWhy
judged_refused word text behind =
    if list_all is_plain text
    then (if is_cycle word && is_off (only_of (known (parameters_of behind))) then Ok records.Passed else Err (Unsupported word))
    else Err BadByte

-- a record that is read or refused has only plain bytes; one that is passed over may have any
abbrev pub judged : Unit → Major → List ℕ → List ℕ → Result Record ClWhy
judged unit Passed text behind = Ok records.Passed
judged unit (Refused word) text behind = judged_refused word text behind
judged unit (Read keyword) text behind = if list_all is_plain text then read_as unit keyword behind else Err BadByte

-- the record that a text stands for in this unit, or its first fault
abbrev pub record_of : Unit → List ℕ → Result Record ClWhy
record_of unit text = judged unit (major_of (word_of text)) text (behind_word text)

-- the unit after a record
abbrev pub unit_behind : Unit → Record → Unit
unit_behind unit (records.Units next) = next
unit_behind unit _ = unit

abbrev pub is_fini : Record → Bool
is_fini records.Fini = true
is_fini _ = false

-- nothing is read after FINI, nor after a fault; else the rest is read in the unit that now holds
abbrev pub behind_record : Unit → Result Record ClWhy → (Unit → List (Numbered Record)) → List (Numbered Record)
behind_record unit (Err why) rest = []
behind_record unit (Ok record_) rest = if is_fini record_ then [] else rest (unit_behind unit record_)

-- the records of texts, in order, up to FINI or to the first fault
abbrev pub records_of : Unit → List (Numbered (List ℕ)) → List (Numbered Record)
records_of unit [] = []
records_of unit ((line, Err why) ∷ texts) = (line, Err why) ∷ []
records_of unit ((line, Ok text) ∷ texts) =
    (line, record_of unit text) ∷ behind_record unit (record_of unit text) (λ next. records_of next texts)
