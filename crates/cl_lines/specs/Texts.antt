-- The numbered record texts that lines stand for, each whole or with what is wrong with it.
use Rattle.std.specs.Prelude.{ℕ, ◌+◌, ◌<◌, nat_lt, Bool, true, false, List, [], ◌∷◌, ◌++◌, length, flat_map, Result, Ok, Err, if◌then◌else◌}
use Rattle.vf_text.specs.Blanks.{is_blank_text}
use Rattle.cl_lines.specs.Comments.{without_comment, is_continued, record_part}
use Rattle.vf_text.specs.Lines.{lines_of}
use Rattle.cl_lines.specs.declared.fault.ClWhy.{ClWhy}
use Rattle.cl_lines.specs.declared.fault.ClWhy.TheVariants.{LineLong, DanglingDollar}
use Rattle.cl_lines.specs.declared.join.JoinEnd.{JoinEnd}
use Rattle.cl_lines.specs.declared.join.JoinEnd.TheVariants.{TooLong, NoMemory}

-- the most bytes of a record text
abbrev pub most_text : ℕ
most_text = 4096

-- the most bytes of a cutter location text
abbrev pub most_bytes : ℕ
most_bytes = 67108864

-- a line's number with what begins there, or with the fault that is in its place
abbrev pub Numbered : Type 0 → Type 0
Numbered A = ℕ × Result A ClWhy

-- A record's lines joined: the number of the first, the bytes, and whether the last of them is continued by no line.
pub record Joined : Type 0 where
  pub line : ℕ
  pub bytes : List ℕ
  pub dangling : Bool

-- a continued line in front of what follows it
abbrev pub lead_text : ℕ → List ℕ → List Joined → List Joined
lead_text number bytes [] = record { line = number; bytes = bytes; dangling = true } ∷ []
lead_text number bytes (next ∷ texts) = record { line = number; bytes = bytes ++ next.bytes; dangling = next.dangling } ∷ texts

-- the lines without their comments, joined where a dollar sign says so, with nothing between
abbrev pub joined_from : ℕ → List (List ℕ) → List Joined
joined_from number [] = []
joined_from number (line ∷ lines) =
    if is_continued (without_comment line)
    then lead_text number (record_part (without_comment line)) (joined_from (number + 1) lines)
    else record { line = number; bytes = record_part (without_comment line); dangling = false } ∷ joined_from (number + 1) lines

-- what joined lines stand for: nothing where they have only blanks, unless they are too long or the last of them is continued by none
abbrev pub text_of : Joined → List (Numbered (List ℕ))
text_of text =
    if nat_lt most_text (length text.bytes) then (text.line, Err LineLong) ∷ []
    else (if text.dangling then (text.line, Err DanglingDollar) ∷ []
    else (if is_blank_text text.bytes then [] else (text.line, Ok text.bytes) ∷ []))

-- the texts of lines that are numbered from here on
abbrev pub texts_from : ℕ → List (List ℕ) → List (Numbered (List ℕ))
texts_from number lines = flat_map text_of (joined_from number lines)

-- the texts of all the bytes, numbered from 1
abbrev pub texts_of : List ℕ → List (Numbered (List ℕ))
texts_of bytes = texts_from 1 (lines_of bytes)

-- the first of the texts is too long; running out of memory needs no condition
abbrev pub IsTooLong : List Joined → Type 0
IsTooLong [] = ⊥
IsTooLong (text ∷ texts) = most_text < length text.bytes

abbrev pub JoinEnds : List Joined → JoinEnd → Type 0
JoinEnds texts TooLong = IsTooLong texts
JoinEnds texts NoMemory = Unit {0}
