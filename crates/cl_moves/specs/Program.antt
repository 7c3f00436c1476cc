-- The program that a cutter location text stands for: its records folded into moves, or its first fault.
use Rattle.std.specs.Prelude.{◌≡◌, ℕ, ◌+◌, ℤ, ◌+ℤ◌, nat_lt, Bool, true, false, List, [], ◌∷◌, ◌++◌, length, unwrap_or, Option, Some, None, Result, Ok, Err, if◌then◌else◌}
use Rattle.std.specs.List.{list_all}
use Rattle.space.specs.Ranges.{is_coordinate}
use Rattle.space.specs.Vectors.{are_opposite, at}
use Rattle.cl_lines.specs.Texts.{Numbered, texts_of}
use Rattle.cl_lines.specs.declared.fault.ClFault.{ClFault}
use Rattle.cl_lines.specs.declared.fault.ClEnd.{ClEnd}
use Rattle.cl_lines.specs.declared.fault.ClEnd.TheVariants.{Refused, NoMemory}
use Rattle.cl_lines.specs.declared.fault.ClWhy.{ClWhy}
use Rattle.cl_lines.specs.declared.fault.ClWhy.TheVariants.{NumberRange, NoPosition, AxisFlip, TooManyMoves}
use Rattle.cl_lines.specs.declared.number.Unit.TheVariants.{Mm}
use Rattle.cl_records.specs.Records.{records_of}
use Rattle.cl_records.specs.declared.statement.Record.{Record}
use Rattle.cl_records.specs.declared.statement.Record.TheVariants.{Goto, From, Delta, Cutter, Multax, Units, Rapid, Fini, Passed}
use Rattle.cl_moves.specs.Axes.{upright}
use Rattle.cl_moves.specs.declared.moves.Move.{Move}
use Rattle.cl_moves.specs.declared.program.Program.{Program}
use Rattle.cl_moves.specs.declared.fold.Fold.{Fold}

-- at the start no position is known, the axis is along z, there is no cutter, no RAPID waits, and no record made a move or was passed over
abbrev pub start : Fold
start = record { position = None; axis = upright; cutter = None; rapid = false; passed = 0; moves = [] }

-- the tool is at a position with an axis
abbrev pub placed : List ℤ → List ℤ → Fold → Fold
placed tip axis fold = record fold { position = Some tip; axis = axis }

-- it has come there: a RAPID that waited is used up
abbrev pub arrived : List ℤ → List ℤ → Fold → Fold
arrived tip axis fold = record fold { position = Some tip; axis = axis; rapid = false }

-- the move from where the tool is to a position and an axis, on the line of its record
abbrev pub move_to : ℕ → List ℤ → List ℤ → List ℤ → Fold → Move
move_to line from tip axis fold =
    record { line = line; rapid = fold.rapid; from = from; to = tip; axis_from = fold.axis; axis_to = axis; cutter = fold.cutter }

-- the most moves of a program
abbrev pub most_moves : ℕ
most_moves = 50000

-- that move is added, unless its axes are opposite or there are the most moves already
abbrev pub moved : ℕ → List ℤ → List ℤ → List ℤ → Fold → Result Fold ClWhy
moved line from tip axis fold =
    if are_opposite fold.axis axis then Err AxisFlip
    else (if nat_lt (length fold.moves) most_moves
    then Ok (record (arrived tip axis fold) { moves = fold.moves ++ move_to line from tip axis fold ∷ [] })
    else Err TooManyMoves)

-- GOTO makes a move where a position is known; with none known it sets it and makes none
abbrev pub gone_to : ℕ → List ℤ → List ℤ → Option (List ℤ) → Fold → Result Fold ClWhy
gone_to line tip axis None fold = Ok (arrived tip axis fold)
gone_to line tip axis (Some from) fold = moved line from tip axis fold

-- the position at a distance from another
abbrev pub displaced : List ℤ → List ℤ → List ℤ
displaced from by = (at from 0 +ℤ at by 0) ∷ (at from 1 +ℤ at by 1) ∷ (at from 2 +ℤ at by 2) ∷ []

-- GODLTA moves by a distance from a known position, with the axis kept
abbrev pub gone_by : ℕ → List ℤ → Option (List ℤ) → Fold → Result Fold ClWhy
gone_by line by None fold = Err NoPosition
gone_by line by (Some from) fold =
    if list_all is_coordinate (displaced from by) then moved line from (displaced from by) fold.axis fold else Err NumberRange

-- MULTAX/OFF sets the axis upright and makes no move
abbrev pub multaxed : Bool → Fold → Fold
multaxed on fold = if on then fold else record fold { axis = upright }

-- what one record does
abbrev pub step : ℕ → Record → Fold → Result Fold ClWhy
step line (Goto tip axis) fold = gone_to line tip (unwrap_or axis fold.axis) fold.position fold
step line (From tip axis) fold = Ok (placed tip (unwrap_or axis fold.axis) fold)
step line (Delta by) fold = gone_by line by fold.position fold
step line (Cutter cutter) fold = Ok (record fold { cutter = Some cutter })
step line (Multax on) fold = Ok (multaxed on fold)
step line (Units unit) fold = Ok fold
step line Rapid fold = Ok (record fold { rapid = true })
step line Fini fold = Ok fold
step line Passed fold = Ok (record fold { passed = fold.passed + 1 })

-- the program of the moves
abbrev pub finished : Fold → Program
finished fold = record { moves = fold.moves; passed = fold.passed }

-- the rest goes on from what one record did, and a fault has that record's line
abbrev pub continued : ℕ → Result Fold ClWhy → (Fold → Result Program ClFault) → Result Program ClFault
continued line (Ok fold) rest = rest fold
continued line (Err why) rest = Err (record { line = line; why = why })

-- the records that are left, folded into the moves so far
abbrev pub folded : List (Numbered Record) → Fold → Result Program ClFault
folded [] fold = Ok (finished fold)
folded ((line, Err why) ∷ records) fold = Err (record { line = line; why = why })
folded ((line, Ok record_) ∷ records) fold = continued line (step line record_ fold) (folded records)

-- the program of a whole text, or its first fault
abbrev pub program_of : List ℕ → Result Program ClFault
program_of bytes = folded (records_of Mm (texts_of bytes)) start

-- a refusal is the first fault; running out of memory needs no condition
abbrev pub EndsRead : Result Program ClFault → ClEnd → Type 0
EndsRead program (Refused fault) = program ≡ Err fault
EndsRead program NoMemory = Unit {0}

-- the same of one record on a line
abbrev pub StepEnds : ℕ → Result Fold ClWhy → ClEnd → Type 0
StepEnds line stepped (Refused fault) = (fault.line ≡ line) × (stepped ≡ Err fault.why)
StepEnds line stepped NoMemory = Unit {0}
