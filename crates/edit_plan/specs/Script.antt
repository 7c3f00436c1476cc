-- The script that a text stands for, or its first fault.
use Rattle.std.specs.Prelude.{◌≡◌, ℕ, ◌+◌, ◌-◌, ◌==◌, ◌&&◌, nat_le, nat_lt, Bool, if◌then◌else◌}
use Rattle.std.specs.Prelude.{List, [], ◌∷◌, ◌++◌, length, replicate, Option, Some, None, Result, Ok, Err}
use Rattle.ray_grid.specs.Grids.{GridSize}
use Rattle.edit_plan.specs.declared.edit.Edit.{Edit}
use Rattle.edit_plan.specs.declared.edit.Edit.TheVariants.{Undo, Redo}
use Rattle.edit_plan.specs.declared.query.Ask.{Ask}
use Rattle.edit_plan.specs.declared.query.Ask.TheVariants.{Probe, Count}
use Rattle.edit_plan.specs.declared.fault.ScriptFault.{ScriptFault}
use Rattle.edit_plan.specs.declared.fault.ScriptEnd.{ScriptEnd}
use Rattle.edit_plan.specs.declared.fault.ScriptEnd.TheVariants.{Refused, NoMemory}
use Rattle.edit_plan.specs.declared.fault.ScriptWhy.{ScriptWhy}
use Rattle.edit_plan.specs.declared.fault.ScriptWhy.TheVariants.{ScriptSyntax, ScriptRange, UndoDepth, RedoDepth}
use Rattle.edit_plan.specs.declared.fault.ScriptWhy.TheVariants.{TooManyEdits, TooManyQueries}
use Rattle.edit_plan.specs.declared.reading.Stop.{Stop}
use Rattle.edit_plan.specs.declared.reading.Stop.TheVariants as stops
use Rattle.edit_plan.specs.declared.script.Script.{Script}
use Rattle.edit_plan.specs.declared.statement.Edition.{Edition}
use Rattle.edit_plan.specs.declared.statement.Edition.TheVariants.{First, Second}
use Rattle.edit_plan.specs.declared.statement.Statement.{Statement}
use Rattle.edit_plan.specs.declared.statement.Statement.TheVariants.{Run, UndoTimes, RedoTimes, ProbePoint, CountPoints}
use Rattle.edit_plan.specs.Edits.{applied_moves, dropped_of, left_of}
use Rattle.edit_plan.specs.Limits.{most_edits, most_queries}
use Rattle.ray_grid.specs.Lattice.{is_point_on}
use Rattle.edit_plan.specs.Statements.{is_edition_line, statement_of}
use Rattle.edit_plan.specs.Words.{WordedLine, worded_lines}

-- no edits and no queries
abbrev pub no_script : Script
no_script = record { edits = []; queries = [] }

-- each move once in order, and no query
abbrev pub whole_of_moves : ℕ → Script
whole_of_moves moves = record { edits = applied_moves 0 moves; queries = [] }

-- `count` more edits would be too many
abbrev pub are_too_many : ℕ → Script → Bool
are_too_many count script = nat_lt most_edits (length script.edits + count)

-- more edits after those of the script, unless they would be too many
abbrev pub with_edits : List Edit → Script → Result Script ScriptWhy
with_edits more script =
    if are_too_many (length more) script then Err TooManyEdits else Ok (record script { edits = script.edits ++ more })

-- one more query, at the version that the edits before it make, unless there are the most queries already
abbrev pub with_query : Ask → Script → Result Script ScriptWhy
with_query ask script =
    if nat_lt (length script.queries) most_queries
    then Ok (record script { queries = script.queries ++ record { version = length script.edits; ask = ask } ∷ [] })
    else Err TooManyQueries

-- the moves from one to another are applied, counted from 1; both have to be among the moves, and in order
abbrev pub with_run : ℕ → ℕ → ℕ → Script → Result Script ScriptWhy
with_run moves first last script =
    if nat_le 1 first && (nat_le first last && nat_le last moves)
    then with_edits (applied_moves (first - 1) (last + 1 - first)) script
    else Err ScriptRange

-- the last moves that are left are undone, at least one and no more than there are
abbrev pub with_undos : ℕ → Script → Result Script ScriptWhy
with_undos times script =
    if times == 0 then Err ScriptRange
    else (if nat_lt (length (left_of script.edits)) times then Err (UndoDepth times (length (left_of script.edits)))
    else with_edits (replicate times Undo) script)

-- the last moves that were dropped are taken back, at least one and no more than there are; that there would be too many edits
-- is judged before that
abbrev pub with_redos : ℕ → Script → Result Script ScriptWhy
with_redos times script =
    if times == 0 then Err ScriptRange
    else (if are_too_many times script then Err TooManyEdits
    else (if nat_lt (length (dropped_of script.edits)) times then Err (RedoDepth times (length (dropped_of script.edits)))
    else with_edits (replicate times Redo) script))

-- what a statement adds to the script so far, or the first that is wrong with it
abbrev pub with_statement : ℕ → GridSize → Statement → Script → Result Script ScriptWhy
with_statement moves grid (Run first last) script = with_run moves first last script
with_statement moves grid (UndoTimes times) script = with_undos times script
with_statement moves grid (RedoTimes times) script = with_redos times script
with_statement moves grid (ProbePoint ray l) script =
    if is_point_on grid ray l then with_query (Probe ray l) script else Err ScriptRange
with_statement moves grid CountPoints script = with_query Count script

-- the same of a line, where it is one of the grammar
abbrev pub with_line : ℕ → GridSize → Option Statement → Script → Result Script ScriptWhy
with_line moves grid None script = Err ScriptSyntax
with_line moves grid (Some statement) script = with_statement moves grid statement script

-- the rest goes on from what one line gave, and a fault has that line's number
abbrev pub read_on : ℕ → Result Script ScriptWhy → (Script → Result Script ScriptFault) → Result Script ScriptFault
read_on number (Ok script) rest = rest script
read_on number (Err why) rest = Err (record { line = number; why = why })

-- what lines of an edition add to a script, or the first fault
abbrev pub script_from : ℕ → GridSize → Edition → List WordedLine → Script → Result Script ScriptFault
script_from moves grid edition [] script = Ok script
script_from moves grid edition (line ∷ lines) script =
    read_on line.number (with_line moves grid (statement_of edition line.words) script) (script_from moves grid edition lines)

-- the second edition, where the first line says so
abbrev pub edition_of : List WordedLine → Edition
edition_of [] = First
edition_of (line ∷ lines) = if is_edition_line line.words then Second else First

-- the lines that are read by it: without that first line, which is no statement
abbrev pub behind_edition : List WordedLine → List WordedLine
behind_edition [] = []
behind_edition (line ∷ lines) = if is_edition_line line.words then lines else line ∷ lines

-- the script of a whole text, or its first fault
abbrev pub script_of : ℕ → GridSize → List ℕ → Result Script ScriptFault
script_of moves grid bytes =
    script_from moves grid (edition_of (worded_lines bytes)) (behind_edition (worded_lines bytes)) no_script

-- a refusal is the first fault; running out of memory needs no condition
abbrev pub EndsScript : Result Script ScriptFault → ScriptEnd → Type 0
EndsScript script (Refused fault) = script ≡ Err fault
EndsScript script NoMemory = Unit {0}

-- the same of one line
abbrev pub EndsLine : Result Script ScriptWhy → Stop → Type 0
EndsLine script (stops.Refused why) = script ≡ Err why
EndsLine script stops.NoMemory = Unit {0}
