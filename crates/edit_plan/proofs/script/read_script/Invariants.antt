use Rattle.std.proofs.Common.{◌≡◌, length}
use Rattle.edit_plan.specs.Script.{script_from, script_of}
use Rattle.edit_plan.proofs.script.read_script.Given as goal

-- the lines that are left make the script of what was read so far
abbrev pub invariant-loop-line : goal.invariant-loop-line
invariant-loop-line l = script_from l.moves l.grid l.edition l.lines l.reading ≡ script_of l.moves l.grid l.bytes

abbrev pub decreases-loop-line : goal.decreases-loop-line
decreases-loop-line l = length l.lines
