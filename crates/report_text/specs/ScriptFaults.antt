-- The text of a script's fault.
use Rattle.std.specs.Prelude.{ℕ, List, ◌++◌, codes, decimal}
use Rattle.edit_plan.specs.declared.fault.ScriptFault.{ScriptFault}
use Rattle.edit_plan.specs.declared.fault.ScriptWhy.{ScriptWhy}
use Rattle.edit_plan.specs.declared.fault.ScriptWhy.TheVariants.{ScriptSyntax, ScriptRange, UndoDepth}
use Rattle.edit_plan.specs.declared.fault.ScriptWhy.TheVariants.{TooManyEdits, TooManyQueries, RedoDepth}

-- the number that was asked for, and how many moves there are
abbrev pub depths_text : ℕ → ℕ → List ℕ
depths_text asked left = codes " " ++ decimal asked ++ codes " " ++ decimal left

-- the fault's name, and what goes with it
abbrev pub script_why_text : ScriptWhy → List ℕ
script_why_text ScriptSyntax = codes "ScriptSyntax"
script_why_text ScriptRange = codes "ScriptRange"
script_why_text (UndoDepth asked left) = codes "UndoDepth" ++ depths_text asked left
script_why_text TooManyEdits = codes "TooManyEdits"
script_why_text TooManyQueries = codes "TooManyQueries"
script_why_text (RedoDepth asked left) = codes "RedoDepth" ++ depths_text asked left

-- the line where it is, and what is wrong there
abbrev pub script_fault_text : ScriptFault → List ℕ
script_fault_text fault = codes "script line " ++ decimal fault.line ++ codes ": " ++ script_why_text fault.why
