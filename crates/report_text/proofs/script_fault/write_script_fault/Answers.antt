use Rattle.std.proofs.Common.{◌++◌, codes, decimal}
use Rattle.std.proofs.lemmas.Result.{IfOk-equal}
use Rattle.report_text.specs.ScriptFaults.{script_why_text}
use Rattle.report_text.proofs.Lines.{three_texts}
use Rattle.report_text.proofs.script_fault.write_script_fault.Goals as goal

pub returns : goal.returns
returns c =
    IfOk-equal c.write_why.result c.write_why.new.page _ _ c.write_why.ensures
    (rw (c.in_ok-text.ensures, c.in_ok-write_counted.ensures)
    (three_texts c.args.page.now (codes "script line " ++ decimal c.args.fault.now.line) (codes ": ") (script_why_text c.args.fault.now.why)))
