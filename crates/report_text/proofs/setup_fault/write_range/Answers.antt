use Rattle.std.proofs.Common.{codes, rules, FitsSigned, w64}
use Rattle.std.proofs.lemmas.Int.{to_z-of_z}
use Rattle.std.proofs.lemmas.Result.{IfOk-equal}
use Rattle.std.specs.Fmt.{signed_decimal}
use Rattle.report_text.specs.SetupFaults.{key_place}
use Rattle.report_text.proofs.Lines.{three_texts}
use Rattle.report_text.proofs.setup_fault.write_range.Goals as goal

pub returns : goal.returns
returns c =
    let fits : FitsSigned w64 c.args.value = search rules in
    IfOk-equal c.write_value.result c.write_value.new.page _ _ c.write_value.ensures
    (rw (c.in_ok-text.ensures, c.in_ok-write_key.ensures)
    (simp to_z-of_z
    (three_texts c.args.page.now (key_place c.args.key) (codes ": SetupRange ") (signed_decimal c.args.value))))
