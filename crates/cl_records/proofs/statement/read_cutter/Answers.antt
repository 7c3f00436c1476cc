-- Where the count is right, the values decide, and then the cutter of them.
use Rattle.std.proofs.Common.{◌≡◌, ℕ, ◌≤◌, ◌&&◌, ◌∙◌, List, Result, Ok, Err, true, ap, ap₂, length, sym, if◌then◌else◌}
use Rattle.std.specs.Prelude.{nat_le}
use Rattle.std.proofs.lemmas.Bool.{le-leb}
use Rattle.cl_lines.specs.declared.fault.ClWhy.{ClWhy}
use Rattle.cl_lines.specs.declared.fault.ClWhy.TheVariants.{ParamCount}
use Rattle.cl_lines.specs.declared.number.Unit.{Unit}
use Rattle.cl_records.specs.Cutters.{cutter_of}
use Rattle.cl_records.specs.Kinds.{cutter_kinds}
use Rattle.cl_records.specs.Records.{and_then, cutter_in}
use Rattle.cl_records.specs.Values.{reads_of, values_of}
use Rattle.cl_records.specs.declared.cutter.CutterText.{CutterText}
use Rattle.cl_records.specs.declared.statement.Record.{Record}
use Rattle.cl_records.specs.declared.statement.Record.TheVariants.{Cutter}
use Rattle.cl_records.proofs.statement.read_cutter.Goals as goal

abbrev record_of_cutter : Result CutterText ClWhy → Result Record ClWhy
record_of_cutter made = and_then made (λ cutter. Ok (Cutter cutter))

counted : (unit : Unit) (parameters : List (List ℕ)) (n : ℕ) → n ≡ length parameters → 1 ≤ n → n ≤ 7
    → cutter_in unit parameters ≡ and_then (values_of (reads_of unit cutter_kinds parameters)) (λ sizes. record_of_cutter (cutter_of sizes))
counted unit parameters n e some few =
    let right : (nat_le 1 n && nat_le n 7) ≡ true = ap₂ (λ a b. a && b) (le-leb 1 n some) (le-leb n 7 few) in
    let read = and_then (values_of (reads_of unit cutter_kinds parameters)) (λ sizes. record_of_cutter (cutter_of sizes)) in
    ap (λ b. if b then read else Err ParamCount) (ap (λ k. nat_le 1 k && nat_le k 7) (sym e) ∙ right)

pub returns-in-Ok-cutter_of_sizes-clause-record : goal.returns-in-Ok-cutter_of_sizes-clause-record
returns-in-Ok-cutter_of_sizes-clause-record c =
    sym (counted c.args.unit c.args.parameters c.count-count.result c.count-count.ensures c.if-count-lt1.false c.if-count-gt7.false
    ∙ ap (λ values. and_then values (λ sizes. record_of_cutter (cutter_of sizes))) c.in-Ok.ensures.values
    ∙ ap (λ sizes. record_of_cutter (cutter_of sizes)) (sym c.as_slice.ensures)
    ∙ ap record_of_cutter (sym c.in-Ok-cutter_of_sizes.ensures.cutter))

pub returns-in-Err-cutter_of_sizes-clause-record : goal.returns-in-Err-cutter_of_sizes-clause-record
returns-in-Err-cutter_of_sizes-clause-record c =
    sym (counted c.args.unit c.args.parameters c.count-count.result c.count-count.ensures c.if-count-lt1.false c.if-count-gt7.false
    ∙ ap (λ values. and_then values (λ sizes. record_of_cutter (cutter_of sizes))) c.in-Ok.ensures.values
    ∙ ap (λ sizes. record_of_cutter (cutter_of sizes)) (sym c.as_slice.ensures)
    ∙ ap record_of_cutter (sym c.in-Err-cutter_of_sizes.ensures.cutter))

pub returns-in-Err-clause-record : goal.returns-in-Err-clause-record
returns-in-Err-clause-record c =
    sym (counted c.args.unit c.args.parameters c.count-count.result c.count-count.ensures c.if-count-lt1.false c.if-count-gt7.false
    ∙ ap (λ values. and_then values (λ sizes. record_of_cutter (cutter_of sizes))) c.in-Err.ensures.values)
