-- There are no more records than texts.
use Rattle.std.proofs.Common.{ℕ, ◌≤◌, List, [], ◌∷◌, true, false, cond, length, Result, Ok, Err, arith}
use Rattle.cl_lines.specs.Texts.{Numbered}
use Rattle.cl_lines.specs.declared.fault.ClWhy.{ClWhy}
use Rattle.cl_lines.specs.declared.number.Unit.{Unit}
use Rattle.cl_records.specs.Records.{behind_record, is_fini, record_of, records_of, unit_behind}
use Rattle.cl_records.specs.declared.statement.Record.{Record}

few-behind : (unit : Unit) (read : Result Record ClWhy) (rest : Unit → List (Numbered Record)) (most : ℕ) → ((next : Unit) → length (rest next) ≤ most) → length (behind_record unit read rest) ≤ most
few-behind unit (Err why) rest most few = omega arith
few-behind unit (Ok record_) rest most few =
    elim (is_fini record_) as (λ t. length (cond t [] (rest (unit_behind unit record_))) ≤ most) [
      | true ↦ omega arith
      | false ↦ few (unit_behind unit record_)
    ]

pub records_of-few : (unit : Unit) (texts : List (Numbered (List ℕ))) → length (records_of unit texts) ≤ length texts
records_of-few unit [] = omega arith
records_of-few unit ((line, Err why) ∷ texts) = omega arith
records_of-few unit ((line, Ok text) ∷ texts) =
    omega (arith, few-behind unit (record_of unit text) (λ next. records_of next texts) (length texts) (λ next. records_of-few next texts))
