-- The numbers of a record: how each is read, and what all of them give.
use Rattle.std.specs.Prelude.{ℕ, ℤ, pos, Bool, true, false, List, [], ◌∷◌, map, Result, Ok, Err, if◌then◌else◌}
use Rattle.std.specs.List.{list_any}
use Rattle.std.specs.Result.{result_unwrap_or}
use Rattle.cl_lines.specs.Numbers.{length_of, scaled_of}
use Rattle.cl_lines.specs.declared.fault.ClWhy.{ClWhy}
use Rattle.cl_lines.specs.declared.fault.ClWhy.TheVariants.{NumberSyntax, NumberRange}
use Rattle.cl_lines.specs.declared.number.Unit.{Unit}
use Rattle.cl_lines.specs.declared.number.NumberFault.{NumberFault}
use Rattle.cl_lines.specs.declared.number.NumberFault.TheVariants.{Syntax, Range}
use Rattle.cl_records.specs.declared.kind.Kind.{Kind}
use Rattle.cl_records.specs.declared.kind.Kind.TheVariants.{Length, Scaled}

-- one parameter, read as its kind says
abbrev pub read_as_kind : Unit → Kind → List ℕ → Result ℤ NumberFault
read_as_kind unit (Length least most) text = length_of unit least most text
read_as_kind unit (Scaled least most) text = scaled_of least most text

-- the parameters in order, each read as the kind in its place
abbrev pub reads_of : Unit → List Kind → List (List ℕ) → List (Result ℤ NumberFault)
reads_of unit [] parameters = []
reads_of unit (kind ∷ kinds) [] = []
reads_of unit (kind ∷ kinds) (parameter ∷ parameters) = read_as_kind unit kind parameter ∷ reads_of unit kinds parameters

-- the text was no number
abbrev pub is_no_number : Result ℤ NumberFault → Bool
is_no_number (Err Syntax) = true
is_no_number _ = false

-- the number was out of its range
abbrev pub is_out_of_range : Result ℤ NumberFault → Bool
is_out_of_range (Err Range) = true
is_out_of_range _ = false

-- the values of numbers that were read: a text that is no number is reported before a number out of range
abbrev pub values_of : List (Result ℤ NumberFault) → Result (List ℤ) ClWhy
values_of reads =
    if list_any is_no_number reads then Err NumberSyntax
    else (if list_any is_out_of_range reads then Err NumberRange
    else Ok (map (λ read. result_unwrap_or read (pos 0)) reads))
