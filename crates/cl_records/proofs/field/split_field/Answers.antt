use Rattle.std.proofs.Common.{◌+◌}
use Rattle.std.proofs.lemmas.List.{take_rest}
use Rattle.cl_records.proofs.FieldLemmas.{fields_of-at, fields_of-none}
use Rattle.cl_records.proofs.field.split_field.Goals as goal

pub returns-in-Some : goal.returns-in-Some
returns-in-Some c =
    let text = c.args.text.now in
    let comma = c.in-Some.comma in
    let first = c.in-Some.ensures in
    rw (take_rest text (comma + 1)) (fields_of-at text comma first.0.before first.0.high first.1)

pub returns-in-None : goal.returns-in-None
returns-in-None c = fields_of-none c.args.text.now c.in-None.ensures
