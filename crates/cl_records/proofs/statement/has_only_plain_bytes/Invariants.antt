use Rattle.std.proofs.Common.{◌≡◌, ◌&&◌, drop}
use Rattle.std.specs.List.{list_all}
use Rattle.cl_records.specs.Records.{is_plain}
use Rattle.cl_records.proofs.statement.has_only_plain_bytes.Given as goal

abbrev pub invariant-loop-b : goal.invariant-loop-b
invariant-loop-b l = (l.plain && list_all is_plain (drop l.b-index l.text)) ≡ list_all is_plain l.text
