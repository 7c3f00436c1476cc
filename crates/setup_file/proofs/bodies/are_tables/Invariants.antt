use Rattle.std.proofs.Common.{◌≡◌, map, drop, is_some}
use Rattle.toml.specs.Data.{as_table}
use Rattle.toml.specs.View.{view}
use Rattle.setup_file.specs.Reads.{all_of}
use Rattle.setup_file.proofs.bodies.are_tables.Given as goal

-- whether all are tables is whether the rest are
abbrev pub invariant-loop-value : goal.invariant-loop-value
invariant-loop-value l = is_some (all_of as_table (map view l.values)) ≡ is_some (all_of as_table (drop l.value-index (map view l.values)))
