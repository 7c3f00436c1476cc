use Rattle.std.proofs.Common.{◌≡◌, map, drop}
use Rattle.std.specs.List.{filter_map, list_any}
use Rattle.toml.specs.Data.{as_table}
use Rattle.toml.specs.View.{view}
use Rattle.setup_file.specs.Unknown.{has_unknown}
use Rattle.setup_file.proofs.unknown.list_has_unknown.Given as goal

-- what is to be found is among the rest
abbrev pub invariant-loop-value : goal.invariant-loop-value
invariant-loop-value l =
    list_any (has_unknown l.key) (filter_map as_table (map view l.values)) ≡ list_any (has_unknown l.key) (filter_map as_table (drop l.value-index (map view l.values)))
