use Rattle.std.proofs.Common.{◌≡◌, drop, find}
use Rattle.std.specs.List.{list_any}
use Rattle.toml.specs.View.{table_view}
use Rattle.setup_keys.specs.Keys.{setup_tables}
use Rattle.setup_file.specs.Unknown.{has_unknown, tables_named}
use Rattle.setup_file.proofs.unknown.first_unknown.Given as goal

-- the first table that holds an unknown key is among the rest
abbrev pub invariant-loop-key : goal.invariant-loop-key
invariant-loop-key l =
    find (λ key. list_any (has_unknown key) (tables_named (table_view l.setup) key)) setup_tables
    ≡ find (λ key. list_any (has_unknown key) (tables_named (table_view l.setup) key)) (drop l.key-index setup_tables)
