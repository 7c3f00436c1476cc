-- Keys that no table of a setup may hold.
use Rattle.std.specs.Prelude.{Bool, ◌||◌, not, false, List, [], ◌∷◌, Option, Some, find, filter_map}
use Rattle.std.specs.List.{list_any}
use Rattle.toml.specs.Data.{Data, array, table, Members, no_members, member, as_table}
use Rattle.setup_keys.specs.declared.key.KeyName.{KeyName}
use Rattle.setup_keys.specs.declared.key.KeyName.TheVariants as keys
use Rattle.setup_keys.specs.Keys.{is_known, setup_tables}
use Rattle.setup_file.specs.Reads.{entry_at, values_listed}

-- a table holds a key that it may not hold
abbrev pub has_unknown : KeyName → Members → Bool
has_unknown key no_members = false
has_unknown key (member name value rest) = not (is_known key name) || has_unknown key rest

-- the table that a value is, or those that it lists
abbrev pub tables_in : Option Data → List Members
tables_in (Some (table members)) = members ∷ []
tables_in (Some (array items)) = filter_map as_table (values_listed items)
tables_in _ = []

-- the tables of that name: the whole setup, the table at its key, or the bodies of the list at its key
abbrev pub tables_named : Members → KeyName → List Members
tables_named setup keys.Setup = setup ∷ []
tables_named setup key = tables_in (entry_at key setup)

-- the first table, in the order of the tables, that holds a key that it may not hold
abbrev pub first_unknown : Members → Option KeyName
first_unknown setup = find (λ key. list_any (has_unknown key) (tables_named setup key)) setup_tables
