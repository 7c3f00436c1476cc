use Rattle.std.proofs.Common.{map, ap, sym, ◌∙◌}
use Rattle.std.specs.List.{filter_map, list_any}
use Rattle.toml.specs.Data.{as_table}
use Rattle.toml.specs.View.{view}
use Rattle.setup_file.specs.Unknown.{has_unknown}
use Rattle.setup_file.proofs.Unknowns.{tables_in-array}
use Rattle.setup_file.proofs.unknown.value_has_unknown.Goals as goal

pub returns-in-Some-as_array : goal.returns-in-Some-as_array
returns-in-Some-as_array c =
    c.list_has_unknown.ensures
    ∙ ap (λ vs. list_any (has_unknown c.args.key) (filter_map as_table (map view vs))) c.deref.ensures.value
    ∙ ap (list_any (has_unknown c.args.key)) (sym (tables_in-array (view c.args.value.now) c.in-Some-as_array.values.now.items c.in-Some-as_array.ensures))
