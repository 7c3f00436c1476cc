use Rattle.std.proofs.Common.{ap, sym, ◌∙◌}
use Rattle.std.specs.List.{list_any}
use Rattle.toml.specs.View.{table_view}
use Rattle.setup_file.specs.Unknown.{has_unknown, tables_in}
use Rattle.setup_file.proofs.Unknowns.{tables_named-other}
use Rattle.setup_file.proofs.unknown.any_unknown.Goals as goal

pub returns-in-Some : goal.returns-in-Some
returns-in-Some c =
    c.value_has_unknown.ensures
    ∙ ap (λ value. list_any (has_unknown c.args.key) (tables_in value)) c.in-Some.ensures
    ∙ ap (list_any (has_unknown c.args.key)) (sym (tables_named-other c.args.key (table_view c.args.setup.now) c.in_default.not-Setup))
