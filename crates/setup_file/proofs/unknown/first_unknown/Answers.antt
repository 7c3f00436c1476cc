use Rattle.std.proofs.Common.{sym, ◌∙◌}
use Rattle.std.specs.List.{list_any}
use Rattle.toml.specs.View.{table_view}
use Rattle.setup_keys.specs.declared.key.KeyName.TheVariants as keys
use Rattle.setup_keys.specs.Keys.{setup_tables}
use Rattle.setup_file.specs.Unknown.{has_unknown, tables_named}
use Rattle.setup_file.proofs.Unknowns.{find-here, find-more}
use Rattle.setup_file.proofs.unknown.first_unknown.Goals as goal

pub returns-then-any_unknown : goal.returns-then-any_unknown
returns-then-any_unknown c =
    sym (c.loop-key.invariant
    ∙ find-here (λ key. list_any (has_unknown key) (tables_named (table_view c.args.setup.now) key)) setup_tables c.loop-key.key-index keys.Setup c.loop-key-test.true
    (sym c.any_unknown.ensures ∙ c.if-any_unknown.true))

pub loop-key-preserved : goal.loop-key-preserved
loop-key-preserved c =
    c.loop-key.invariant
    ∙ find-more (λ key. list_any (has_unknown key) (tables_named (table_view c.args.setup.now) key)) setup_tables c.loop-key.key-index keys.Setup c.loop-key-test.true
    (sym c.any_unknown.ensures ∙ c.if-any_unknown.false)
