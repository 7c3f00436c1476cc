use Rattle.std.proofs.Common.{◌≡◌, true, false, is_some, sym, ◌∙◌, rules}
use Rattle.toml.specs.Data.{as_table}
use Rattle.toml.specs.View.{view}
use Rattle.setup_file.proofs.Listed.{tables-more, tables-stop}
use Rattle.setup_file.proofs.bodies.are_tables.Goals as goal

pub returns-then-not-is_table : goal.returns-then-not-is_table
returns-then-not-is_table c =
    let other : is_some (as_table (view c.value-item.result)) ≡ false = search rules in
    sym (c.loop-value.invariant ∙ tables-stop c.args.values.now c.loop-value.value-index c.value-item.result c.loop-value-test.true c.value-item.is other)

pub loop-value-preserved : goal.loop-value-preserved
loop-value-preserved c =
    let tabled : is_some (as_table (view c.value-item.result)) ≡ true = search rules in
    c.loop-value.invariant ∙ tables-more c.args.values.now c.loop-value.value-index c.value-item.result c.loop-value-test.true c.value-item.is tabled
