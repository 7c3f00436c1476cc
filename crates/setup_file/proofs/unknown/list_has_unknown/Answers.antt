use Rattle.std.proofs.Common.{sym, ◌∙◌}
use Rattle.setup_file.proofs.Unknowns.{unknown-more}
use Rattle.setup_file.proofs.unknown.list_has_unknown.Goals as goal

pub returns-then-item_has_unknown : goal.returns-then-item_has_unknown
returns-then-item_has_unknown c =
    let cut = unknown-more c.args.key c.args.values.now c.loop-value.value-index c.value-item.result c.loop-value-test.true c.value-item.is in
    sym (c.loop-value.invariant ∙ rw (← c.item_has_unknown.ensures, c.if-item_has_unknown.true) at cut)

pub loop-value-preserved : goal.loop-value-preserved
loop-value-preserved c =
    let cut = unknown-more c.args.key c.args.values.now c.loop-value.value-index c.value-item.result c.loop-value-test.true c.value-item.is in
    c.loop-value.invariant ∙ rw (← c.item_has_unknown.ensures, c.if-item_has_unknown.false) at cut
