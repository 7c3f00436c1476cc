use Rattle.std.proofs.Common.{sym, ◌∙◌}
use Rattle.setup_file.proofs.Unknowns.{has_unknown-view}
use Rattle.setup_file.proofs.unknown.has_unknown.Goals as goal

pub returns : goal.returns
returns c = c.has_unknown_name.ensures ∙ sym (has_unknown-view c.args.key c.args.table.now.entries)
