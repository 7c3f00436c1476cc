use Rattle.std.proofs.Common.{◌∙◌, rules}
use Rattle.strip_journal.specs.Entries.{IsFirstEntryFrom}
use Rattle.strip_journal.proofs.TotalsFound.{totals_are}
use Rattle.strip_journal.proofs.journal.Journal.totals_at.Goals as goal

pub returns : goal.returns
returns c =
    let place : IsFirstEntryFrom c.args.self.now.entries.items c.args.version c.place_of-place.result = search rules in
    totals_are c.args.self.now c.args.version c.place_of-place.result _ _ _ c.requires.journal c.requires.version place
    (c.from.ensures ∙ c.totals_ahead-removed.ensures.removed) (c.from-2.ensures ∙ c.totals_ahead-removed.ensures.possible) c.from-3.ensures
