use Rattle.std.proofs.Common.{◌∙◌, ℕ, List, ap, rules, sym, take}
use Rattle.strip_journal.proofs.EditHistories.{first_straight}
use Rattle.strip_journal.proofs.history.EditHistory.is_straight.Goals as goal

pub returns : goal.returns
returns c told =
    let line = c.self.inside in
    ap (λ (l : List ℕ). take c.args.at l) (sym c.self.view_is)
    ∙ first_straight line.straight c.args.at line.rest.items (search rules)
