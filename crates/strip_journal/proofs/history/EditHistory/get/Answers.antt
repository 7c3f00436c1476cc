use Rattle.std.proofs.Common.{◌∙◌, ◌-◌, arith, sym}
use Rattle.std.proofs.lemmas.List.{get_or_default}
use Rattle.strip_journal.proofs.EditHistories.{seen_length, seen_rest, seen_straight}
use Rattle.strip_journal.proofs.history.EditHistory.get.Goals as goal

pub index-requires : goal.index-requires
index-requires c =
    let line = c.self.inside in
    let all = seen_length line.straight line.rest.items c.args.self.now c.self.view_is in
    let size = line.rest.ok.0 in omega (arith, all, size)

pub returns-then-k-self : goal.returns-then-k-self
returns-then-k-self c =
    let line = c.self.inside in
    sym (seen_straight line.straight line.rest.items c.args.self.now c.self.view_is c.args.k c.if-k-self.true)

pub returns-else-k-self : goal.returns-else-k-self
returns-else-k-self c =
    let line = c.self.inside in
    let all = seen_length line.straight line.rest.items c.args.self.now c.self.view_is in
    c.index.ensures
    ∙ get_or_default line.rest.items (c.args.k - line.straight) c.index.result.now 0 (omega (arith, all))
    ∙ sym (seen_rest line.straight line.rest.items c.args.self.now c.self.view_is c.args.k (omega arith))
