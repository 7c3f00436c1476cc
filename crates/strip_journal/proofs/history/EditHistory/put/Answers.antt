use Rattle.std.proofs.Common.{◌∙◌, ℕ, ◌+◌, List, [], ◌∷◌, ◌++◌, take, arith, sym, ap}
use Rattle.strip_journal.proofs.EditHistories.{goes_on, goes_straight, joined, pushed}
use Rattle.strip_journal.proofs.history.EditHistory.put.Goals as goal

pub returns-then-at-self-clause-ok : goal.returns-then-at-self-clause-ok
returns-then-at-self-clause-ok c =
    let line = c.self.inside in
    ap (joined (c.args.at + 1)) c.clear.ensures.items
    ∙ goes_straight line.straight c.args.at line.rest.items c.if-at-self.true
    ∙ (λ i. take c.args.at (c.self.view_is i) ++ sym c.if-edit-at.true i ∷ [])

pub returns-clause-ok : goal.returns-clause-ok
returns-clause-ok c =
    let line = c.self.inside in
    let room = c.in_ok-reserve.ensures.ok in
    let cut = c.truncate.ensures.len in
    let same = c.truncate.ensures.capacity in
    let kept = c.truncate.ensures.items
    ∙ (λ i. take (c.saturating_sub.ensures i) (c.reserve.ensures.items i)) in
    let put = c.push-put.ensures.items ∙ pushed c.push-put.result _ _ (c.push-put.ensures.succeeds (omega (arith, room, cut, same))) in
    ap (joined c.min-self-inside.result) put
    ∙ (λ i. joined (c.min-self-inside.ensures i) (kept i ++ c.args.edit ∷ []))
    ∙ goes_on line.straight c.args.at c.args.edit line.rest.items
    ∙ ap (λ (l : List ℕ). take c.args.at l ++ c.args.edit ∷ []) c.self.view_is
