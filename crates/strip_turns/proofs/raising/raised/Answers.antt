use Rattle.std.proofs.Common.{◌∙◌}
use Rattle.strip_turns.specs.Passes.{card}
use Rattle.strip_turns.proofs.Cases.{plan_of}
use Rattle.strip_turns.proofs.raising.raised.Goals as goal

-- a strip that was put in is of the board's plan
pub raise-requires-clause-plan : goal.raise-requires-clause-plan
raise-requires-clause-plan g c =
    let b = c.args.board.now in
    let piece = c.wait_and_take-piece.result.0 in
    plan_of (card b) c.args.strip piece.done piece b.whole c.wait_and_take-piece.ensures.out.of_case ∙ b.card
