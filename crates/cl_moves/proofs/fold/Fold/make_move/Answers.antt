-- A move is made where its axes aren't opposite and there is room for one more.
use Rattle.std.proofs.Common.{arith, ◌∙◌, sym}
use Rattle.cl_moves.proofs.MadeLemmas.{added, moved_full, moved_made}
use Rattle.cl_moves.proofs.fold.Fold.make_move.Goals as goal

pub returns-then-len-ge-MAX_MOVES : goal.returns-then-len-ge-MAX_MOVES
returns-then-len-ge-MAX_MOVES c =
    moved_full c.args.line c.args.from c.args.tip c.args.axis c.args.self.now _ (sym c.are_opposite.ensures ∙ c.if-are_opposite.false) (omega arith) c.refused-then-len-ge-MAX_MOVES.ensures

pub returns : goal.returns
returns c =
    let more = added c.push.result _ _ _ c.if-is_err.ensures.negation c.push.ensures.ok in
    moved_made c.args.line c.args.from c.args.tip c.args.axis c.args.self.now _ _ _ (sym c.are_opposite.ensures ∙ c.if-are_opposite.false) (omega arith) more c.move_to-next.ensures c.arrive.ensures
