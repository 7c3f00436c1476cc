use Rattle.std.proofs.Common.{◌≡◌, ◌++◌, All, length}
use Rattle.std.specs.Vec.Iter.{into_iter_items, into_iter_len}
use Rattle.strip_turns.proofs.close.as_seen.Given as goal

abbrev pub invariant-loop-piece : goal.invariant-loop-piece
invariant-loop-piece l =
    (l.yielded ++ into_iter_items l.piece-iterator ≡ l.fn.taken.items) × (l.strips.items ≡ l.yielded)
    × All (λ piece. piece.job.plan ≡ l.plan) (into_iter_items l.piece-iterator)
    × (into_iter_len l.piece-iterator ≡ length (into_iter_items l.piece-iterator))
