use Rattle.std.proofs.Common.{◌+◌, ◌-◌, ◌≤◌, length}
use Rattle.strip_journal.specs.Looking.{IsLookingBack}
use Rattle.strip_journal.proofs.journal.Journal.state_at.Given as goal

abbrev pub invariant-loop-place : goal.invariant-loop-place
invariant-loop-place g l =
    IsLookingBack l.self l.version l.n l.l l.place l.marks
    × (l.steps ≤ l.fn.steps + (length l.self.entries.items - l.place))

abbrev pub decreases-loop-place : goal.decreases-loop-place
decreases-loop-place g l = l.place
