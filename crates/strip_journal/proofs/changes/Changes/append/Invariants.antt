use Rattle.std.proofs.Common.{◌≡◌, ◌+◌, ◌≤◌, ◌++◌, take}
use Rattle.strip_journal.proofs.changes.Changes.append.Given as goal

abbrev pub invariant-loop-change : goal.invariant-loop-change
invariant-loop-change l =
    (l.self.items ≡ l.initial.self.items ++ take l.change-index l.more) × (l.initial.self.room ≤ l.self.room + l.change-index)
