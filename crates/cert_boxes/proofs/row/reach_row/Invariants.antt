use Rattle.std.proofs.Common.{◌≡◌, ℕ, ◌+◌, ◌-◌, [], get_or, length}
use Rattle.cert_boxes.proofs.row.reach_row.Given as goal

-- the rows that were added are empty
abbrev pub invariant-loop-alloc : goal.invariant-loop-alloc
invariant-loop-alloc l = (n : ℕ) → get_or l.rows.items n [] ≡ get_or l.initial.rows.items n []

abbrev pub decreases-loop-alloc : goal.decreases-loop-alloc
decreases-loop-alloc l = (l.number + 1) - length l.rows.items
