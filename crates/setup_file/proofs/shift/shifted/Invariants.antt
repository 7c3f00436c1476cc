use Rattle.std.proofs.Common.{◌≡◌, take}
use Rattle.setup_file.specs.Shift.{shifted_of}
use Rattle.setup_file.proofs.shift.shifted.Given as goal

-- the bodies so far are raised
abbrev pub invariant-loop-body : goal.invariant-loop-body
invariant-loop-body l = l.raised.items ≡ shifted_of l.by (take l.body-index l.bodies)
