use Rattle.std.proofs.Common.{◌≡◌, ◌==◌, drop, find}
use Rattle.space.proofs.flank.find_in.Given as goal

abbrev pub invariant-loop-flank : goal.invariant-loop-flank
invariant-loop-flank l = find (λ f. f.degrees == l.degrees) (drop l.flank-index l.table) ≡ find (λ f. f.degrees == l.degrees) l.table
