use Rattle.std.proofs.Common.{◌≡◌, ◌≤◌, ◌-◌, max}
use Rattle.turn_core.proofs.turning.raise.Given as goal

abbrev pub invariant-loop-strip : goal.invariant-loop-strip
invariant-loop-strip l = record {
  job : l.strip.job ≡ l.initial.strip.job;
  number : l.strip.number ≡ l.initial.strip.number;
  later : l.initial.strip.done ≤ l.strip.done;
  most : l.strip.done ≤ max l.initial.strip.done l.version;
}

abbrev pub decreases-loop-strip : goal.decreases-loop-strip
decreases-loop-strip l = l.version - l.strip.done
