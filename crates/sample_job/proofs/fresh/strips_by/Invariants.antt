use Rattle.std.proofs.Common.{◌≡◌, ℕ, Some, length, slice_get}
use Rattle.strip_journal.specs.Strips.{StripOf}
use Rattle.sample_job.proofs.fresh.strips_by.Given as goal

abbrev pub invariant-loop-number : goal.invariant-loop-number
invariant-loop-number g l = record {
  many : length l.strips.items ≡ l.number;
  plans : (k : ℕ) (s : StripOf) → slice_get l.strips.items k ≡ Some s → s.job.plan ≡ l.plan;
  numbers : (k : ℕ) (s : StripOf) → slice_get l.strips.items k ≡ Some s → s.number ≡ k;
}
