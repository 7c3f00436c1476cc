use Rattle.std.specs.Io.KnownBytes.{Keeps}
use Rattle.std.proofs.Common.{◌≡◌, length}
use Rattle.vf_io.proofs.retrying.read_some.Given as goal

abbrev pub invariant-loop : goal.invariant-loop
invariant-loop g l = (length l.buffer ≡ length l.fn.buffer) × Keeps (g.R.Read.remaining l.fn.reader) (g.R.Read.remaining l.reader)
