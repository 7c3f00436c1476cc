use Rattle.std.proofs.Common.{◌≡◌, ◌+◌, ◌≤◌, length}
use Rattle.vf_io.specs.Pieces.{pieces_of}
use Rattle.cert_lines.specs.Limits.{most_cert_bytes}
use Rattle.cert_lines.specs.Reading.{cert_from, cert_of}
use Rattle.cert_lines.proofs.cert.read_cert.Given as goal

-- the lines that are left make the certificate of what was read so far
abbrev pub invariant-loop-rest : goal.invariant-loop-rest
invariant-loop-rest l = record {
  same : cert_from l.grid l.number (pieces_of l.rest) l.reading ≡ cert_of l.grid l.bytes;
  small : l.number + length l.rest ≤ most_cert_bytes + 1;
}

abbrev pub decreases-loop-rest : goal.decreases-loop-rest
decreases-loop-rest l = length l.rest
