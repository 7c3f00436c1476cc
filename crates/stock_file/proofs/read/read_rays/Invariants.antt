use Rattle.std.proofs.Common.{◌≡◌, ◌+◌, ◌≤◌, length}
use Rattle.vf_io.specs.Pieces.{pieces_of}
use Rattle.stock_file.specs.Limits.{most_stock_bytes}
use Rattle.stock_file.specs.Reading.{stock_from}
use Rattle.stock_file.proofs.read.read_rays.Given as goal

-- the lines that are left, with the sets that were read, make the stock
abbrev pub invariant-loop-rest : goal.invariant-loop-rest
invariant-loop-rest l = record {
  same : stock_from l.grid l.number l.next (pieces_of l.rest) l.stock.sets ≡ stock_from l.fn.empty.grid 3 0 (pieces_of l.text) l.fn.empty.sets;
  grid : l.stock.grid ≡ l.grid;
  small : l.number + length l.rest ≤ most_stock_bytes + 3;
}

abbrev pub decreases-loop-rest : goal.decreases-loop-rest
decreases-loop-rest l = length l.rest
