use Rattle.std.proofs.Common.{◌≡◌, All, take, drop}
use Rattle.space.specs.Ranges.{IsBetween}
use Rattle.setup_file.specs.Reads.{each, ranged}
use Rattle.setup_file.proofs.Listed.{joined}
use Rattle.setup_file.proofs.read.all_ranged.Given as goal

-- the numbers so far are within the range
abbrev pub invariant-loop-number : goal.invariant-loop-number
invariant-loop-number l = record {
  so_far : each (ranged l.key l.least l.most) l.numbers ≡ joined (take l.number-index l.numbers) (each (ranged l.key l.least l.most) (drop l.number-index l.numbers));
  in_range : All (IsBetween l.least l.most) (take l.number-index l.numbers);
}
