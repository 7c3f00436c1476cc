use Rattle.std.proofs.Common.{◌≡◌, length, map, take, drop}
use Rattle.toml.specs.Data.{as_integer}
use Rattle.toml.specs.View.{view}
use Rattle.setup_file.specs.Reads.{all_of}
use Rattle.setup_file.proofs.Listed.{found}
use Rattle.setup_file.proofs.read.numbers_in.Given as goal

-- the numbers so far are those of the values
abbrev pub invariant-loop-i : goal.invariant-loop-i
invariant-loop-i g l = record {
  whole : length l.numbers ≡ length l.values.items;
  so_far : all_of as_integer (map view l.values.items) ≡ found (take l.i l.numbers) (all_of as_integer (drop l.i (map view l.values.items)));
}
