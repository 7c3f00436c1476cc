use Rattle.std.proofs.Common.{◌≡◌, All, length, map, drop}
use Rattle.toml.specs.View.{view}
use Rattle.setup_file.specs.Bodies.{body_of}
use Rattle.setup_file.specs.Reads.{each}
use Rattle.setup_file.specs.Sound.{IsBody}
use Rattle.setup_file.proofs.Listed.{joined}
use Rattle.setup_file.proofs.bodies.read_bodies.Given as goal

-- the bodies so far are those of the values
abbrev pub invariant-loop-item : goal.invariant-loop-item
invariant-loop-item l = record {
  so_far : each (body_of l.list) (map view l.item-items) ≡ joined l.bodies.items (each (body_of l.list) (drop l.item-index (map view l.item-items)));
  many : length l.bodies.items ≡ l.item-index;
  in_range : All IsBody l.bodies.items;
}
