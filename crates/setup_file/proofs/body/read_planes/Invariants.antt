use Rattle.std.proofs.Common.{◌≡◌, All, length, map, drop}
use Rattle.toml.specs.View.{view}
use Rattle.setup_file.specs.Bodies.{plane_of}
use Rattle.setup_file.specs.Reads.{each}
use Rattle.setup_file.specs.Sound.{IsPlane}
use Rattle.setup_file.proofs.Listed.{joined}
use Rattle.setup_file.proofs.body.read_planes.Given as goal

-- the planes so far are those of the values
abbrev pub invariant-loop-item : goal.invariant-loop-item
invariant-loop-item l = record {
  so_far : each (plane_of l.key) (map view l.item-items) ≡ joined l.planes.items (each (plane_of l.key) (drop l.item-index (map view l.item-items)));
  many : length l.planes.items ≡ l.item-index;
  in_range : All IsPlane l.planes.items;
}
