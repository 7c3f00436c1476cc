-- The setup of every self-test: a block of stock with a low part in one corner, on a grid of 11 by 11 by 6 nodes. Lengths are
-- micrometres.
use Rattle.std.specs.Prelude.{ℤ, pos, List, [], ◌∷◌, None}
use Rattle.ray_shapes.specs.declared.plane.Plane.{Plane}
use Rattle.setup_file.specs.Bodies.{box_planes}
use Rattle.setup_file.specs.declared.setup.Setup.{Setup}

-- the one body that is the box from the origin to a corner
abbrev pub one_box : ℤ → ℤ → ℤ → List (List Plane)
one_box x y z = box_planes (pos 0 ∷ pos 0 ∷ pos 0 ∷ x ∷ y ∷ z ∷ []) ∷ []

abbrev pub made_setup : Setup
made_setup = record {
  grid = record { origin = pos 0 ∷ pos 0 ∷ pos 0 ∷ []; pitch = pos 2000; step = pos 500; counts = 11 ∷ 11 ∷ 6 ∷ [] };
  stock = one_box (pos 30000) (pos 30000) (pos 30000);
  part = one_box (pos 21500) (pos 21500) (pos 1500);
  fixture = [];
  tolerance = pos 0;
  clearance = pos 0;
  slabs = 4;
  depth = 4;
  tool = record { d = 4000; r = 1000; h = 30000; flank = 0; base = 0 };
  turn = None;
}
