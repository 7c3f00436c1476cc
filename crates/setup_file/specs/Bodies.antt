-- The lists of bodies `stock`, `part` and `fixture`: what each sets, or its first fault. Lengths are micrometres.
use Rattle.std.specs.Prelude.{ℕ, ◌+◌, ℤ, pos, neg_ℤ, int_le, not, true, false, if◌then◌else◌}
use Rattle.std.specs.Prelude.{List, [], ◌∷◌, length, Option, Some, None, Result, Ok, Err}
use Rattle.toml.specs.Data.{Data, Members, as_table}
use Rattle.space.specs.Ranges.{metre}
use Rattle.space.specs.Vectors.{at, is_zero}
use Rattle.ray_shapes.specs.declared.plane.Plane.{Plane}
use Rattle.setup_file.specs.declared.body_list.BodyList.{BodyList}
use Rattle.setup_keys.specs.declared.fault.SetupFault.{SetupFault}
use Rattle.setup_keys.specs.declared.fault.SetupFault.TheVariants.{SetupKey}
use Rattle.setup_keys.specs.declared.key.KeyName.{KeyName}
use Rattle.setup_keys.specs.declared.key.KeyName.TheVariants as keys
use Rattle.setup_file.specs.Grids.{axes}
use Rattle.setup_file.specs.Limits.{most_normal, most_other_bodies, most_planes, most_right_side, most_stock_bodies}
use Rattle.setup_file.specs.Reads.{◌>>=◌, all_of, each, entry_at, list_in, numbers_in, of_kind, only_if, ranged}

-- the lists: their keys, how many bodies each has, and whether it has to be there
abbrev pub stock_list : BodyList
stock_list = record {
  key = keys.Stock;
  box_key = keys.StockBox;
  planes_key = keys.StockPlanes;
  least = 1;
  most = most_stock_bodies;
  required = true;
}

abbrev pub part_list : BodyList
part_list = record {
  key = keys.Part;
  box_key = keys.PartBox;
  planes_key = keys.PartPlanes;
  least = 0;
  most = most_other_bodies;
  required = false;
}

abbrev pub fixture_list : BodyList
fixture_list = record {
  key = keys.Fixture;
  box_key = keys.FixtureBox;
  planes_key = keys.FixturePlanes;
  least = 0;
  most = most_other_bodies;
  required = false;
}

-- the points with a x + b y + c z <= d
abbrev pub plane : ℤ → ℤ → ℤ → ℤ → Plane
plane a b c d = record { a = a; b = b; c = c; d = d }

-- the six planes of a box between the ends x0, y0, z0, x1, y1, z1: x <= x1 and -x <= -x0, then y and z
abbrev pub box_planes : List ℤ → List Plane
box_planes ends =
    plane (pos 1) (pos 0) (pos 0) (at ends 3) ∷ plane (neg_ℤ (pos 1)) (pos 0) (pos 0) (neg_ℤ (at ends 0))
    ∷ plane (pos 0) (pos 1) (pos 0) (at ends 4) ∷ plane (pos 0) (neg_ℤ (pos 1)) (pos 0) (neg_ℤ (at ends 1))
    ∷ plane (pos 0) (pos 0) (pos 1) (at ends 5) ∷ plane (pos 0) (pos 0) (neg_ℤ (pos 1)) (neg_ℤ (at ends 2)) ∷ []

-- the second end of a box along an axis, which is at least the first
abbrev pub end_along : KeyName → List ℤ → ℕ → Result ℤ SetupFault
end_along key ends axis = only_if (int_le (at ends axis) (at ends (axis + 3))) key (at ends (axis + 3))

-- a box: six whole numbers, all of them coordinates
unfoldable pub box_of : KeyName → Data → Result (List Plane) SetupFault
box_of key value = do
  numbers ← of_kind key (numbers_in 6 value)
  ends ← each (ranged key (neg_ℤ (pos metre)) (pos metre)) numbers
  _ ← each (end_along key ends) axes
  Ok (box_planes ends)

-- the plane of four numbers a, b, c, d, of which not all of a, b, c are 0
unfoldable pub plane_by : KeyName → List ℤ → Result Plane SetupFault
plane_by key numbers = do
  a ← ranged key (neg_ℤ (pos most_normal)) (pos most_normal) (at numbers 0)
  b ← ranged key (neg_ℤ (pos most_normal)) (pos most_normal) (at numbers 1)
  c ← ranged key (neg_ℤ (pos most_normal)) (pos most_normal) (at numbers 2)
  d ← ranged key (neg_ℤ (pos most_right_side)) (pos most_right_side) (at numbers 3)
  _ ← only_if (not (is_zero numbers)) key (pos 0)
  Ok (plane a b c d)

-- a plane: four whole numbers
unfoldable pub plane_of : KeyName → Data → Result Plane SetupFault
plane_of key value = of_kind key (numbers_in 4 value) >>= plane_by key

-- a number of items in a list
abbrev pub as_many : {A : Type 0} → KeyName → ℕ → ℕ → List A → Result ℤ SetupFault
as_many key least most items = ranged key (pos least) (pos most) (pos (length items))

-- planes: from 1 to 64 of them
unfoldable pub planes_of : KeyName → Data → Result (List Plane) SetupFault
planes_of key value = do
  values ← of_kind key (list_in value)
  _ ← as_many key 1 most_planes values
  each (plane_of key) values

-- a body by the values at `box` and at `planes`, of which there is exactly one
abbrev pub body_by : BodyList → Option Data → Option Data → Result (List Plane) SetupFault
body_by list (Some value) None = box_of list.box_key value
body_by list None (Some value) = planes_of list.planes_key value
body_by list _ _ = Err (SetupKey list.key)

-- a body: a table
abbrev pub body_of : BodyList → Data → Result (List Plane) SetupFault
body_of list value = do
  table ← of_kind list.key (as_table value)
  body_by list (entry_at list.box_key table) (entry_at list.planes_key table)

-- the bodies of a list: that all of its items are tables is judged first, then how many there are, then each
unfoldable pub bodies_of : BodyList → Data → Result (List (List Plane)) SetupFault
bodies_of list value = do
  values ← of_kind list.key (list_in value)
  _ ← of_kind list.key (all_of as_table values)
  _ ← as_many list.key list.least list.most values
  each (body_of list) values

-- the bodies of a list of the setup; where it isn't there, it has none
abbrev pub bodies_by : BodyList → Option Data → Result (List (List Plane)) SetupFault
bodies_by list None = if list.required then Err (SetupKey list.key) else Ok []
bodies_by list (Some value) = bodies_of list value

abbrev pub bodies_at : BodyList → Members → Result (List (List Plane)) SetupFault
bodies_at list setup = bodies_by list (entry_at list.key setup)
