-- How the number parameters of each record are read, and their ranges. Lengths are micrometres, the others 1/100,000.
use Rattle.std.specs.Prelude.{ℕ, pos, neg_ℤ, List, [], ◌∷◌}
use Rattle.space.specs.Ranges.{axis_unit, metre}
use Rattle.cl_records.specs.declared.kind.Kind.{Kind}
use Rattle.cl_records.specs.declared.kind.Kind.TheVariants.{Length, Scaled}

-- as far as a number may be from zero, to both sides
abbrev pub length_within : ℕ → Kind
length_within most = Length (neg_ℤ (pos most)) (pos most)

abbrev pub scaled_within : ℕ → Kind
scaled_within most = Scaled (neg_ℤ (pos most)) (pos most)

-- a coordinate is within a metre of the origin, a component of an axis within 1
abbrev pub coordinate : Kind
coordinate = length_within metre

abbrev pub component : Kind
component = scaled_within axis_unit

-- a tip, and the axis after it
abbrev pub position_kinds : List Kind
position_kinds = coordinate ∷ coordinate ∷ coordinate ∷ component ∷ component ∷ component ∷ []

-- how many numbers a tip has, and a tip with an axis
abbrev pub tip_count : ℕ
tip_count = 3

abbrev pub position_count : ℕ
position_count = 6

-- the longest distance along an axis: from one end of the range of coordinates to the other
abbrev pub longest_distance : ℕ
longest_distance = 2000000

abbrev pub distance : Kind
distance = length_within longest_distance

abbrev pub delta_kinds : List Kind
delta_kinds = distance ∷ distance ∷ distance ∷ []

abbrev pub delta_count : ℕ
delta_count = 3

-- the greatest diameter of a cutter, at its tip and at its top
abbrev pub widest : ℕ
widest = 200000

abbrev pub largest_corner : ℕ
largest_corner = 100000

-- how far the corner's centre may be from the axis, and above the tip
abbrev pub farthest_centre : ℕ
farthest_centre = 200000

abbrev pub tallest : ℕ
tallest = 300000

-- 90 degrees in 1/100,000
abbrev pub right_angle : ℕ
right_angle = 9000000

abbrev pub angle : Kind
angle = scaled_within right_angle

-- d, r, e, f, a, b, h
abbrev pub cutter_kinds : List Kind
cutter_kinds =
    Length (pos 1) (pos widest) ∷ Length (pos 0) (pos largest_corner)
    ∷ Length (pos 0) (pos farthest_centre) ∷ Length (pos 0) (pos farthest_centre)
    ∷ angle ∷ angle ∷ Length (pos 1) (pos tallest) ∷ []

-- how many numbers a cutter has
abbrev pub fewest_sizes : ℕ
fewest_sizes = 1

abbrev pub most_sizes : ℕ
most_sizes = 7
