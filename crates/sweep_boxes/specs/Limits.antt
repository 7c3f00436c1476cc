-- How large the numbers can be.
use Rattle.std.specs.Prelude.{ℕ}

-- the most parts that a move is cut into, as a power of two
abbrev pub most_level : ℕ
most_level = 6

-- no component of the side that a breadth is measured along is greater
abbrev pub side_component_limit : ℕ
side_component_limit = 8

-- no coordinate of a box is further from zero: a micrometre more than a metre, for boxes that hold no point
abbrev pub place_limit : ℕ
place_limit = 1000001
