-- What a question may be: a point in micrometres, the depth of the time cells, and the number of slabs that a cutter is cut into.
use Rattle.std.specs.Prelude.{ℕ, ◌≤◌}
use Rattle.space.specs.Ranges.{IsPoint}
use Rattle.point_marks.specs.declared.question.Question.{Question}

-- the greatest depth
abbrev pub deepest : ℕ
deepest = 10

-- the most slabs
abbrev pub most_slabs : ℕ
most_slabs = 256

-- a point within a metre of the origin, a depth that isn't too great, and at least one slab and not too many
pub record IsQuestion (question : Question) : Type 0 where
  pub near : IsPoint question.point
  pub shallow : question.depth ≤ deepest
  pub some : 1 ≤ question.slabs
  pub few : question.slabs ≤ most_slabs
