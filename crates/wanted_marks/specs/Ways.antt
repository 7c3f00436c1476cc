-- Points along a line, and the offsets of them from the tip of a cutter. All lengths are taken times a scale.
use Rattle.std.specs.Prelude.{◌≡◌, List, [], ◌∷◌, ℤ, ◌+ℤ◌, ◌*ℤ◌, ◌-ℤ◌}
use Rattle.space.specs.Vectors.{at}

-- p is l steps from s, where one step is the way from the first point to the next
pub record IsAlong (s first next p : List ℤ) (l : ℤ) : Type 0 where
  pub x : at p 0 ≡ at s 0 +ℤ l *ℤ (at next 0 -ℤ at first 0)
  pub y : at p 1 ≡ at s 1 +ℤ l *ℤ (at next 1 -ℤ at first 1)
  pub z : at p 2 ≡ at s 2 +ℤ l *ℤ (at next 2 -ℤ at first 2)

-- the scale times the way from one point to another
abbrev pub scaled_way : ℤ → List ℤ → List ℤ → List ℤ
scaled_way s f t = (s *ℤ at t 0 -ℤ s *ℤ at f 0) ∷ (s *ℤ at t 1 -ℤ s *ℤ at f 1) ∷ (s *ℤ at t 2 -ℤ s *ℤ at f 2) ∷ []

-- the scale times a vector
abbrev pub scaled_vector : ℤ → List ℤ → List ℤ
scaled_vector s v = (s *ℤ at v 0) ∷ (s *ℤ at v 1) ∷ (s *ℤ at v 2) ∷ []
