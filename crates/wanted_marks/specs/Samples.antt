-- A point at a sample of a move.
use Rattle.std.specs.Prelude.{◌≡◌, ℕ, ◌^◌, List, ℤ, pos, ◌*ℤ◌}
use Rattle.space.specs.Sweeps.{axis_at, offset_at}
use Rattle.space.specs.Vectors.{dot, spread}
use Rattle.width_bisect.specs.declared.sample.Sample.{Sample}
use Rattle.wanted_marks.specs.Rays.{MoveOf}

-- u and the width of the point p at the sample k, and n
abbrev pub sample_u : MoveOf → List ℤ → ℕ → ℤ
sample_u v p k = let S = pos (2 ^ v.depth) in dot (offset_at v.sweep p (pos k) S) (axis_at v.sweep (pos k) S)

abbrev pub sample_width : MoveOf → List ℤ → ℕ → ℤ
sample_width v p k = let S = pos (2 ^ v.depth) in pos 4 *ℤ spread (offset_at v.sweep p (pos k) S) (axis_at v.sweep (pos k) S)

abbrev pub sample_n : MoveOf → ℕ → ℤ
sample_n v k = let S = pos (2 ^ v.depth) in dot (axis_at v.sweep (pos k) S) (axis_at v.sweep (pos k) S)

-- it is the sample k of the move for the point p
pub record IsSampleOf (sample : Sample) (v : MoveOf) (p : List ℤ) (k : ℕ) : Type 0 where
  pub scale_is : sample.scale ≡ 2 ^ v.depth
  pub u_is : sample.u ≡ sample_u v p k
  pub n_is : sample.n ≡ sample_n v k
  pub width_is : sample.width ≡ sample_width v p k

-- it is the sample k of the move for some point
pub record IsSampleAt (sample : Sample) (v : MoveOf) (k : ℕ) : Type 0 where
  pub scale_is : sample.scale ≡ 2 ^ v.depth
  pub n_is : sample.n ≡ sample_n v k

-- the first sample of the move, and the last one
abbrev pub IsFirstOf : Sample → MoveOf → List ℤ → Type 0
IsFirstOf sample v p = IsSampleOf sample v p 0

abbrev pub IsAtFirst : Sample → MoveOf → Type 0
IsAtFirst sample v = IsSampleAt sample v 0

abbrev pub IsLastOf : Sample → MoveOf → List ℤ → Type 0
IsLastOf sample v p = IsSampleOf sample v p (2 ^ v.depth)

abbrev pub IsAtLast : Sample → MoveOf → Type 0
IsAtLast sample v = IsSampleAt sample v (2 ^ v.depth)
