-- A grid by plain numbers. Lengths are micrometres.
use Rattle.std.specs.Prelude.{ℕ, ℤ, List}

-- where the first node of each axis lies, how far nodes and points are apart, and how many nodes each axis has
pub record GridSize : Type 0 where
  pub origin : List ℤ
  pub pitch : ℤ
  pub step : ℤ
  pub counts : List ℕ
