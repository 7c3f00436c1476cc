-- Tool axes: the test for opposite ones, and the axis at the start.
use Rattle.std.proofs.Common.{◌≡◌, ◌&&◌, Bool, true, false, arith, refl}
use Rattle.cl_records.specs.Ranges.{IsToolAxis}
use Rattle.cl_moves.specs.Axes.{upright}

-- the last of four tests may be judged first
pub last_first : (a b c d : Bool) → (d && (a && (b && c))) ≡ (a && (b && (c && d)))
last_first true true true true = refl
last_first true true true false = refl
last_first true true false true = refl
last_first true true false false = refl
last_first true false c true = refl
last_first true false c false = refl
last_first false b c true = refl
last_first false b c false = refl

-- the axis at the start is one
pub upright_axis : IsToolAxis upright
upright_axis = record { within = (omega arith, omega arith, omega arith); some = refl }
