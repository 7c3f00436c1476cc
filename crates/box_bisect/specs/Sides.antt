-- The two sides of a limit.
use Rattle.std.specs.Prelude.{Bool, List, ℤ, int_lt}
use Rattle.bern_form.specs.Forms.{all_negative, all_positive}
use Rattle.box_bisect.specs.declared.compare.Side.{Side}
use Rattle.box_bisect.specs.declared.compare.Side.TheVariants.{Above, Below}

-- a number is on that side of another
abbrev pub is_on : Side → ℤ → ℤ → Bool
is_on Below a b = int_lt a b
is_on Above a b = int_lt b a

-- every coefficient is on that side of 0
abbrev pub all_on : Side → List ℤ → Bool
all_on Below c = all_negative c
all_on Above c = all_positive c
