-- The two sides of a limit, along a ray and in time.
use Rattle.std.specs.Prelude.{ℕ, ◌*◌, Bool, List, [], ◌∷◌, ℤ, pos, ◌*ℤ◌, ◌-ℤ◌}
use Rattle.std.specs.List.{list_all}
use Rattle.bern_form.specs.Forms.{all_negative, all_positive}
use Rattle.bern_form.specs.Sizes.{axis_limit, length_limit}
use Rattle.cert_boxes.specs.declared.side.Side.{Side}
use Rattle.cert_boxes.specs.declared.side.Side.TheVariants.{Above, Below}

-- a limit times a coefficient of n raised to degree 4
abbrev pub limit_bound : ℕ
limit_bound = length_limit * length_limit * (18 * (axis_limit * axis_limit))

-- every number is on that side of 0
abbrev pub are_all_on : Side → List ℤ → Bool
are_all_on Below c = all_negative c
are_all_on Above c = all_positive c

-- so is every number of every row
abbrev pub rows_on : Side → List (List ℤ) → Bool
rows_on side c = list_all (are_all_on side) c

-- what three numbers are more than a number, its double and it again is on that side of 0
abbrev pub is_row_on : Side → ℤ → ℤ → ℤ → ℤ → Bool
is_row_on side a b c once = are_all_on side ((a -ℤ once) ∷ (b -ℤ pos 2 *ℤ once) ∷ (c -ℤ once) ∷ [])
