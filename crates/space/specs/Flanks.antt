-- The flank angles of conical cutters that are read, and how wide such a cutter is. The flank leans outwards by the angle from
-- the tool axis, so at the height x the cutter's radius is half its diameter and x times the angle's tangent. The tangent is
-- held between two whole numbers of millionths. Lengths are micrometres, angles whole degrees.
use Rattle.std.specs.Prelude.{ℕ, ◌+◌, ◌*◌, ◌/◌, ◌==◌, Bool, List, [], ◌∷◌, find, is_some}
use Rattle.std.specs.Option.{option_map_or}
use Rattle.space.specs.declared.flank.Flank.{Flank}

-- an angle, with its tangent's lower and upper bound
abbrev pub flank : ℕ → ℕ → ℕ → Flank
flank degrees lower upper = record { degrees = degrees; lower = lower; upper = upper }

-- the angles that are read; 0 is the cylinder, and the tangent of 45 degrees is 1
abbrev pub flanks : List Flank
flanks =
    flank 0 0 0 ∷ flank 1 17455 17456 ∷ flank 2 34920 34921 ∷ flank 3 52407 52408 ∷ flank 5 87488 87489
    ∷ flank 10 176326 176327 ∷ flank 15 267949 267950 ∷ flank 30 577350 577351 ∷ flank 45 1000000 1000000 ∷ []

-- the angle is one of them
abbrev pub is_flank : ℕ → Bool
is_flank degrees = is_some (find (λ f. f.degrees == degrees) flanks)

-- the bounds of an angle's tangent in millionths: 0 for an angle that isn't read
abbrev pub lower_tangent : ℕ → ℕ
lower_tangent degrees = option_map_or (λ f. f.lower) (find (λ f. f.degrees == degrees) flanks) 0

abbrev pub upper_tangent : ℕ → ℕ
upper_tangent degrees = option_map_or (λ f. f.upper) (find (λ f. f.degrees == degrees) flanks) 0

-- how much a cutter widens up to the height x, on one side: in whole micrometres, rounded down and up
abbrev pub least_widening : ℕ → ℕ → ℕ
least_widening degrees x = x * lower_tangent degrees / 1000000

abbrev pub most_widening : ℕ → ℕ → ℕ
most_widening degrees x = (x * upper_tangent degrees + 999999) / 1000000

-- the diameter at the top of a cutter of the diameter d at its tip and the height h
abbrev pub top_of : ℕ → ℕ → ℕ → ℕ
top_of d h degrees = d + 2 * most_widening degrees h
