-- What a mark says of a point.
use Rattle.std.specs.Prelude.{ℕ, Bool, true, false, ◌&&◌, ◌||◌, nat_eq}
use Rattle.axis_cells.specs.declared.mark.Mark.{Mark}
use Rattle.axis_cells.specs.declared.mark.Mark.TheVariants.{Clear, Possible, Removed}
use Rattle.width_bisect.specs.declared.asked.Asked.{Asked}
use Rattle.width_bisect.specs.declared.asked.Asked.TheVariants.{Sure, Whole}
use Rattle.vf_spans.specs.Words.{has_bit}

-- the point is sure to be cut
abbrev pub tells_sure : Mark → Bool
tells_sure Removed = true
tells_sure Possible = false
tells_sure Clear = false

-- it may be met
abbrev pub tells_possible : Mark → Bool
tells_possible Removed = true
tells_possible Possible = true
tells_possible Clear = false

-- bit k of the word, where a fact is reported of bit b
abbrev pub with_told : ℕ → ℕ → Bool → ℕ → Bool
with_told word b told k = has_bit word k || (nat_eq k b && told)

-- the question about a point, which may be only whether it is sure
abbrev pub asked_at : Bool → Asked
asked_at true = Sure
asked_at false = Whole
