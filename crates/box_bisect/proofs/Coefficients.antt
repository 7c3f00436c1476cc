-- The coefficients of a form are small, read again from their bits too.
use Rattle.std.proofs.Common.{◌≤◌, ◌*◌, ℤ, to_z, of_z, unsigned_abs, arith}
use mir.Syntax.{w128}
use Rattle.bern_form.specs.Sizes.{offset_limit}
use Rattle.space.proofs.Reread.{small_back}

-- the first and the last
pub end_small : (z : ℤ) → unsigned_abs z ≤ 3 * (offset_limit * offset_limit) → unsigned_abs (to_z w128 (of_z w128 z)) ≤ 3 * (offset_limit * offset_limit)
end_small z h = small_back w128 z (3 * (offset_limit * offset_limit)) (omega arith) h

-- the one between
pub middle_small : (z : ℤ) → unsigned_abs z ≤ 2 * (3 * (offset_limit * offset_limit)) → unsigned_abs (to_z w128 (of_z w128 z)) ≤ 6 * (offset_limit * offset_limit)
middle_small z h = small_back w128 z (2 * (3 * (offset_limit * offset_limit))) (omega arith) h
