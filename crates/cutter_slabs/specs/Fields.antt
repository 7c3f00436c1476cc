-- A number that is not below 0 is given back by its absolute value.
use Rattle.std.specs.Prelude.{◌≡◌, ℤ, pos, negsuc, ◌≤ℤ◌, unsigned_abs, refl}

pub fields_back : (z : ℤ) → pos 0 ≤ℤ z → pos (unsigned_abs z) ≡ z
fields_back (pos n) h = refl
fields_back (negsuc n) h = absurd h.le
