-- Every generated move is a valid one.
use Rattle.std.proofs.Common.{◌≡◌, ℕ, ◌+◌, ◌*◌, ◌^◌, ◌<◌, ◌≤◌, ◌&&◌, zero, suc, Bool, true, false, List, ℤ, pos, ◌-ℤ◌, ◌+ℤ◌, ◌*ℤ◌, int_lt, unsigned_abs, refl, arith}
use Rattle.std.specs.Ordering.{int_eq}
use Rattle.std.proofs.lemmas.Int.{ints}
use Rattle.space.specs.Ranges.{IsWithin, axis_unit, metre}
use Rattle.space.specs.Vectors.{are_opposite, at, dot, is_zero}
use Rattle.space.proofs.Naturals.{abs_mul}
use Rattle.cl_moves.specs.Moves.{IsMove}
use Rattle.made_program.specs.Draws.{draw}
use Rattle.made_program.specs.Made.{made_move, place_after, place_by}
use Rattle.made_program.specs.declared.place.Place.{Place}

-- how far the axis of a place may lean along x and along y
abbrev most_lean : ℕ
most_lean = 16384

-- a tip within a metre, and an axis that leans little from z
record IsPlace (place : Place) : Type 0 where
  tip : IsWithin metre place.tip
  along_x : unsigned_abs (at place.axis 0) ≤ most_lean
  along_y : unsigned_abs (at place.axis 1) ≤ most_lean
  upright : at place.axis 2 ≡ pos axis_unit

-- a draw has 15 bits
draw_small : (n state : ℕ) → 0 < n → draw n state < 2 ^ 15
draw_small zero state some = absurd (omega (arith, some))
draw_small (suc n) state some = omega arith

lean : (p : ℕ) → p < 2 ^ 15 → unsigned_abs (pos p -ℤ pos 16384) ≤ most_lean
lean p small = omega (arith, ints, small)

placed : (a b c p q : ℕ) → p < 2 ^ 15 → q < 2 ^ 15 → IsPlace (place_by a b c p q)
placed a b c p q along_x along_y = record {
  tip = (omega arith, omega arith, omega arith);
  along_x = lean p along_x;
  along_y = lean q along_y;
  upright = refl;
}

place_valid : (number i : ℕ) → IsPlace (place_after number i)
unfolding place_after
place_valid number zero = record { tip = (omega arith, omega arith, omega arith); along_x = omega arith; along_y = omega arith; upright = refl }
place_valid number (suc i) =
    placed (draw (5 * i + 1) number) (draw (5 * i + 2) number) (draw (5 * i + 3) number) (draw (5 * i + 4) number) (draw (5 * i + 5) number)
    (draw_small (5 * i + 4) number (omega arith)) (draw_small (5 * i + 5) number (omega arith))

-- of tests that all have to hold, the last one fails
last_fails : (a b c d : Bool) → d ≡ false → (a && (b && (c && d))) ≡ false
last_fails true true true d fails = fails
last_fails true true false d fails = refl
last_fails true false c d fails = refl
last_fails false b c d fails = refl

axis_some : (v : List ℤ) → at v 2 ≡ pos axis_unit → is_zero v ≡ false
axis_some v upright = last_fails true (int_eq (at v 0) (pos 0)) (int_eq (at v 1) (pos 0)) (int_eq (at v 2) (pos 0)) (rw upright refl)

axis_within : (v : List ℤ) → unsigned_abs (at v 0) ≤ most_lean → unsigned_abs (at v 1) ≤ most_lean → at v 2 ≡ pos axis_unit → IsWithin axis_unit v
axis_within v along_x along_y upright = (omega (arith, along_x), omega (arith, along_y), rw upright (omega arith))

-- two axes that lean little have a scalar product that isn't negative
not_against : (x y : ℤ) → unsigned_abs x ≤ most_lean * most_lean → unsigned_abs y ≤ most_lean * most_lean
    → int_lt ((x +ℤ y) +ℤ pos axis_unit *ℤ pos axis_unit) (pos 0) ≡ false
not_against x y small_x small_y = grind (arith, ints)

axes_apart : (f t : List ℤ) → unsigned_abs (at f 0) ≤ most_lean → unsigned_abs (at f 1) ≤ most_lean → at f 2 ≡ pos axis_unit
    → unsigned_abs (at t 0) ≤ most_lean → unsigned_abs (at t 1) ≤ most_lean → at t 2 ≡ pos axis_unit → are_opposite f t ≡ false
axes_apart f t fx fy fz tx ty tz =
    last_fails (int_eq (at f 1 *ℤ at t 2) (at f 2 *ℤ at t 1)) (int_eq (at f 2 *ℤ at t 0) (at f 0 *ℤ at t 2)) (int_eq (at f 0 *ℤ at t 1) (at f 1 *ℤ at t 0)) (int_lt (dot f t) (pos 0))
    (rw (fz, tz) (not_against (at f 0 *ℤ at t 0) (at f 1 *ℤ at t 1) (abs_mul (at f 0) (at t 0) most_lean most_lean fx tx) (abs_mul (at f 1) (at t 1) most_lean most_lean fy ty)))

-- so is each move
pub move_valid : (number i : ℕ) → IsMove (made_move number i)
move_valid number i =
    let a = place_valid number i in
    let b = place_valid number (i + 1) in
    record {
      sweep = record {
        from = a.tip;
        to = b.tip;
        axis_from = axis_within (place_after number i).axis a.along_x a.along_y a.upright;
        axis_to = axis_within (place_after number (i + 1)).axis b.along_x b.along_y b.upright;
        first_axis = axis_some (place_after number i).axis a.upright;
        last_axis = axis_some (place_after number (i + 1)).axis b.upright;
        apart = axes_apart (place_after number i).axis (place_after number (i + 1)).axis a.along_x a.along_y a.upright b.along_x b.along_y b.upright;
      };
      cutter = tt;
    }
