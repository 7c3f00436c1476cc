-- What a box holds, by the tests of reach.
use Rattle.std.proofs.Common.{◌≡◌, true, ◌&&◌, List, ℤ, pos, ◌≤ℤ◌, IsTrue, arith, refl}
use Rattle.std.specs.Prelude.{int_le}
use Rattle.std.proofs.lemmas.Int.{ints}
use Rattle.space.specs.Reach.{is_in_reach, is_near}
use Rattle.space.specs.Vectors.{at}
use Rattle.space.proofs.ReachLemmas.{decides_near, in_reach_of}
use Rattle.space.proofs.Tests.{decides_le}
use Rattle.sweep_boxes.specs.Intervals.{IsAmong}

near_within : (a b x : ℤ) → a ≤ℤ x → x ≤ℤ b → IsTrue (is_near (pos 0) a b x)
near_within a b x le ge = (decides_near (pos 0) a b x).1 (record { above = grind (arith, ints, le, ge); below = grind (arith, ints, le, ge) })

-- what lies between the ends of a box is within reach 0 of the segment from the one to the other
pub in_box_reach : (low high p : List ℤ) → IsAmong low high p → IsTrue (is_in_reach (pos 0) low high p)
in_box_reach low high p is =
    in_reach_of (pos 0) low high p (near_within (at low 0) (at high 0) (at p 0) is.x.from_least is.x.to_most)
    (near_within (at low 1) (at high 1) (at p 1) is.y.from_least is.y.to_most) (near_within (at low 2) (at high 2) (at p 2) is.z.from_least is.z.to_most)

in_order : (a b x : ℤ) → a ≤ℤ x → x ≤ℤ b → int_le a b ≡ true
in_order a b x le ge = (decides_le a b).1 (omega (arith, ints, le, ge))

-- its ends are in order
pub ends_in_order : (low high p : List ℤ) → IsAmong low high p
    → (int_le (at low 0) (at high 0) && (int_le (at low 1) (at high 1) && int_le (at low 2) (at high 2))) ≡ true
ends_in_order low high p is =
    let x = in_order (at low 0) (at high 0) (at p 0) is.x.from_least is.x.to_most in
    let y = in_order (at low 1) (at high 1) (at p 1) is.y.from_least is.y.to_most in
    let z = in_order (at low 2) (at high 2) (at p 2) is.z.from_least is.z.to_most in
    rw (x, y, z) refl
