-- The planes of a setup, moved along their normals, may be turned.
use Rattle.std.proofs.Common.{ℕ, ◌+◌, ◌≤◌, ℤ, pos, neg_ℤ, ◌+ℤ◌, ◌*ℤ◌, ◌≤ℤ◌, unsigned_abs, List, map, All, arith}
use Rattle.std.proofs.lemmas.Int.{ints}
use Rattle.std.proofs.lemmas.List.Elements.{All-map}
use borrow.Author.Differences.{abs_is as size_is}
use Rattle.space.specs.Ranges.{IsBetween}
use Rattle.bern_form.proofs.Roots.{ceil_root-least}
use Rattle.ray_shapes.proofs.Products.{product_within}
use Rattle.ray_shapes.specs.Turned.{IsTurnable}
use Rattle.ray_shapes.specs.declared.plane.Plane.{Plane}
use Rattle.setup_file.specs.Limits.{most_clearance, most_normal, most_right_side}
use Rattle.setup_file.specs.Shift.{normal_length, shifted_of, shifted_plane, square_of}
use Rattle.setup_file.specs.Sound.{IsPlane}

-- a number between a limit's negative and the limit is no further from zero
within : (limit : ℕ) (z : ℤ) → IsBetween (neg_ℤ (pos limit)) (pos limit) z → unsigned_abs z ≤ limit
within limit z h =
    let least : neg_ℤ (pos limit) ≤ℤ z = h.from_least in
    let most : z ≤ℤ pos limit = h.to_most in
    let size = size_is z in
    omega (arith, ints)

small_square : (z : ℤ) → IsBetween (neg_ℤ (pos most_normal)) (pos most_normal) z → square_of z ≤ 100000000
small_square z h =
    let near : unsigned_abs z ≤ 10000 = within most_normal z h in
    grind (arith)

short : (plane : Plane) → IsPlane plane → normal_length plane ≤ 17321
short plane is =
    let a = small_square plane.a is.a_in in
    let b = small_square plane.b is.b_in in
    let c = small_square plane.c is.c_in in
    ceil_root-least (square_of plane.a + square_of plane.b + square_of plane.c) 17321 (omega (arith))

moved_side : (d by : ℤ) (n : ℕ) → IsBetween (neg_ℤ (pos most_right_side)) (pos most_right_side) d
    → IsBetween (neg_ℤ (pos most_clearance)) (pos most_clearance) by → n ≤ 17321 → unsigned_abs (d +ℤ (by *ℤ pos n)) ≤ 1000000000000000000
moved_side d by n right amount few =
    let d_least : neg_ℤ (pos most_right_side) ≤ℤ d = right.from_least in
    let d_most : d ≤ℤ pos most_right_side = right.to_most in
    let by_least : neg_ℤ (pos most_clearance) ≤ℤ by = amount.from_least in
    let by_most : by ≤ℤ pos most_clearance = amount.to_most in
    let bounds = product_within by (pos n) 100000 17321 (by_least, by_most) (omega (arith, ints), omega (arith, ints)) in
    let low = bounds.0 in
    let high = bounds.1 in
    let size = size_is (d +ℤ (by *ℤ pos n)) in
    omega (arith, ints)

turnable : (by : ℤ) (plane : Plane) → IsBetween (neg_ℤ (pos most_clearance)) (pos most_clearance) by → IsPlane plane → IsTurnable (shifted_plane by plane)
turnable by plane amount is =
    let a : unsigned_abs plane.a ≤ 10000 = within most_normal plane.a is.a_in in
    let b : unsigned_abs plane.b ≤ 10000 = within most_normal plane.b is.b_in in
    let c : unsigned_abs plane.c ≤ 10000 = within most_normal plane.c is.c_in in
    record {
      normal = (omega (arith), omega (arith), omega (arith));
      side = moved_side plane.d by (normal_length plane) is.d_in amount (short plane is);
    }

-- all planes of all bodies
pub are_turnable : (by : ℤ) (bodies : List (List Plane)) → IsBetween (neg_ℤ (pos most_clearance)) (pos most_clearance) by → All (All IsPlane) bodies
    → All (All IsTurnable) (shifted_of by bodies)
are_turnable by bodies amount are =
    All-map (All IsTurnable) (map (shifted_plane by)) bodies
    (λ k other lt. All-map IsTurnable (shifted_plane by) _ (λ n plane in_body. turnable by _ amount (are k other lt n plane in_body)))
