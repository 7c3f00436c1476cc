-- The last point along an axis in the code's own bits.
use Rattle.std.proofs.Common.{◌≡◌, ℕ, ◌-◌, ◌*◌, ◌≤◌, ℤ, pos, neg_ℤ, ◌+ℤ◌, ◌≤ℤ◌, unsigned_abs, to_z, of_z, w64, FitsSigned, ap, ap₂, ◌∙◌, arith}
use Rattle.std.proofs.lemmas.Int.{ints, to_z-of_z, to_z_pos}
use Rattle.space.specs.Ranges.{IsBetween, metre}
use Rattle.ray_grid.specs.Ranges.{most_nodes}
use Rattle.setup_file.specs.Grids.{points_a_node}
use Rattle.setup_file.proofs.Points.{last_within, some_points}
use borrow.Author.Differences.{abs_is as size_is}
use Rattle.std.proofs.Math.Nat.{mul-le-mul}

-- what is known of the last point's parts: n nodes, q points a node, a step of s
pub record LastFits (o : ℤ) (n q s : ℕ) : Type 0 where
  pub some : 1 ≤ n * q
  pub small : (n * q - 1) * s ≤ 400000000
  pub sum : FitsSigned w64 (to_z w64 (of_z w64 o) +ℤ to_z w64 ((n * q - 1) * s))
  pub value : to_z w64 (of_z w64 (to_z w64 (of_z w64 o) +ℤ to_z w64 ((n * q - 1) * s))) ≡ o +ℤ pos ((n * q - 1) * s)

both_some : (n q : ℕ) → 1 ≤ n → 1 ≤ q → 1 ≤ n * q
both_some n q some per = mul-le-mul some per

pub last_fits : (o p s c : ℤ) → IsBetween (neg_ℤ (pos metre)) (pos metre) o → IsBetween (pos 1) (pos metre) p → IsBetween (pos 1) p s
    → IsBetween (pos 1) (pos most_nodes) c → LastFits o (unsigned_abs c) (points_a_node p s) (unsigned_abs s)
last_fits o p s c origin pitch step count =
    let o_least : neg_ℤ (pos metre) ≤ℤ o = origin.from_least in
    let o_most : o ≤ℤ pos metre = origin.to_most in
    let p_least : pos 1 ≤ℤ p = pitch.from_least in
    let p_most : p ≤ℤ pos metre = pitch.to_most in
    let s_least : pos 1 ≤ℤ s = step.from_least in
    let s_most : s ≤ℤ p = step.to_most in
    let c_least : pos 1 ≤ℤ c = count.from_least in
    let c_most : c ≤ℤ pos most_nodes = count.to_most in
    let o_size = size_is o in
    let p_size = size_is p in
    let s_size = size_is s in
    let c_size = size_is c in
    let one : 1 ≤ unsigned_abs s = omega (arith, ints) in
    let within : unsigned_abs s ≤ unsigned_abs p = omega (arith, ints) in
    let short : unsigned_abs p ≤ 1000000 = omega (arith, ints) in
    let nodes : 1 ≤ unsigned_abs c = omega (arith, ints) in
    let few : unsigned_abs c ≤ 400 = omega (arith, ints) in
    let per = some_points (unsigned_abs p) (unsigned_abs s) one within in
    let small = last_within (unsigned_abs c) (unsigned_abs p) (unsigned_abs s) one few short in
    let far = (unsigned_abs c * points_a_node p s - 1) * unsigned_abs s in
    let o_fits : FitsSigned w64 o = omega (arith, ints) in
    let is : to_z w64 (of_z w64 o) +ℤ to_z w64 far ≡ o +ℤ pos far =
    ap₂ (λ a b. a +ℤ b) (to_z-of_z w64 o o_fits) (to_z_pos w64 far (omega arith)) in
    let sum_fits : FitsSigned w64 (o +ℤ pos far) = omega (arith, ints) in
    record {
      some = both_some (unsigned_abs c) (points_a_node p s) nodes per;
      small = small;
      sum = rw is sum_fits;
      value = ap (λ z. to_z w64 (of_z w64 z)) is ∙ to_z-of_z w64 (o +ℤ pos far) sum_fits;
    }
