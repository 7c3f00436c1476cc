-- A plane's right side raised, in the code's own bits.
use Rattle.std.proofs.Common.{◌≡◌, ℕ, ◌≤◌, ℤ, pos, neg_ℤ, ◌+ℤ◌, ◌*ℤ◌, ◌≤ℤ◌, to_z, of_z, w64, FitsSigned, ap, ap₂, ◌∙◌, arith}
use Rattle.std.proofs.lemmas.Int.{ints, to_z-of_z}
use Rattle.space.specs.Ranges.{IsBetween}
use Rattle.ray_shapes.proofs.Products.{product_within}
use Rattle.setup_file.specs.Bodies.{plane}
use Rattle.setup_file.specs.Limits.{most_clearance, most_right_side}

-- the product and the sum fit, and nothing is lost on the way
pub record Raises (d by f l : ℤ) (n : ℕ) : Type 0 where
  pub product : FitsSigned w64 (to_z w64 (of_z w64 f) *ℤ to_z w64 (of_z w64 l))
  pub sum : FitsSigned w64 (to_z w64 (of_z w64 d) +ℤ to_z w64 (of_z w64 (to_z w64 (of_z w64 f) *ℤ to_z w64 (of_z w64 l))))
  pub value : to_z w64 (of_z w64 (to_z w64 (of_z w64 d) +ℤ to_z w64 (of_z w64 (to_z w64 (of_z w64 f) *ℤ to_z w64 (of_z w64 l))))) ≡ d +ℤ (by *ℤ pos n)

pub raises : (d by f l : ℤ) (n : ℕ) → IsBetween (neg_ℤ (pos most_right_side)) (pos most_right_side) d → IsBetween (neg_ℤ (pos most_clearance)) (pos most_clearance) by
    → n ≤ 17321 → f ≡ by → l ≡ pos n → Raises d by f l n
raises d by f l n right amount short f_is l_is =
    let d_least : neg_ℤ (pos most_right_side) ≤ℤ d = right.from_least in
    let d_most : d ≤ℤ pos most_right_side = right.to_most in
    let by_least : neg_ℤ (pos most_clearance) ≤ℤ by = amount.from_least in
    let by_most : by ≤ℤ pos most_clearance = amount.to_most in
    let bounds = product_within by (pos n) 100000 17321 (by_least, by_most) (omega (arith, ints), omega (arith, ints)) in
    let low = bounds.0 in
    let high = bounds.1 in
    let d_fits : FitsSigned w64 d = omega (arith, ints) in
    let by_fits : FitsSigned w64 by = omega (arith, ints) in
    let n_fits : FitsSigned w64 (pos n) = omega (arith, ints) in
    let product_fits : FitsSigned w64 (by *ℤ pos n) = omega (arith, ints) in
    let sum_fits : FitsSigned w64 (d +ℤ (by *ℤ pos n)) = omega (arith, ints) in
    let factors : to_z w64 (of_z w64 f) *ℤ to_z w64 (of_z w64 l) ≡ by *ℤ pos n =
    ap₂ (λ x y. x *ℤ y) (ap (λ z. to_z w64 (of_z w64 z)) f_is ∙ to_z-of_z w64 by by_fits) (ap (λ z. to_z w64 (of_z w64 z)) l_is ∙ to_z-of_z w64 (pos n) n_fits) in
    let is : to_z w64 (of_z w64 d) +ℤ to_z w64 (of_z w64 (to_z w64 (of_z w64 f) *ℤ to_z w64 (of_z w64 l))) ≡ d +ℤ (by *ℤ pos n) =
    ap₂ (λ x y. x +ℤ y) (to_z-of_z w64 d d_fits) (ap (λ z. to_z w64 (of_z w64 z)) factors ∙ to_z-of_z w64 (by *ℤ pos n) product_fits) in
    record {
      product = rw factors product_fits;
      sum = rw is sum_fits;
      value = ap (λ z. to_z w64 (of_z w64 z)) is ∙ to_z-of_z w64 (d +ℤ (by *ℤ pos n)) sum_fits;
    }

pub same_plane : (a b c d x y z w : ℤ) → a ≡ x → b ≡ y → c ≡ z → d ≡ w → plane a b c d ≡ plane x y z w
same_plane a b c d x y z w p q r s =
    ap (λ t. plane t b c d) p ∙ ap (λ t. plane x t c d) q ∙ ap (λ t. plane x y t d) r ∙ ap (λ t. plane x y z t) s
