use Rattle.std.proofs.Common.{◌≡◌, ◌≤ℤ◌, ◌*ℤ◌, arith}
use Rattle.std.proofs.lemmas.Int.{ints, to_z-of_z}
use Rattle.sweep_boxes.proofs.Numbers.{product_anti, product_mono}
use Rattle.space.proofs.Words.{fits_of}
use Rattle.sweep_boxes.proofs.side.most_along.Goals as goal

pub returns-then-a-lt0-clause-value : goal.returns-then-a-lt0-clause-value
returns-then-a-lt0-clause-value c u l h =
    let a = c.ranges.a in let r = c.height_along in let k = c.ranges.least in
    let f = fits_of r.result r.type_inv in
    let is : r.result ≡ c.args.least *ℤ c.args.a = simp to_z-of_z at r.ensures.value in
    let other : (u *ℤ c.args.a) ≤ℤ (c.args.least *ℤ c.args.a) = product_anti c.args.a c.args.least u (omega (arith, ints, a, c.if-a-lt0.true)) l in
    simp to_z-of_z (omega (arith, ints, other, is))

pub returns-else-a-lt0-clause-value : goal.returns-else-a-lt0-clause-value
returns-else-a-lt0-clause-value c u l h =
    let a = c.ranges.a in let r = c.height_along-else-a-lt0 in let k = c.ranges.most in
    let f = fits_of r.result r.type_inv in
    let is : r.result ≡ c.args.most *ℤ c.args.a = simp to_z-of_z at r.ensures.value in
    let other : (u *ℤ c.args.a) ≤ℤ (c.args.most *ℤ c.args.a) = product_mono c.args.a u c.args.most (omega (arith, ints, a, c.if-a-lt0.false)) h in
    simp to_z-of_z (omega (arith, ints, other, is))
