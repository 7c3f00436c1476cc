-- Which end of a range gives the product that bounds the others, and how large it is.
use Rattle.std.proofs.Common.{◌≤ℤ◌, ◌*ℤ◌, FitsSigned, arith, rules}
use Rattle.std.proofs.lemmas.Int.{ints}
use mir.Syntax.{w128}
use borrow.Author.Differences.{abs_is}
use Rattle.space.specs.Vectors.{at}
use Rattle.sweep_boxes.proofs.Numbers.{product_anti, product_mono}
use Rattle.space.proofs.Words.{kept_small}
use Rattle.sweep_boxes.proofs.offsets.least_product.Goals as goal

pub returns-then-a-i-lt0-clause-value : goal.returns-then-a-i-lt0-clause-value
returns-then-a-i-lt0-clause-value c z l h =
    let a : FitsSigned w128 (at c.args.a.now c.args.i) = search rules in
    let other : (at c.args.high.now c.args.i *ℤ at c.args.a.now c.args.i) ≤ℤ (z *ℤ at c.args.a.now c.args.i) = product_anti (at c.args.a.now c.args.i) z (at c.args.high.now c.args.i) (omega (arith, ints, a, c.if-a-i-lt0.true)) h in
    omega (arith, ints, other, c.product.ensures.value, c.product.ensures.small, abs_is c.product.result)

pub returns-else-a-i-lt0-clause-value : goal.returns-else-a-i-lt0-clause-value
returns-else-a-i-lt0-clause-value c z l h =
    let a : FitsSigned w128 (at c.args.a.now c.args.i) = search rules in
    let other : (at c.args.low.now c.args.i *ℤ at c.args.a.now c.args.i) ≤ℤ (z *ℤ at c.args.a.now c.args.i) = product_mono (at c.args.a.now c.args.i) (at c.args.low.now c.args.i) z (omega (arith, ints, a, c.if-a-i-lt0.false)) l in
    let r = c.product-else-a-i-lt0 in
    omega (arith, ints, other, r.ensures.value, r.ensures.small, abs_is r.result)

pub returns-then-a-i-lt0-clause-small : goal.returns-then-a-i-lt0-clause-small
returns-then-a-i-lt0-clause-small c = kept_small c.product.result _ c.product.type_inv c.product.ensures.small

pub returns-else-a-i-lt0-clause-small : goal.returns-else-a-i-lt0-clause-small
returns-else-a-i-lt0-clause-small c = let r = c.product-else-a-i-lt0 in kept_small r.result _ r.type_inv r.ensures.small
