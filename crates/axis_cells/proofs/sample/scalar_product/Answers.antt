use Rattle.std.proofs.Common.{ℤ, pos, ◌+ℤ◌, ◌*ℤ◌, arith, ap, ◌∙◌}
use Rattle.space.specs.Vectors.{at}
use Rattle.axis_cells.proofs.Fits.{read_sum_fits}
use Rattle.axis_cells.proofs.sample.scalar_product.Goals as goal

pub component_product-requires-clause-p : goal.component_product-requires-clause-p
component_product-requires-clause-p c = c.requires.p.0

pub component_product-requires-clause-a : goal.component_product-requires-clause-a
component_product-requires-clause-a c = c.requires.a.0

pub component_product-requires-2-clause-p : goal.component_product-requires-2-clause-p
component_product-requires-2-clause-p c = c.requires.p.1

pub component_product-requires-2-clause-a : goal.component_product-requires-2-clause-a
component_product-requires-2-clause-a c = c.requires.a.1

pub component_product-requires-3-clause-p : goal.component_product-requires-3-clause-p
component_product-requires-3-clause-p c = c.requires.p.2

pub component_product-requires-3-clause-a : goal.component_product-requires-3-clause-a
component_product-requires-3-clause-a c = c.requires.a.2

pub overflow_add-result : goal.overflow_add-result
overflow_add-result c =
    let x = c.component_product in let y = c.component_product-2 in
    (read_sum_fits x.result y.result (pos 0) x.ensures.small y.ensures.small (omega arith)).two

pub overflow_add-result-2 : goal.overflow_add-result-2
overflow_add-result-2 c =
    let x = c.component_product in let y = c.component_product-2 in let z = c.component_product-3 in
    (read_sum_fits x.result y.result z.result x.ensures.small y.ensures.small z.ensures.small).three

pub returns : goal.returns
returns c =
    let x = c.component_product in let y = c.component_product-2 in let z = c.component_product-3 in let p = c.args.p.now in let a = c.args.a.now in
    (read_sum_fits x.result y.result z.result x.ensures.small y.ensures.small z.ensures.small).value
    ∙ ap (λ (n : ℤ). (n +ℤ y.result) +ℤ z.result) x.ensures.value
    ∙ ap (λ (n : ℤ). (at p 0 *ℤ at a 0 +ℤ n) +ℤ z.result) y.ensures.value
    ∙ ap (λ (n : ℤ). (at p 0 *ℤ at a 0 +ℤ at p 1 *ℤ at a 1) +ℤ n) z.ensures.value
