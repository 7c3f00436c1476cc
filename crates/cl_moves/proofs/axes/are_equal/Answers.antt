-- Two products are equal where their bits are.
use Rattle.std.proofs.Common.{◌∙◌, ◌*ℤ◌, FitsSigned, ap, arith, subst, sym, w64}
use Rattle.std.specs.Ordering.{int_eq}
use Rattle.space.specs.Ranges.{axis_unit}
use Rattle.cl_moves.proofs.BackLemmas.{within_back}
use Rattle.cl_moves.proofs.ProductLemmas.{fits_product, product_back, same_bits}
use Rattle.cl_moves.proofs.axes.are_equal.Goals as goal

pub product-requires-clause-first : goal.product-requires-clause-first
product-requires-clause-first c = within_back axis_unit c.args.a (omega arith) c.requires.a

pub product-requires-clause-last : goal.product-requires-clause-last
product-requires-clause-last c = within_back axis_unit c.args.b (omega arith) c.requires.b

pub product-requires-2-clause-first : goal.product-requires-2-clause-first
product-requires-2-clause-first c = within_back axis_unit c.args.c (omega arith) c.requires.c

pub product-requires-2-clause-last : goal.product-requires-2-clause-last
product-requires-2-clause-last c = within_back axis_unit c.args.d (omega arith) c.requires.d

pub returns : goal.returns
returns c =
    let p = c.product.result in
    let q = c.product-2.result in
    let first = product_back p c.args.a c.args.b c.requires.a c.requires.b c.product.ensures.exact in
    let last = product_back q c.args.c c.args.d c.requires.c c.requires.d c.product-2.ensures.exact in
    let fits = subst (FitsSigned w64) (sym first) (fits_product c.args.a c.args.b c.requires.a c.requires.b) in
    let fit = subst (FitsSigned w64) (sym last) (fits_product c.args.c c.args.d c.requires.c c.requires.d) in
    same_bits p q fits fit ∙ ap (λ z. int_eq z q) first ∙ ap (λ z. int_eq (c.args.a *ℤ c.args.b) z) last
