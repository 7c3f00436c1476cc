use Rattle.std.proofs.Common.{◌≡◌, List, ℤ, ◌+ℤ◌, ◌*ℤ◌, subst, sym}
use Rattle.bern_form.specs.Forms.{value2, value4}
use Rattle.bern_form.proofs.Forms.{lifted_is}
use Rattle.bern_form.proofs.product.lift24.Goals as goal

pub returns-clause-value : goal.returns-clause-value
returns-clause-value c x y =
    subst (λ (l : List ℤ). value4 l x y ≡ value2 c.args.a.now.c x y *ℤ ((x +ℤ y) *ℤ (x +ℤ y))) (sym c.times22.ensures.coefficients) (lifted_is c.args.a.now.c x y)
