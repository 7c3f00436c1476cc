-- The product of two components fits 64 bits.
use Rattle.std.proofs.Common.{◌≡◌, ◌≤◌, ◌∙◌, ℤ, ◌*ℤ◌, FitsSigned, of_z, subst, sym, to_z, unsigned_abs, w32, w64}
use Rattle.std.proofs.lemmas.Int.{to_z-of_z}
use Rattle.space.specs.Ranges.{axis_unit}
use Rattle.cl_moves.proofs.ProductLemmas.{fits_product, fits_wider, same_product, small_product, widened}
use Rattle.cl_moves.proofs.axes.product.Goals as goal

same : (a b : ℤ) → FitsSigned w32 a → FitsSigned w32 b → unsigned_abs a ≤ axis_unit → unsigned_abs b ≤ axis_unit
    → to_z w64 (of_z w64 (to_z w32 (of_z w32 a))) *ℤ to_z w64 (of_z w64 (to_z w32 (of_z w32 b))) ≡ a *ℤ b
same a b f g p q = same_product (to_z w64 (of_z w64 (to_z w32 (of_z w32 a)))) (to_z w64 (of_z w64 (to_z w32 (of_z w32 b)))) a b (widened a f p) (widened b g q)

fits : (a b : ℤ) → FitsSigned w32 a → FitsSigned w32 b → unsigned_abs a ≤ axis_unit → unsigned_abs b ≤ axis_unit
    → FitsSigned w64 (to_z w64 (of_z w64 (to_z w32 (of_z w32 a))) *ℤ to_z w64 (of_z w64 (to_z w32 (of_z w32 b))))
fits a b f g p q = subst (FitsSigned w64) (sym (same a b f g p q)) (fits_product a b p q)

exact : (a b : ℤ) → FitsSigned w32 a → FitsSigned w32 b → unsigned_abs a ≤ axis_unit → unsigned_abs b ≤ axis_unit
    → to_z w64 (of_z w64 (to_z w64 (of_z w64 (to_z w32 (of_z w32 a))) *ℤ to_z w64 (of_z w64 (to_z w32 (of_z w32 b))))) ≡ a *ℤ b
exact a b f g p q = to_z-of_z w64 (to_z w64 (of_z w64 (to_z w32 (of_z w32 a))) *ℤ to_z w64 (of_z w64 (to_z w32 (of_z w32 b)))) (fits a b f g p q) ∙ same a b f g p q

pub overflow_cast-result : goal.overflow_cast-result
overflow_cast-result c = subst (FitsSigned w64) (sym (to_z-of_z w32 c.args.a c.ranges.a)) (fits_wider c.args.a c.requires.first)

pub overflow_cast-result-2 : goal.overflow_cast-result-2
overflow_cast-result-2 c = subst (FitsSigned w64) (sym (to_z-of_z w32 c.args.b c.ranges.b)) (fits_wider c.args.b c.requires.last)

pub overflow_mul-result : goal.overflow_mul-result
overflow_mul-result c = fits c.args.a c.args.b c.ranges.a c.ranges.b c.requires.first c.requires.last

pub returns-clause-exact : goal.returns-clause-exact
returns-clause-exact c = exact c.args.a c.args.b c.ranges.a c.ranges.b c.requires.first c.requires.last

pub returns-clause-small : goal.returns-clause-small
returns-clause-small c =
    subst (λ z. unsigned_abs z ≤ 10000000000) (sym (exact c.args.a c.args.b c.ranges.a c.ranges.b c.requires.first c.requires.last))
    (small_product c.args.a c.args.b c.requires.first c.requires.last)
