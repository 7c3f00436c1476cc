-- Each term is small, so the sum of the three is what is computed, and small too.
use Rattle.std.proofs.Common.{◌≡◌, ℤ, pos, negsuc, to_z, of_z, ◌+ℤ◌, ◌∙◌, arith, ap, ap₂, subst, sym, w64, FitsSigned}
use Rattle.std.proofs.lemmas.Int.{ints, to_z-of_z}
use Rattle.space.specs.Ranges.{IsBetween}
use Rattle.ray_shapes.specs.Sizes.{IsTerm}
use Rattle.ray_shapes.proofs.OnLines.{small_start}
use Rattle.ray_shapes.proofs.Rising.{term_fits}
use Rattle.ray_shapes.proofs.plane.Plane.value_on.Goals as goal

abbrev Small : ℤ → Type 0
Small z = IsBetween (negsuc 2147483647999999) (pos 2147483648000000) z

small_fits : (z : ℤ) → Small z → FitsSigned w64 z
small_fits z t = let low = t.from_least in let high = t.to_most in omega (arith, ints)

pair_fits : (x y : ℤ) → Small x → Small y → FitsSigned w64 (x +ℤ y)
pair_fits x y p q = let a = p.from_least in let b = p.to_most in let c = q.from_least in let d = q.to_most in omega (arith, ints)

pair_read : (x y : ℤ) → Small x → Small y → (to_z w64 (of_z w64 x) +ℤ to_z w64 (of_z w64 y)) ≡ x +ℤ y
pair_read x y p q = ap₂ (λ a b. a +ℤ b) (to_z-of_z w64 x (small_fits x p)) (to_z-of_z w64 y (small_fits y q))

sum_read : (x y z : ℤ) → Small x → Small y → Small z → (to_z w64 (of_z w64 (to_z w64 (of_z w64 x) +ℤ to_z w64 (of_z w64 y))) +ℤ to_z w64 (of_z w64 z)) ≡ (x +ℤ y) +ℤ z
sum_read x y z p q r =
    ap₂ (λ a b. a +ℤ b) (ap (λ a. to_z w64 (of_z w64 a)) (pair_read x y p q) ∙ to_z-of_z w64 (x +ℤ y) (pair_fits x y p q)) (to_z-of_z w64 z (small_fits z r))

read : (x y z : ℤ) → Small x → Small y → Small z → to_z w64 (of_z w64 (to_z w64 (of_z w64 (to_z w64 (of_z w64 x) +ℤ to_z w64 (of_z w64 y))) +ℤ to_z w64 (of_z w64 z))) ≡ (x +ℤ y) +ℤ z
read x y z p q r = ap (λ a. to_z w64 (of_z w64 a)) (sum_read x y z p q r) ∙ to_z-of_z w64 ((x +ℤ y) +ℤ z) (term_fits ((x +ℤ y) +ℤ z) (small_start x y z p q r))

pub term-requires-clause-near : goal.term-requires-clause-near
term-requires-clause-near c = c.requires.0

pub term-requires-2-clause-near : goal.term-requires-2-clause-near
term-requires-2-clause-near c = c.requires.1

pub term-requires-3-clause-near : goal.term-requires-3-clause-near
term-requires-3-clause-near c = c.requires.2

pub overflow_add-result : goal.overflow_add-result
overflow_add-result c =
    let x = c.term in let y = c.term-2 in
    subst (FitsSigned w64) (sym (pair_read x.result y.result x.ensures.small y.ensures.small)) (pair_fits x.result y.result x.ensures.small y.ensures.small)

pub overflow_add-result-2 : goal.overflow_add-result-2
overflow_add-result-2 c =
    let x = c.term in let y = c.term-2 in let z = c.term-3 in
    subst (FitsSigned w64) (sym (sum_read x.result y.result z.result x.ensures.small y.ensures.small z.ensures.small))
    (term_fits ((x.result +ℤ y.result) +ℤ z.result) (small_start x.result y.result z.result x.ensures.small y.ensures.small z.ensures.small))

pub returns-clause-value : goal.returns-clause-value
returns-clause-value c =
    let x = c.term in let y = c.term-2 in let z = c.term-3 in
    read x.result y.result z.result x.ensures.small y.ensures.small z.ensures.small
    ∙ ap₂ (λ a b. a +ℤ b) (ap₂ (λ a b. a +ℤ b) x.ensures.value y.ensures.value) z.ensures.value

pub returns-clause-small : goal.returns-clause-small
returns-clause-small c =
    let x = c.term in let y = c.term-2 in let z = c.term-3 in
    subst IsTerm (sym (read x.result y.result z.result x.ensures.small y.ensures.small z.ensures.small))
    (small_start x.result y.result z.result x.ensures.small y.ensures.small z.ensures.small)
