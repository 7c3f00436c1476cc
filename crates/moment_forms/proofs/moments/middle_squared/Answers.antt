use Rattle.std.proofs.Common.{◌≡◌, ◌*◌, ◌<◌, ◌≤◌, ◌+◌, ◌^◌, ℤ, ◌+ℤ◌, unsigned_abs, arith, ap₂, ◌∙◌}
use Rattle.std.proofs.lemmas.Int.{ints}
use mir.Syntax.{w128}
use mir.Val.{hbits}
use Rattle.space.specs.Vectors.{dot}
use Rattle.space.proofs.Naturals.{abs_add}
use Rattle.space.proofs.Reread.{small_as}
use Rattle.moment_forms.specs.Sizes.{moments_limit}
use Rattle.moment_forms.proofs.Fits.{sum_fits, sum_is}
use Rattle.moment_forms.proofs.moments.middle_squared.Goals as goal

amid : (a b c : ℤ) → (a +ℤ c) +ℤ b ≡ (a +ℤ b) +ℤ c
amid a b c = omega (arith, ints)

twice_fit : 6 * (moments_limit * moments_limit) + 6 * (moments_limit * moments_limit) < 2 ^ hbits w128
twice_fit = omega arith

fewer : (q : ℤ) → unsigned_abs q ≤ 3 * (moments_limit * moments_limit) → unsigned_abs q ≤ 6 * (moments_limit * moments_limit)
fewer q h = omega (arith, h)

whole_small : (p q : ℤ) → unsigned_abs p ≤ 6 * (moments_limit * moments_limit) → unsigned_abs q ≤ 3 * (moments_limit * moments_limit) → unsigned_abs (p +ℤ q) ≤ 9 * (moments_limit * moments_limit)
whole_small p q h k = omega (arith, abs_add p q, h, k)

pub overflow_add-result : goal.overflow_add-result
overflow_add-result c =
    let p = c.both_ways in let q = c.product in sum_fits w128 p.result q.result (6 * (moments_limit * moments_limit)) twice_fit p.ensures.small (fewer q.result q.ensures.small)

pub returns-clause-value : goal.returns-clause-value
returns-clause-value c =
    let x = c.args.x.now in let y = c.args.y.now in let z = c.args.z.now in let p = c.both_ways in let q = c.product in
    sum_is w128 p.result q.result (6 * (moments_limit * moments_limit)) twice_fit p.ensures.small (fewer q.result q.ensures.small)
    ∙ ap₂ (λ s t. s +ℤ t) p.ensures.value q.ensures.value ∙ amid (dot x z) (dot y y) (dot z x)

pub returns-clause-small : goal.returns-clause-small
returns-clause-small c =
    let p = c.both_ways in let q = c.product in
    small_as _ (p.result +ℤ q.result) (9 * (moments_limit * moments_limit))
    (sum_is w128 p.result q.result (6 * (moments_limit * moments_limit)) twice_fit p.ensures.small (fewer q.result q.ensures.small))
    (whole_small p.result q.result p.ensures.small q.ensures.small)
