use Rattle.std.proofs.Common.{◌≡◌, ◌*◌, ℤ, pos, ◌*ℤ◌, ◌≤ℤ◌, ◌<ℤ◌, FitsSigned, arith, refl, subst}
use Rattle.std.proofs.lemmas.Int.{ints, to_z-of_z}
use mir.Syntax.{w128}
use Rattle.space.proofs.Reread.{small_back}
use Rattle.moment_forms.specs.Sizes.{moments_limit}
use Rattle.moment_forms.proofs.Fits.{above_fits, all_fit}
use Rattle.ray_runs.proofs.missed.are_above.Goals as goal

pub is_above-requires : goal.is_above-requires
is_above-requires c = small_back w128 c.times.result (9 * (moments_limit * moments_limit)) all_fit c.times.ensures.small

pub is_above-requires-2 : goal.is_above-requires-2
is_above-requires-2 c = small_back w128 c.times-2.result (9 * (moments_limit * moments_limit)) all_fit c.times-2.ensures.small

pub is_above-requires-3 : goal.is_above-requires-3
is_above-requires-3 c = small_back w128 c.times-3.result (9 * (moments_limit * moments_limit)) all_fit c.times-3.ensures.small

pub returns : goal.returns
returns c = λ yes.
    let hs = c.ranges.square in let hr = c.ranges.raised in
    let limit : c.limit_of-limit.result ≡ c.args.square *ℤ c.args.raised = simp to_z-of_z at c.limit_of-limit.ensures in
    let some : pos 0 ≤ℤ c.args.raised = omega (arith, ints) in
    let l : FitsSigned w128 c.limit_of-limit.result = record { sfits = c.limit_of-limit.type_inv } in
    let x : FitsSigned w128 c.times.result = record { sfits = c.times.type_inv } in
    let y : FitsSigned w128 c.times-2.result = record { sfits = c.times-2.type_inv } in
    let z : FitsSigned w128 c.times-3.result = record { sfits = c.times-3.type_inv } in
    record {
      not_below = some;
      first = subst (λ (z : ℤ). (c.args.square *ℤ c.args.raised) <ℤ (pos 4 *ℤ z)) c.times.ensures.value (subst (λ (z : ℤ). z <ℤ (pos 4 *ℤ c.times.result)) limit (above_fits _ _ l x (c.if-not-is_above.ensures refl)));
      between = subst (λ (z : ℤ). (c.args.square *ℤ c.args.raised) <ℤ (pos 4 *ℤ z)) c.times-3.ensures.value (subst (λ (z : ℤ). z <ℤ (pos 4 *ℤ c.times-3.result)) limit (above_fits _ _ l z (c.is_above-3.ensures yes)));
      last = subst (λ (z : ℤ). (c.args.square *ℤ c.args.raised) <ℤ (pos 4 *ℤ z)) c.times-2.ensures.value (subst (λ (z : ℤ). z <ℤ (pos 4 *ℤ c.times-2.result)) limit (above_fits _ _ l y (c.if-not-is_above-2.ensures refl)));
    }
