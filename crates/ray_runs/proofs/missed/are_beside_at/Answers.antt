use Rattle.std.proofs.Common.{◌≡◌, ◌*◌, ℤ, pos, ◌*ℤ◌, ◌<ℤ◌, FitsSigned, refl, ap, subst, ◌∙◌}
use Rattle.std.proofs.lemmas.Int.{to_z-of_z}
use mir.Syntax.{w64, w128}
use Rattle.space.specs.Vectors.{dot}
use Rattle.space.proofs.Naturals.{dot_natural}
use Rattle.moment_forms.specs.Sizes.{moments_limit}
use Rattle.moment_forms.proofs.Fits.{above_fits, all_fit, small_within, squares_within}
use Rattle.ray_runs.proofs.missed.are_beside_at.Goals as goal

pub is_above-requires : goal.is_above-requires
is_above-requires c =
    small_within w128 c.product.result (3 * (moments_limit * moments_limit)) (9 * (moments_limit * moments_limit)) all_fit squares_within c.product.ensures.small

pub is_above-requires-2 : goal.is_above-requires-2
is_above-requires-2 c =
    small_within w128 c.product-2.result (3 * (moments_limit * moments_limit)) (9 * (moments_limit * moments_limit)) all_fit squares_within c.product-2.ensures.small

pub is_above-requires-3 : goal.is_above-requires-3
is_above-requires-3 c =
    small_within w128 c.product-3.result (3 * (moments_limit * moments_limit)) (9 * (moments_limit * moments_limit)) all_fit squares_within c.product-3.ensures.small

pub returns : goal.returns
returns c = λ yes.
    let a = c.args.a.now in let f = c.args.square in let hs = c.ranges.square in
    let hn : FitsSigned w64 c.height.result = record { sfits = c.height.type_inv } in
    let limit : c.limit_of-limit.result ≡ f *ℤ c.height.result = simp to_z-of_z at c.limit_of-limit.ensures in
    let whole : c.limit_of-limit.result ≡ f *ℤ dot a a = limit ∙ ap (λ z. f *ℤ z) c.height.ensures.value in
    let l : FitsSigned w128 c.limit_of-limit.result = record { sfits = c.limit_of-limit.type_inv } in
    let x : FitsSigned w128 c.product.result = record { sfits = c.product.type_inv } in
    let y : FitsSigned w128 c.product-2.result = record { sfits = c.product-2.type_inv } in
    let z : FitsSigned w128 c.product-3.result = record { sfits = c.product-3.type_inv } in
    record {
      not_below = dot_natural a;
      first = subst (λ (z : ℤ). (f *ℤ dot a a) <ℤ (pos 4 *ℤ z)) c.product.ensures.value (subst (λ (z : ℤ). z <ℤ (pos 4 *ℤ c.product.result)) whole (above_fits _ _ l x (c.if-not-is_above.ensures refl)));
      between = subst (λ (z : ℤ). (f *ℤ dot a a) <ℤ (pos 4 *ℤ z)) c.product-3.ensures.value (subst (λ (z : ℤ). z <ℤ (pos 4 *ℤ c.product-3.result)) whole (above_fits _ _ l z (c.is_above-3.ensures yes)));
      last = subst (λ (z : ℤ). (f *ℤ dot a a) <ℤ (pos 4 *ℤ z)) c.product-2.ensures.value (subst (λ (z : ℤ). z <ℤ (pos 4 *ℤ c.product-2.result)) whole (above_fits _ _ l y (c.if-not-is_above-2.ensures refl)));
    }
