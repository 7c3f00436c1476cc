use Rattle.std.proofs.Common.{◌≡◌, ◌*ℤ◌, ◌*◌, ◌^◌, pos, FitsSigned, arith, rules, ap}
use Rattle.std.proofs.lemmas.Int.{to_z-of_z}
use mir.Syntax.{w32, w128}
use Rattle.sweep_boxes.specs.Limits.{place_limit}
use Rattle.space.proofs.Facts.{product_fits}
use Rattle.sweep_boxes.proofs.Stepped.{half_is, length_some, scaled_small, scaled_some}
use Rattle.space.proofs.Words.{fits_of}
use Rattle.sweep_boxes.proofs.bands.half_of.Goals as goal

pub overflow_mul-result : goal.overflow_mul-result
overflow_mul-result c =
    let w = fits_of c.weighted.result c.weighted.type_inv in
    let l : FitsSigned w128 c.args.band_terms.now.longest = search rules in
    let small = scaled_small c.args.interval.now.scale c.weighted.result c.args.interval.now.scaled.1 c.weighted.ensures.small in
    let fits = product_fits c.weighted.result c.args.band_terms.now.longest (128 * place_limit) (10 ^ 18) small c.args.band_terms.now.longest_small.1 (omega arith) in
    simp to_z-of_z fits

pub returns-clause-value : goal.returns-clause-value
returns-clause-value c side far of =
    let w = fits_of c.weighted.result c.weighted.type_inv in
    let l : FitsSigned w128 c.args.band_terms.now.longest = search rules in
    let s : FitsSigned w32 c.args.step.now.widest = search rules in
    let small = scaled_small c.args.interval.now.scale c.weighted.result c.args.interval.now.scaled.1 c.weighted.ensures.small in
    let fits = product_fits c.weighted.result c.args.band_terms.now.longest (128 * place_limit) (10 ^ 18) small c.args.band_terms.now.longest_small.1 (omega arith) in
    let is : c.weighted.result ≡ pos c.args.interval.now.scale *ℤ c.args.step.now.widest = simp to_z-of_z at c.weighted.ensures.value in
    let half = half_is (pos c.args.interval.now.scale *ℤ c.args.step.now.widest) c.args.interval.now.longest c.args.band_terms.now.longest (c.weighted.result *ℤ c.args.band_terms.now.longest)
    (ap (λ z. z *ℤ c.args.band_terms.now.longest) is) of.long in
    simp to_z-of_z half

pub returns-clause-some : goal.returns-clause-some
returns-clause-some c =
    let w = fits_of c.weighted.result c.weighted.type_inv in
    let l : FitsSigned w128 c.args.band_terms.now.longest = search rules in
    let s : FitsSigned w32 c.args.step.now.widest = search rules in
    let small = scaled_small c.args.interval.now.scale c.weighted.result c.args.interval.now.scaled.1 c.weighted.ensures.small in
    let fits = product_fits c.weighted.result c.args.band_terms.now.longest (128 * place_limit) (10 ^ 18) small c.args.band_terms.now.longest_small.1 (omega arith) in
    let is : c.weighted.result ≡ pos c.args.interval.now.scale *ℤ c.args.step.now.widest = simp to_z-of_z at c.weighted.ensures.value in
    let some = length_some c.weighted.result c.args.band_terms.now.longest (scaled_some c.args.interval.now.scale c.args.step.now.widest c.weighted.result is c.args.step.now.widest_some) c.args.band_terms.now.longest_small.0 in
    simp to_z-of_z some
