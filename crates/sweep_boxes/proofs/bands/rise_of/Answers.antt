use Rattle.std.proofs.Common.{◌≡◌, ◌≤◌, ◌≤ℤ◌, ◌*ℤ◌, ◌*◌, ◌^◌, ℤ, pos, unsigned_abs, FitsSigned, arith, rules, ap}
use Rattle.std.proofs.lemmas.Int.{ints, to_z-of_z}
use mir.Syntax.{w32, w128}
use borrow.Author.Differences.{abs_is}
use Rattle.space.proofs.Naturals.{abs_mul}
use Rattle.sweep_boxes.specs.Limits.{place_limit}
use Rattle.space.proofs.Facts.{product_fits}
use Rattle.sweep_boxes.proofs.Stepped.{scaled_small}
use Rattle.space.proofs.Words.{fits_of}
use Rattle.sweep_boxes.proofs.Words.{kept_place, scale_few}
use Rattle.sweep_boxes.proofs.bands.rise_of.Goals as goal

begin_small : (z : ℤ) → pos 0 ≤ℤ z → z ≤ℤ pos 300000 → unsigned_abs z ≤ place_limit
begin_small z some few = omega (arith, ints, some, few, abs_is z)

pub weighted-requires : goal.weighted-requires
weighted-requires c =
    let step = c.args.step.now in
    record { weight = scale_few c.args.interval.now.scale c.args.interval.now.scaled.1; place = kept_place step.begin (begin_small step.begin step.begin_some step.begin_small) }

pub overflow_mul-result : goal.overflow_mul-result
overflow_mul-result c =
    let w = fits_of c.weighted.result c.weighted.type_inv in
    let l : FitsSigned w128 c.args.band_terms.now.shortest = search rules in
    let small = scaled_small c.args.interval.now.scale c.weighted.result c.args.interval.now.scaled.1 c.weighted.ensures.small in
    simp to_z-of_z (product_fits c.weighted.result c.args.band_terms.now.shortest (128 * place_limit) (10 ^ 9) small c.args.band_terms.now.shortest_small.1 (omega arith))

pub returns-clause-value : goal.returns-clause-value
returns-clause-value c =
    let w = fits_of c.weighted.result c.weighted.type_inv in
    let l : FitsSigned w128 c.args.band_terms.now.shortest = search rules in
    let s : FitsSigned w32 c.args.step.now.begin = search rules in
    let small = scaled_small c.args.interval.now.scale c.weighted.result c.args.interval.now.scaled.1 c.weighted.ensures.small in
    let fits = product_fits c.weighted.result c.args.band_terms.now.shortest (128 * place_limit) (10 ^ 9) small c.args.band_terms.now.shortest_small.1 (omega arith) in
    let is : c.weighted.result ≡ pos c.args.interval.now.scale *ℤ c.args.step.now.begin = simp to_z-of_z at c.weighted.ensures.value in
    let rise : c.weighted.result *ℤ c.args.band_terms.now.shortest ≡ (pos c.args.interval.now.scale *ℤ c.args.step.now.begin) *ℤ c.args.band_terms.now.shortest = ap (λ z. z *ℤ c.args.band_terms.now.shortest) is in
    simp to_z-of_z rise

pub returns-clause-small : goal.returns-clause-small
returns-clause-small c =
    let w = fits_of c.weighted.result c.weighted.type_inv in
    let l : FitsSigned w128 c.args.band_terms.now.shortest = search rules in
    let small = scaled_small c.args.interval.now.scale c.weighted.result c.args.interval.now.scaled.1 c.weighted.ensures.small in
    let fits = product_fits c.weighted.result c.args.band_terms.now.shortest (128 * place_limit) (10 ^ 9) small c.args.band_terms.now.shortest_small.1 (omega arith) in
    let most = abs_mul c.weighted.result c.args.band_terms.now.shortest (128 * place_limit) (10 ^ 9) small c.args.band_terms.now.shortest_small.1 in
    let whole : unsigned_abs (c.weighted.result *ℤ c.args.band_terms.now.shortest) ≤ 10 ^ 18 = omega (arith, most) in
    simp to_z-of_z whole
