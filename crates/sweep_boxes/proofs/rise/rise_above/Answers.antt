use Rattle.std.proofs.Common.{◌≡◌, false, ◌≤◌, ◌≤ℤ◌, ◌<ℤ◌, ◌*ℤ◌, ◌*◌, ◌^◌, ℤ, pos, to_z, of_z, unsigned_abs, arith, ap}
use Rattle.std.specs.Int.Signed.{lt_z}
use Rattle.std.proofs.lemmas.Int.{ints, to_z-of_z}
use mir.Syntax.{w128}
use Rattle.space.proofs.Naturals.{abs_mul}
use Rattle.sweep_boxes.specs.BandTerms.{IsRiseAbove}
use Rattle.sweep_boxes.specs.Limits.{place_limit}
use Rattle.space.proofs.Facts.{product_fits}
use Rattle.sweep_boxes.proofs.Stepped.{scaled_small}
use Rattle.space.proofs.Words.{fits_of, kept_at_most, read_out, small32_in}
use Rattle.sweep_boxes.proofs.Words.{scale_few}
use Rattle.sweep_boxes.proofs.rise.rise_above.Goals as goal

least_some : (z : ℤ) → lt_z z (pos 1) ≡ false → pos 0 ≤ℤ z
least_some z h = omega (arith, ints, h)

at_most_of : (a b c : ℤ) → a ≤ℤ b → b ≤ℤ c → a ≤ℤ c
at_most_of a b c h k = omega (arith, ints, h, k)

none_above : (P : Type 0) → pos 0 <ℤ pos 0 → P
none_above P h = absurd (omega (arith, ints, h))

pub root_down-requires : goal.root_down-requires
root_down-requires c =
    let least = c.least_square-least in
    record { some = least_some (to_z w128 (of_z w128 least.result)) c.if-least-lt1.false; small = kept_at_most least.result _ least.type_inv least.ensures.small }

pub weighted-requires : goal.weighted-requires
weighted-requires c = record { weight = scale_few c.args.interval.now.scale c.args.interval.now.scaled.1; place = small32_in c.args.lowest _ c.ranges.lowest c.requires.lowest }

pub overflow_mul-result : goal.overflow_mul-result
overflow_mul-result c =
    let w = fits_of c.weighted.result c.weighted.type_inv in
    let g = fits_of c.root_down.result c.root_down.type_inv in
    let small = scaled_small c.args.interval.now.scale c.weighted.result c.args.interval.now.scaled.1 c.weighted.ensures.small in
    simp to_z-of_z (product_fits c.weighted.result c.root_down.result (128 * place_limit) (10 ^ 9) small c.root_down.ensures.small (omega arith))

pub returns-clause-value : goal.returns-clause-value
returns-clause-value c =
    let interval = c.args.interval.now in let lowest = c.args.lowest in let least = c.least_square-least in
    let w = fits_of c.weighted.result c.weighted.type_inv in
    let g = fits_of c.root_down.result c.root_down.type_inv in
    let s = c.ranges.lowest in
    let small = scaled_small interval.scale c.weighted.result interval.scaled.1 c.weighted.ensures.small in
    let fits = product_fits c.weighted.result c.root_down.result (128 * place_limit) (10 ^ 9) small c.root_down.ensures.small (omega arith) in
    let is : c.weighted.result ≡ pos interval.scale *ℤ lowest = simp to_z-of_z at c.weighted.ensures.value in
    let down : (c.root_down.result *ℤ c.root_down.result) ≤ℤ least.result = read_out (λ (z : ℤ). (c.root_down.result *ℤ c.root_down.result) ≤ℤ z) least.result least.type_inv c.root_down.ensures.value in
    let rise : IsRiseAbove (c.weighted.result *ℤ c.root_down.result) lowest interval = λ above. record {
      shortest = c.root_down.result;
      is_shortest = record {
        some = c.root_down.ensures.some;
        first = at_most_of _ least.result _ down least.ensures.first;
        middle = at_most_of _ least.result _ down least.ensures.middle;
        last = at_most_of _ least.result _ down least.ensures.last;
      };
      some = least_some lowest (simp to_z-of_z at c.if-lowest-lt1.false);
      rise_is = ap (λ (z : ℤ). z *ℤ c.root_down.result) is;
    } in
    simp to_z-of_z rise

pub returns-clause-small : goal.returns-clause-small
returns-clause-small c =
    let w = fits_of c.weighted.result c.weighted.type_inv in
    let g = fits_of c.root_down.result c.root_down.type_inv in
    let small = scaled_small c.args.interval.now.scale c.weighted.result c.args.interval.now.scaled.1 c.weighted.ensures.small in
    let fits = product_fits c.weighted.result c.root_down.result (128 * place_limit) (10 ^ 9) small c.root_down.ensures.small (omega arith) in
    let most = abs_mul c.weighted.result c.root_down.result (128 * place_limit) (10 ^ 9) small c.root_down.ensures.small in
    let whole : unsigned_abs (c.weighted.result *ℤ c.root_down.result) ≤ 10 ^ 18 = omega (arith, most) in
    simp to_z-of_z whole
