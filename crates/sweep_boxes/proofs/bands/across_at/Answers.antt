use Rattle.std.proofs.Common.{◌≡◌, ◌≤ℤ◌, ◌+ℤ◌, ◌*ℤ◌, pos, FitsSigned, arith, rules}
use Rattle.std.proofs.lemmas.Int.{ints, to_z-of_z}
use mir.Syntax.{w128}
use Rattle.sweep_boxes.specs.Held.{IsSpread}
use Rattle.sweep_boxes.proofs.Stepped.{spread_at}
use Rattle.space.proofs.Words.{fits_of}
use Rattle.sweep_boxes.proofs.bands.across_at.Goals as goal

pub returns-clause-value : goal.returns-clause-value
returns-clause-value c interval widest side far of wide =
    let band_terms = c.args.band_terms.now in let reach = c.reach_across in let whole = c.sum in
    let a : FitsSigned w128 band_terms.square = search rules in
    let b : FitsSigned w128 band_terms.third = search rules in
    let d : FitsSigned w128 band_terms.side_slack = search rules in
    let h = c.ranges.half in
    let f0 = fits_of reach.result reach.type_inv in
    let f1 = fits_of whole.result whole.type_inv in
    let whole_is : whole.result ≡ reach.result +ℤ band_terms.side_slack = simp to_z-of_z at whole.ensures.value in
    let root : (band_terms.square *ℤ (c.args.half *ℤ c.args.half +ℤ band_terms.third)) ≤ℤ (reach.result *ℤ reach.result) = simp to_z-of_z at reach.ensures.value in
    let spread : IsSpread whole.result side interval widest far =
    spread_at band_terms interval widest c.args.half reach.result whole.result side far of wide whole_is record { some = reach.ensures.some; root = root } band_terms.change_small.0 band_terms.bent_small.0 band_terms.third_small.0 in
    simp to_z-of_z spread

pub returns-clause-some : goal.returns-clause-some
returns-clause-some c =
    let band_terms = c.args.band_terms.now in let reach = c.reach_across in let whole = c.sum in
    let d : FitsSigned w128 band_terms.side_slack = search rules in
    let f0 = fits_of reach.result reach.type_inv in
    let f1 = fits_of whole.result whole.type_inv in
    let whole_is : whole.result ≡ reach.result +ℤ band_terms.side_slack = simp to_z-of_z at whole.ensures.value in
    let some : pos 0 ≤ℤ whole.result = omega (arith, ints, whole_is, reach.ensures.some, band_terms.side_slack_small.0) in
    simp to_z-of_z some
