use Rattle.std.proofs.Common.{◌≤◌, ◌≤ℤ◌, ◌+ℤ◌, ◌*◌, ◌^◌, ℤ, pos, unsigned_abs, FitsSigned, arith, rules, refl}
use Rattle.std.proofs.lemmas.Int.{ints, to_z-of_z}
use mir.Syntax.{w128}
use borrow.Author.Differences.{abs_is}
use Rattle.sweep_boxes.specs.Held.{IsGrown}
use Rattle.sweep_boxes.proofs.Stepped.{grown_at}
use Rattle.sweep_boxes.proofs.bands.moment_at.Goals as goal

rest_fits : (half change bent : ℤ) → pos 0 ≤ℤ half → half ≤ℤ pos (5 * 10 ^ 16) → unsigned_abs change ≤ 10 ^ 18 → unsigned_abs bent ≤ 10 ^ 18
    → FitsSigned w128 (change +ℤ bent) × FitsSigned w128 (half +ℤ (change +ℤ bent))
rest_fits half change bent some few h k = (omega (arith, ints, h, k, abs_is change, abs_is bent), omega (arith, ints, some, few, h, k, abs_is change, abs_is bent))

pub returns-clause-value : goal.returns-clause-value
returns-clause-value c interval widest side far of wide =
    let band_terms = c.args.band_terms.now in
    let a : FitsSigned w128 band_terms.change = search rules in
    let b : FitsSigned w128 band_terms.bent = search rules in
    let h = c.ranges.half in
    let fits = rest_fits c.args.half band_terms.change band_terms.bent c.requires.some c.requires.small band_terms.change_small.1 band_terms.bent_small.1 in
    let f0 = fits.0 in let f1 = fits.1 in
    let grown : IsGrown (c.args.half +ℤ (band_terms.change +ℤ band_terms.bent)) interval widest far =
    grown_at band_terms interval widest c.args.half (c.args.half +ℤ (band_terms.change +ℤ band_terms.bent)) side far of wide refl c.requires.some band_terms.change_small.0 band_terms.bent_small.0 in
    simp to_z-of_z grown
