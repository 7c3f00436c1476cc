use Rattle.std.proofs.Common.{◌≡◌, ℤ, pos, ◌≤ℤ◌, to_z, of_z, FitsSigned, rules, subst, sym, ◌∙◌}
use Rattle.std.specs.Option.{IfSome}
use Rattle.std.proofs.lemmas.Int.{to_z-of_z}
use mir.Syntax.{w64, w128}
use Rattle.space.specs.Vectors.{dot}
use Rattle.sweep_boxes.specs.declared.band.Band.{Band}
use Rattle.sweep_boxes.specs.BandTerms.{AreBandTermsOf}
use Rattle.sweep_boxes.specs.Bands.{IsOnBand}
use Rattle.sweep_boxes.specs.Intervals.{offset_from}
use Rattle.sweep_boxes.proofs.Banded.{all_eight}
use Rattle.sweep_boxes.proofs.bands.bands_of.Goals as goal

pub returns-then-slabs-lt2 : goal.returns-then-slabs-lt2
returns-then-slabs-lt2 c m k S p of near left held =
    let interval = c.args.interval.now in
    let f : FitsSigned w128 c.args.bounds.now.least = search rules in
    let g : FitsSigned w64 c.short-least.result = search rules in
    let same : to_z w64 (of_z w64 c.short-least.result) ≡ c.args.bounds.now.least =
    to_z-of_z w64 c.short-least.result g ∙ c.short-least.ensures ∙ to_z-of_z w128 c.args.bounds.now.least f in
    c.no_bands.ensures interval c.args.side.now p (subst (λ (z : ℤ). z ≤ℤ dot (offset_from (pos interval.scale) interval.tip p) interval.axis) (sym same) held.above)

pub returns-in-None : goal.returns-in-None
returns-in-None c m k S p of near left held =
    let interval = c.args.interval.now in
    let f : FitsSigned w128 c.args.bounds.now.least = search rules in
    let g : FitsSigned w64 c.short-least.result = search rules in
    let same : to_z w64 (of_z w64 c.short-least.result) ≡ c.args.bounds.now.least =
    to_z-of_z w64 c.short-least.result g ∙ c.short-least.ensures ∙ to_z-of_z w128 c.args.bounds.now.least f in
    c.no_bands-in-None.ensures interval c.args.side.now p (subst (λ (z : ℤ). z ≤ℤ dot (offset_from (pos interval.scale) interval.tip p) interval.axis) (sym same) held.above)

pub returns-in-Some : goal.returns-in-Some
returns-in-Some c m k S p of near left held =
    let interval = c.args.interval.now in let side = c.args.side.now in let far = c.args.far.now in
    let f : FitsSigned w128 c.args.bounds.now.least = search rules in
    let g : FitsSigned w64 c.short-least.result = search rules in
    let same : to_z w64 (of_z w64 c.short-least.result) ≡ c.args.bounds.now.least =
    to_z-of_z w64 c.short-least.result g ∙ c.short-least.ensures ∙ to_z-of_z w128 c.args.bounds.now.least f in
    let above = subst (λ (z : ℤ). z ≤ℤ dot (offset_from (pos interval.scale) interval.tip p) interval.axis) (sym same) held.above in
    let band_terms : AreBandTermsOf c.in-Some.band_terms interval side far = subst (λ o. IfSome o (λ l. AreBandTermsOf l interval side far)) c.in-Some.is c.band_terms_of.ensures in
    all_eight (λ (l : Band). IsOnBand l side (offset_from (pos interval.scale) interval.tip p) interval.axis)
    c.band_of.result c.band_of-in-Some.result c.band_of-in-Some-2.result c.band_of-in-Some-3.result c.band_of-in-Some-4.result c.band_of-in-Some-5.result c.band_of-in-Some-6.result c.band_of-in-Some-7.result
    (c.band_of.ensures m k S side far p of band_terms near left above)
    (c.band_of-in-Some.ensures m k S side far p of band_terms near left above)
    (c.band_of-in-Some-2.ensures m k S side far p of band_terms near left above)
    (c.band_of-in-Some-3.ensures m k S side far p of band_terms near left above)
    (c.band_of-in-Some-4.ensures m k S side far p of band_terms near left above)
    (c.band_of-in-Some-5.ensures m k S side far p of band_terms near left above)
    (c.band_of-in-Some-6.ensures m k S side far p of band_terms near left above)
    (c.band_of-in-Some-7.ensures m k S side far p of band_terms near left above)
