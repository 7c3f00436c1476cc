use Rattle.std.proofs.Common.{◌≡◌, List, ℤ, pos, to_z, of_z, ◌∙◌}
use Rattle.std.proofs.lemmas.Int.{to_z-of_z}
use mir.Syntax.{w64}
use Rattle.sweep_boxes.specs.declared.band.Band.{Band}
use Rattle.sweep_boxes.specs.Bands.{IsOnBand}
use Rattle.sweep_boxes.specs.Intervals.{offset_from}
use Rattle.sweep_boxes.proofs.Banded.{all_eight, on_unused}
use Rattle.sweep_boxes.proofs.bands.no_bands.Goals as goal

pub returns : goal.returns
returns c interval side p above =
    let v : List ℤ = offset_from (pos interval.scale) interval.tip p in
    let fits = c.ranges.least in
    let on : (l : Band) → l.height ≡ c.args.least → IsOnBand l side v interval.axis = λ l is. on_unused l c.args.least side v interval.axis is above in
    let same : to_z w64 (of_z w64 c.args.least) ≡ c.args.least = to_z-of_z w64 c.args.least fits in
    all_eight (λ (l : Band). IsOnBand l side v interval.axis) c.unused.result c.unused-2.result c.unused-3.result c.unused-4.result c.unused-5.result c.unused-6.result c.unused-7.result c.unused-8.result
    (on c.unused.result (c.unused.ensures ∙ same)) (on c.unused-2.result (c.unused-2.ensures ∙ same)) (on c.unused-3.result (c.unused-3.ensures ∙ same)) (on c.unused-4.result (c.unused-4.ensures ∙ same)) (on c.unused-5.result (c.unused-5.ensures ∙ same)) (on c.unused-6.result (c.unused-6.ensures ∙ same)) (on c.unused-7.result (c.unused-7.ensures ∙ same)) (on c.unused-8.result (c.unused-8.ensures ∙ same))
