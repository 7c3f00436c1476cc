use Rattle.std.proofs.Common.{◌≡◌, pos, ◌-ℤ◌, ◌*ℤ◌, FitsSigned, rules, ap, ◌∙◌}
use Rattle.std.proofs.lemmas.Int.{to_z-of_z}
use mir.Syntax.{w32}
use Rattle.space.specs.Vectors.{at}
use Rattle.axis_cells.proofs.Fits.{offset_fits}
use Rattle.axis_cells.proofs.pose.offset_from.Goals as goal

pub overflow_sub-result : goal.overflow_sub-result
overflow_sub-result c = (offset_fits c.args.scale c.weighted.result c.place_between.result c.requires.scale c.weighted.ensures.small c.place_between.ensures.small).fits

pub returns : goal.returns
returns c =
    let point : FitsSigned w32 (at c.args.point.now c.args.i) = search rules in
    let whole : c.weighted.result ≡ pos c.args.scale *ℤ at c.args.point.now c.args.i = simp to_z-of_z at c.weighted.ensures.value in
    (offset_fits c.args.scale c.weighted.result c.place_between.result c.requires.scale c.weighted.ensures.small c.place_between.ensures.small).value
    ∙ ap (λ z. z -ℤ c.place_between.result) whole ∙ ap (λ z. pos c.args.scale *ℤ at c.args.point.now c.args.i -ℤ z) c.place_between.ensures.place
