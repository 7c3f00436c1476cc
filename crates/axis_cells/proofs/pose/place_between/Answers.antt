use Rattle.std.proofs.Common.{◌≡◌, pos, ◌+ℤ◌, ◌-ℤ◌, ◌*ℤ◌, FitsSigned, rules, ap, sym, ◌∙◌}
use Rattle.std.proofs.lemmas.Int.{to_z-of_z}
use mir.Syntax.{w32}
use Rattle.space.specs.Vectors.{at}
use Rattle.space.proofs.Axis.{rest_is}
use Rattle.axis_cells.proofs.Fits.{place_fits}
use Rattle.axis_cells.proofs.pose.place_between.Goals as goal

pub overflow_add-result : goal.overflow_add-result
overflow_add-result c = (place_fits c.args.k c.args.scale c.weighted.result c.weighted-2.result c.requires.within c.requires.scale c.weighted.ensures.small c.weighted-2.ensures.small).fits

pub returns-clause-small : goal.returns-clause-small
returns-clause-small c = (place_fits c.args.k c.args.scale c.weighted.result c.weighted-2.result c.requires.within c.requires.scale c.weighted.ensures.small c.weighted-2.ensures.small).small

pub returns-clause-place : goal.returns-clause-place
returns-clause-place c =
    let k = c.args.k in let scale = c.args.scale in let i = c.args.i in
    let from : FitsSigned w32 (at c.args.from.now i) = search rules in
    let to : FitsSigned w32 (at c.args.to.now i) = search rules in
    let early : c.weighted.result ≡ (pos scale -ℤ pos k) *ℤ at c.args.from.now i =
    (simp to_z-of_z at c.weighted.ensures.value) ∙ ap (λ z. z *ℤ at c.args.from.now i) (sym (rest_is k scale c.requires.within)) in
    let late : c.weighted-2.result ≡ pos k *ℤ at c.args.to.now i = simp to_z-of_z at c.weighted-2.ensures.value in
    (place_fits k scale c.weighted.result c.weighted-2.result c.requires.within c.requires.scale c.weighted.ensures.small c.weighted-2.ensures.small).value
    ∙ ap (λ z. z +ℤ c.weighted-2.result) early ∙ ap (λ z. (pos scale -ℤ pos k) *ℤ at c.args.from.now i +ℤ z) late
