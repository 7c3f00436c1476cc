use Rattle.std.proofs.Common.{pos, ◌+ℤ◌, ◌*ℤ◌, rules, ap₂, ℤ, subst, sym, ◌∙◌, w64, FitsSigned}
use Rattle.std.proofs.lemmas.Int.{to_z-of_z}
use Rattle.ray_shapes.specs.Sizes.{IsTerm}
use Rattle.ray_shapes.proofs.OnLines.{value_along}
use Rattle.ray_shapes.proofs.plane.Plane.ramp.Goals as goal

pub returns-clause-value : goal.returns-clause-value
returns-clause-value c =
    let line = c.args.line.now in
    let fits_start : FitsSigned w64 c.value_on.result = search rules in
    let fits_slope : FitsSigned w64 c.rise.result = search rules in
    λ l. value_along c.args.self.now line.family line.first line.step l
    ∙ sym (ap₂ (λ s k. s +ℤ (k *ℤ pos l)) (to_z-of_z w64 c.value_on.result fits_start ∙ c.value_on.ensures.value) (to_z-of_z w64 c.rise.result fits_slope ∙ c.rise.ensures.value))

pub value_on-requires : goal.value_on-requires
value_on-requires c = let line = c.args.line.now.in_range in (line.x, line.y, line.z)

pub returns-clause-start : goal.returns-clause-start
returns-clause-start c = subst IsTerm (sym (to_z-of_z w64 c.value_on.result (search rules))) c.value_on.ensures.small

pub returns-clause-rise : goal.returns-clause-rise
returns-clause-rise c = λ l lt. subst (λ (z : ℤ). IsTerm (z *ℤ pos l)) (sym (to_z-of_z w64 c.rise.result (search rules))) (c.rise.ensures.small l lt)
