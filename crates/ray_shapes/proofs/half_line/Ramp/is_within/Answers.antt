-- The value is compared with the limit.
use Rattle.std.proofs.Common.{◌+ℤ◌, ◌*ℤ◌, pos, int_le, FitsSigned, rules, ap₂, sym, ◌∙◌}
use Rattle.std.proofs.lemmas.Int.{to_z-of_z}
use mir.Syntax.{w64}
use Rattle.space.proofs.Tests.{decides_le}
use Rattle.ray_shapes.proofs.half_line.Ramp.is_within.Goals as goal

pub returns : goal.returns
returns c =
    let ramp = c.args.self.now in let value = c.value_at.result in
    let fv : FitsSigned w64 value = search rules in let fl : FitsSigned w64 ramp.limit = search rules in
    let told = ap₂ int_le (to_z-of_z w64 value fv ∙ c.value_at.ensures) (to_z-of_z w64 ramp.limit fl) in
    let decides = decides_le (ramp.start +ℤ (ramp.slope *ℤ pos c.args.l)) ramp.limit in
    (λ yes. decides.0 (sym told ∙ yes), λ under. told ∙ decides.1 under)
