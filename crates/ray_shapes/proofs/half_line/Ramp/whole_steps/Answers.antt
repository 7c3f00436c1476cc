use Rattle.std.proofs.Common.{◌≡◌, ◌-ℤ◌, ◌/◌, subst, sym, unsigned_abs, rules, w64, FitsSigned, ℕ, ◌≤◌, ◌↔◌, ◌+ℤ◌, ◌≤ℤ◌, ◌*◌, pos}
use Rattle.std.proofs.lemmas.Int.{to_z-of_z}
use Rattle.ray_shapes.proofs.Rising.{steps_fit}
use Rattle.ray_shapes.proofs.half_line.Ramp.whole_steps.Goals as goal

pub returns : goal.returns
returns c =
    let side = c.args.self.now in
    let value_fits = c.ranges.value in
    let limit_fits : FitsSigned w64 side.limit = search rules in
    let slope_fits : FitsSigned w64 side.slope = search rules in
    let small = c.requires.small in
    let size : c.unsigned_abs.result ≡ unsigned_abs (side.limit -ℤ c.args.value) = simp to_z-of_z at c.unsigned_abs.ensures.value in
    let steep : c.unsigned_abs-2.result ≡ unsigned_abs side.slope = simp to_z-of_z at c.unsigned_abs-2.ensures.value in
    λ n.
    subst (λ (k : ℕ). (n ≤ c.unsigned_abs.result / k) ↔ ((c.args.value +ℤ pos (n * unsigned_abs side.slope)) ≤ℤ side.limit)) (sym steep)
    (steps_fit c.args.value side.limit c.unsigned_abs.result (unsigned_abs side.slope) n c.requires.below size c.requires.slope)
