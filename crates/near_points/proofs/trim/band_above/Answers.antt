use Rattle.std.proofs.Common.{ℕ, ◌≡◌, ◌<◌, ◌≤◌, ◌+◌, FitsSigned, int_lt, length, get_or, arith, rules, ap₂, sym, ◌∙◌}
use Rattle.std.proofs.lemmas.Int.{to_z-of_z}
use Rattle.std.proofs.lemmas.List.Elements.{Contains-get_or}
use mir.Syntax.{w64}
use Rattle.space.proofs.Tests.{decides_lt}
use Rattle.sweep_boxes.specs.declared.band.Band.{Band}
use Rattle.near_points.proofs.trim.band_above.Goals as goal

-- the steps stay among eight bands
within_eight : (n half quarter rest : ℕ) → n ≡ 8 → half ≤ 4 → quarter ≤ 2 → rest ≤ 1 → (half + quarter) + rest < n
within_eight n half quarter rest e a b c = omega arith

pub returns-then-height-band : goal.returns-then-height-band
returns-then-height-band c =
    let bands = c.args.bands.now in let half = c.passed_over-half in let quarter = c.passed_over-quarter in let rest = c.passed_over-rest in
    let band : Band = get_or bands ((half.result + quarter.result) + rest.result) c.index-bands-half.result in
    let fits : FitsSigned w64 band.height = search rules in
    let told = ap₂ int_lt (to_z-of_z w64 c.args.height c.ranges.height) (to_z-of_z w64 band.height fits) in (
      Contains-get_or bands _ c.index-bands-half.result
          (within_eight (length bands) half.result quarter.result rest.result c.told-bands half.ensures quarter.ensures rest.ensures),
      (decides_lt c.args.height band.height).0 (sym told ∙ c.if-height-band.true),
    )
