use Rattle.std.proofs.Common.{◌≡◌, ◌<ℤ◌, Contains, FitsSigned, not, rules}
use Rattle.std.proofs.lemmas.Int.{to_z-of_z}
use mir.Syntax.{w64, w128}
use Rattle.near_points.specs.Trimmed.{is_within}
use Rattle.near_points.proofs.Trimming.{not_yes}
use Rattle.near_points.proofs.trim.is_out.Goals as goal

pub returns-in-Some : goal.returns-in-Some
returns-in-Some c = λ yes.
    let band = c.in-Some.band.now in
    let fh : FitsSigned w64 c.args.height = search rules in let fs : FitsSigned w64 c.args.side = search rules in
    let fw : FitsSigned w128 c.args.width = search rules in
    let told : Contains c.args.bands.now band × (c.args.height <ℤ band.height) = simp to_z-of_z at c.in-Some.ensures in
    let beyond : c.is_beyond.result ≡ not (is_within band c.args.side c.args.width) = simp to_z-of_z at c.is_beyond.ensures in
    record {
      band = band;
      one = told.0;
      below = told.1;
      beyond = not_yes (is_within band c.args.side c.args.width) c.is_beyond.result beyond yes;
    }
