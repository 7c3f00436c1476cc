use Rattle.std.proofs.Common.{◌≡◌, pos, ◌-ℤ◌, ◌*ℤ◌, int_lt, FitsSigned, rules, sym, ap, ap₂, ◌∙◌}
use Rattle.std.proofs.lemmas.Int.{to_z-of_z}
use mir.Syntax.{w64, w128}
use Rattle.space.proofs.Tests.{decides_lt}
use Rattle.near_points.proofs.Bits.{as_bits}
use Rattle.near_points.proofs.Trimming.{beyond_about, beyond_left, beyond_right, left_told, not_less, right_told}
use Rattle.near_points.proofs.trim.is_beyond.Goals as goal

pub returns-then-side-band : goal.returns-then-side-band
returns-then-side-band c =
    let band = c.args.band.now in let side = c.args.side in
    let fs : FitsSigned w64 side = search rules in let fc : FitsSigned w64 band.across = search rules in
    beyond_left band side c.args.width ((decides_lt side (pos 0 -ℤ band.across)).0 (sym (left_told band side fs fc) ∙ c.if-side-band.true))

pub returns-then-band-side : goal.returns-then-band-side
returns-then-band-side c =
    let band = c.args.band.now in let side = c.args.side in
    let fs : FitsSigned w64 side = search rules in let fc : FitsSigned w64 band.across = search rules in
    beyond_right band side c.args.width ((decides_lt band.across side).0 (sym (right_told band side fs fc) ∙ c.if-band-side.true))

pub returns : goal.returns
returns c =
    let band = c.args.band.now in let side = c.args.side in let width = c.args.width in
    let m = c.from-moment.result in
    let fs : FitsSigned w64 side = search rules in let fc : FitsSigned w64 band.across = search rules in
    let fl : FitsSigned w64 band.moment = search rules in let fw : FitsSigned w128 width = search rules in
    let fm : FitsSigned w128 m = search rules in let square_fits : FitsSigned w128 (m *ℤ m) = search rules in
    let from = not_less side (pos 0 -ℤ band.across) (sym (left_told band side fs fc) ∙ c.if-side-band.false) in
    let to = not_less band.across side (sym (right_told band side fs fc) ∙ c.if-band-side.false) in
    let moment : m ≡ band.moment = c.from-moment.ensures ∙ to_z-of_z w64 band.moment fl in
    let square = as_bits w128 _ (m *ℤ m) (ap (λ z. z *ℤ z) (to_z-of_z w128 m fm)) square_fits ∙ ap (λ z. z *ℤ z) moment in
    ap₂ int_lt square (to_z-of_z w128 width fw) ∙ beyond_about band side width from to
