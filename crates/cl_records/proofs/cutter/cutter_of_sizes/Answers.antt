use Rattle.std.proofs.Common.{rules, ◌≡◌, ◌≢◌, ℕ, true, false, sym, subst, ◌∙◌, ap}
use Rattle.space.specs.Flanks.{is_flank}
use Rattle.cl_records.specs.Cutters.{degrees_of, is_angle_refused}
use Rattle.cl_records.specs.Ranges.{IsCone}
use Rattle.cl_records.proofs.ConeLemmas.{cone_read, flank_read}
use Rattle.cl_records.proofs.cutter.cutter_of_sizes.Goals as goal

pub returns-else-is_angle_refused-clause-sizes : goal.returns-else-is_angle_refused-clause-sizes
returns-else-is_angle_refused-clause-sizes c =
    let a = c.size_or_zero-a.result in
    let b = c.size_or_zero-b.result in
    let d = c.diameter-d.result in
    let r = c.counted_corner-r.result in
    let h = c.height-h.result in
    let flank = c.degrees_of-flank.result in
    let passed : is_angle_refused a b d r h ≡ false = search rules in
    let degrees : flank ≡ degrees_of b = search rules in
    let read : is_flank flank ≡ true = ap is_flank degrees ∙ flank_read a b d r h passed in
    let cone : flank ≢ 0 → IsCone (record { d = d; r = r; h = h; flank = flank }) =
    subst (λ (n : ℕ). n ≢ 0 → IsCone (record { d = d; r = r; h = h; flank = n })) (sym degrees) (cone_read a b d r h passed) in
    search rules
