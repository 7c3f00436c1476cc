use Rattle.std.proofs.Common.{◌∙◌, ◌||◌, ap, sym, w32}
use Rattle.std.proofs.lemmas.Int.{to_z-of_z}
use Rattle.cl_records.specs.Cutters.{is_cone_refused}
use Rattle.cl_records.proofs.flank.is_flank_refused.Goals as goal

pub returns-else-is_flank_odd : goal.returns-else-is_flank_odd
returns-else-is_flank_odd c =
    let b = to_z-of_z w32 c.args.b c.ranges.b in
    let d = to_z-of_z w32 c.args.d c.ranges.d in
    let r = to_z-of_z w32 c.args.r c.ranges.r in
    let odd = sym c.is_flank_odd.ensures ∙ c.if-is_flank_odd.false in
    let cone = c.is_cone_refused.ensures in
    (rw (b, d, r) at cone) ∙ ap (λ t. t || is_cone_refused c.args.b c.args.d c.args.r c.args.h) (sym (rw b at odd))
