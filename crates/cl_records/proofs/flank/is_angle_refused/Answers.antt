-- The angle of the bottom is 0, so the flank decides.
use Rattle.std.proofs.Common.{◌∙◌, ◌||◌, ap, sym, w32}
use Rattle.std.proofs.lemmas.Int.{to_z-of_z}
use Rattle.cl_records.specs.Cutters.{is_flank_refused}
use Rattle.cl_records.proofs.flank.is_angle_refused.Goals as goal

pub returns-else-leans : goal.returns-else-leans
returns-else-leans c =
    let a = to_z-of_z w32 c.args.a c.ranges.a in
    let b = to_z-of_z w32 c.args.b c.ranges.b in
    let d = to_z-of_z w32 c.args.d c.ranges.d in
    let r = to_z-of_z w32 c.args.r c.ranges.r in
    let upright = sym c.leans.ensures ∙ c.if-leans.false in
    let flank = c.is_flank_refused.ensures in
    (rw (b, d, r) at flank) ∙ ap (λ t. t || is_flank_refused c.args.b c.args.d c.args.r c.args.h) (sym (rw a at upright))
