use Rattle.std.proofs.Common.{pos, ◌+ℤ◌, ◌*ℤ◌, ap, ◌∙◌, rules, w32, FitsSigned}
use Rattle.std.proofs.lemmas.Int.{to_z-of_z}
use Rattle.setup_file.proofs.Raised.{raises, same_plane}
use Rattle.setup_file.proofs.shift.shifted_plane.Goals as goal

pub overflow_mul-result : goal.overflow_mul-result
overflow_mul-result c =
    let amount = c.from.ensures ∙ to_z-of_z _ _ c.ranges.by in
    (raises c.args.plane.now.d c.args.by c.from.result c.from-2.result c.normal_length.result c.requires.plane.d_in c.requires.by c.normal_length.ensures.short amount c.from-2.ensures).product

pub overflow_add-result : goal.overflow_add-result
overflow_add-result c =
    let amount = c.from.ensures ∙ to_z-of_z _ _ c.ranges.by in
    (raises c.args.plane.now.d c.args.by c.from.result c.from-2.result c.normal_length.result c.requires.plane.d_in c.requires.by c.normal_length.ensures.short amount c.from-2.ensures).sum

pub returns : goal.returns
returns c =
    let a : FitsSigned w32 c.args.plane.now.a = search rules in
    let b : FitsSigned w32 c.args.plane.now.b = search rules in
    let n : FitsSigned w32 c.args.plane.now.c = search rules in
    let amount = c.from.ensures ∙ to_z-of_z _ _ c.ranges.by in
    let sum = raises c.args.plane.now.d c.args.by c.from.result c.from-2.result c.normal_length.result c.requires.plane.d_in c.requires.by c.normal_length.ensures.short amount c.from-2.ensures in
    same_plane _ _ _ _ _ _ _ _ (to_z-of_z w32 c.args.plane.now.a a) (to_z-of_z w32 c.args.plane.now.b b) (to_z-of_z w32 c.args.plane.now.c n)
    (sum.value ∙ ap (λ l. c.args.plane.now.d +ℤ (c.args.by *ℤ pos l)) c.normal_length.ensures.length)
