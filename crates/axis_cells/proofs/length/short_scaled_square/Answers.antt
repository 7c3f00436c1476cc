use Rattle.std.proofs.Common.{pos, ◌*ℤ◌, arith, ap, ◌∙◌}
use Rattle.std.proofs.lemmas.Int.{to_z-of_z}
use mir.Syntax.{w32, w64}
use Rattle.bern_form.specs.Sizes.{length_limit}
use Rattle.space.proofs.Reread.{product_fits, product_is}
use Rattle.axis_cells.proofs.length.short_scaled_square.Goals as goal

pub overflow_mul-result : goal.overflow_mul-result
overflow_mul-result c =
    let z = c.short_scaled-length.result in let small = c.short_scaled-length.ensures.small in
    product_fits w64 z z length_limit length_limit record { sfits = c.short_scaled-length.type_inv } record { sfits = c.short_scaled-length.type_inv } small small (omega arith)

pub returns : goal.returns
returns c =
    let z = c.short_scaled-length.result in let small = c.short_scaled-length.ensures.small in
    product_is w64 z z length_limit length_limit record { sfits = c.short_scaled-length.type_inv } record { sfits = c.short_scaled-length.type_inv } small small (omega arith)
    ∙ ap (λ t. t *ℤ t) (c.short_scaled-length.ensures.value ∙ ap (λ t. pos c.args.scale *ℤ t) (to_z-of_z w32 c.args.length c.ranges.length))
