use Rattle.std.proofs.Common.{sym, subst, ap, ap₂, pos, ◌*◌, ◌∙◌}
use Rattle.bern_form.specs.Forms.{all_negative, difference4, product22, scaled4}
use Rattle.bern_form.specs.Sizes.{IsBounded2, IsBounded4, axis_limit, offset_limit}
use Rattle.bern_form.proofs.Sizes.{small_as}
use Rattle.axis_cells.proofs.Bounds.{between_fits}
use Rattle.axis_cells.proofs.cell.Cell.between.Goals as goal

pub times22-height-requires : goal.times22-height-requires
times22-height-requires c =
    let first = c.args.first.now in let last = c.args.last.now in
    let fits = between_fits first.offset last.offset first.axis last.axis first.offset_within last.offset_within first.axis_within last.axis_within in
    small_as (ap (λ u. product22 u u) c.scalar_product_on_cell-u.ensures) fits.height

pub times22-requires : goal.times22-requires
times22-requires c =
    let first = c.args.first.now in let last = c.args.last.now in
    let fits = between_fits first.offset last.offset first.axis last.axis first.offset_within last.offset_within first.axis_within last.axis_within in
    small_as (ap₂ product22 c.scalar_product_on_cell-d.ensures c.scalar_product_on_cell-n.ensures) fits.both

pub minus4-spread-requires : goal.minus4-spread-requires
minus4-spread-requires c =
    let first = c.args.first.now in let last = c.args.last.now in
    let fits = between_fits first.offset last.offset first.axis last.axis first.offset_within last.offset_within first.axis_within last.axis_within in
    let height = c.times22-height.ensures.coefficients ∙ ap (λ u. product22 u u) c.scalar_product_on_cell-u.ensures in
    let both = c.times22.ensures.coefficients ∙ ap₂ product22 c.scalar_product_on_cell-d.ensures c.scalar_product_on_cell-n.ensures in
    small_as (ap₂ difference4 both height) fits.spread

pub scale4-requires : goal.scale4-requires
scale4-requires c =
    let first = c.args.first.now in let last = c.args.last.now in
    let fits = between_fits first.offset last.offset first.axis last.axis first.offset_within last.offset_within first.axis_within last.axis_within in
    let height = c.times22-height.ensures.coefficients ∙ ap (λ u. product22 u u) c.scalar_product_on_cell-u.ensures in
    let both = c.times22.ensures.coefficients ∙ ap₂ product22 c.scalar_product_on_cell-d.ensures c.scalar_product_on_cell-n.ensures in
    small_as (ap (scaled4 (pos 4)) (c.minus4-spread.ensures.coefficients ∙ ap₂ difference4 both height)) fits.width

pub returns-clause-behind : goal.returns-clause-behind
returns-clause-behind c = c.all_negative.ensures.exact ∙ ap all_negative c.scalar_product_on_cell-u.ensures

pub invariant_of-result : goal.invariant_of-result
invariant_of-result c =
    let first = c.args.first.now in let last = c.args.last.now in
    let fits = between_fits first.offset last.offset first.axis last.axis first.offset_within last.offset_within first.axis_within last.axis_within in
    let height = c.times22-height.ensures.coefficients ∙ ap (λ u. product22 u u) c.scalar_product_on_cell-u.ensures in
    let both = c.times22.ensures.coefficients ∙ ap₂ product22 c.scalar_product_on_cell-d.ensures c.scalar_product_on_cell-n.ensures in
    let width = c.scale4.ensures.coefficients ∙ ap (scaled4 (pos 4)) (c.minus4-spread.ensures.coefficients ∙ ap₂ difference4 both height) in
    record {
      scale_small = c.requires;
      n_small = subst (IsBounded2 (3 * (axis_limit * axis_limit))) (sym c.scalar_product_on_cell-n.ensures) fits.squares;
      height_small = subst (IsBounded4 (54 * (offset_limit * axis_limit) * (offset_limit * axis_limit))) (sym height) fits.height_small;
      width_small = subst (IsBounded4 (432 * (offset_limit * axis_limit) * (offset_limit * axis_limit))) (sym width) fits.width_small;
    }
