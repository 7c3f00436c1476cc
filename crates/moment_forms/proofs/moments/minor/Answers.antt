use Rattle.std.proofs.Common.{◌≡◌, ◌*◌, ◌*ℤ◌, ◌-ℤ◌, ap₂, ◌∙◌}
use mir.Syntax.{w64}
use Rattle.bern_form.specs.Sizes.{axis_limit, offset_limit}
use Rattle.space.proofs.Reread.{back_of, small_as, small_back}
use Rattle.moment_forms.specs.Sizes.{part_limit}
use Rattle.moment_forms.proofs.Fits.{axis_fits, less_fits, less_is, less_same, minor_small, offset_fits, parts_fit}
use Rattle.moment_forms.proofs.moments.minor.Goals as goal

pub part-requires : goal.part-requires
part-requires c = record { p = small_back w64 c.args.p offset_limit offset_fits c.requires.p; a = small_back w64 c.args.b axis_limit axis_fits c.requires.b }

pub part-requires-2 : goal.part-requires-2
part-requires-2 c = record { p = small_back w64 c.args.q offset_limit offset_fits c.requires.q; a = small_back w64 c.args.a axis_limit axis_fits c.requires.a }

pub overflow_sub-result : goal.overflow_sub-result
overflow_sub-result c = less_fits w64 c.part.result c.part-2.result part_limit parts_fit c.part.ensures.small c.part-2.ensures.small

pub returns-clause-value : goal.returns-clause-value
returns-clause-value c =
    let x = c.part.result in let y = c.part-2.result in let g = c.args in let r = c.requires in
    let ex : x ≡ g.p *ℤ g.b = c.part.ensures.value ∙ ap₂ (λ s t. s *ℤ t) (back_of w64 g.p offset_limit offset_fits r.p) (back_of w64 g.b axis_limit axis_fits r.b) in
    let ey : y ≡ g.q *ℤ g.a = c.part-2.ensures.value ∙ ap₂ (λ s t. s *ℤ t) (back_of w64 g.q offset_limit offset_fits r.q) (back_of w64 g.a axis_limit axis_fits r.a) in
    less_is w64 x y part_limit parts_fit c.part.ensures.small c.part-2.ensures.small ∙ less_same x y _ _ ex ey

pub returns-clause-small : goal.returns-clause-small
returns-clause-small c =
    let a = c.args in let r = c.requires in
    small_as _ (a.p *ℤ a.b -ℤ a.q *ℤ a.a) (2 * part_limit) (returns-clause-value c) (minor_small a.p a.q a.a a.b offset_limit axis_limit r.p r.q r.a r.b)
