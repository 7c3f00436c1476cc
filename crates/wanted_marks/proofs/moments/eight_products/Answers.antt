use Rattle.std.proofs.Common.{◌≡◌, ℤ, pos, ◌*◌, ◌*ℤ◌, FitsSigned, to_z, of_z, ap, ◌∙◌}
use Rattle.std.proofs.lemmas.Int.{to_z-of_z}
use mir.Syntax.{w128}
use Rattle.space.proofs.Reread.{small_back}
use Rattle.moment_forms.specs.Sizes.{moments_limit}
use Rattle.moment_forms.proofs.Fits.{all_fit}
use Rattle.moment_forms.proofs.Middle.{five_same}
use Rattle.wanted_marks.proofs.moments.eight_products.Goals as goal

pub eight-requires : goal.eight-requires
eight-requires c = small_back w128 c.times.result (9 * (moments_limit * moments_limit)) all_fit c.times.ensures.small

pub eight-requires-2 : goal.eight-requires-2
eight-requires-2 c = small_back w128 c.times-2.result (9 * (moments_limit * moments_limit)) all_fit c.times-2.ensures.small

pub eight-requires-3 : goal.eight-requires-3
eight-requires-3 c = small_back w128 c.times-3.result (9 * (moments_limit * moments_limit)) all_fit c.times-3.ensures.small

pub eight-requires-4 : goal.eight-requires-4
eight-requires-4 c = small_back w128 c.times-4.result (9 * (moments_limit * moments_limit)) all_fit c.times-4.ensures.small

pub eight-requires-5 : goal.eight-requires-5
eight-requires-5 c = small_back w128 c.times-5.result (9 * (moments_limit * moments_limit)) all_fit c.times-5.ensures.small

eight_is : (x y z : ℤ) → FitsSigned w128 x → FitsSigned w128 y → y ≡ z → x ≡ pos 8 *ℤ to_z w128 (of_z w128 y) → to_z w128 (of_z w128 x) ≡ pos 8 *ℤ z
eight_is x y z hx hy e is = to_z-of_z w128 x hx ∙ is ∙ ap (λ t. pos 8 *ℤ t) (to_z-of_z w128 y hy ∙ e)

pub returns : goal.returns
returns c =
    let f0 : FitsSigned w128 c.eight.result = record { sfits = c.eight.type_inv } in let f1 : FitsSigned w128 c.eight-2.result = record { sfits = c.eight-2.type_inv } in let f2 : FitsSigned w128 c.eight-3.result = record { sfits = c.eight-3.type_inv } in
    let f3 : FitsSigned w128 c.eight-4.result = record { sfits = c.eight-4.type_inv } in let f4 : FitsSigned w128 c.eight-5.result = record { sfits = c.eight-5.type_inv } in
    let t0 : FitsSigned w128 c.times.result = record { sfits = c.times.type_inv } in let t1 : FitsSigned w128 c.times-2.result = record { sfits = c.times-2.type_inv } in let t2 : FitsSigned w128 c.times-3.result = record { sfits = c.times-3.type_inv } in
    let t3 : FitsSigned w128 c.times-4.result = record { sfits = c.times-4.type_inv } in let t4 : FitsSigned w128 c.times-5.result = record { sfits = c.times-5.type_inv } in
    five_same _ _ _ _ _ _ _ _ _ _ (eight_is c.eight.result c.times.result _ f0 t0 c.times.ensures.value c.eight.ensures) (eight_is c.eight-2.result c.times-2.result _ f1 t1 c.times-2.ensures.value c.eight-2.ensures)
    (eight_is c.eight-3.result c.times-3.result _ f2 t2 c.times-3.ensures.value c.eight-3.ensures) (eight_is c.eight-4.result c.times-4.result _ f3 t3 c.times-4.ensures.value c.eight-4.ensures)
    (eight_is c.eight-5.result c.times-5.result _ f4 t4 c.times-5.ensures.value c.eight-5.ensures)
