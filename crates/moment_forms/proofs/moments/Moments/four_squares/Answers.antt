use Rattle.std.proofs.Common.{◌≡◌, ℤ, pos, ◌*◌, ◌*ℤ◌, FitsSigned, to_z, of_z, ap, ◌∙◌}
use Rattle.std.proofs.lemmas.Int.{to_z-of_z}
use mir.Syntax.{w128}
use Rattle.space.proofs.Reread.{small_back}
use Rattle.moment_forms.specs.Sizes.{moments_limit}
use Rattle.moment_forms.proofs.Fits.{all_fit}
use Rattle.moment_forms.proofs.Middle.{five_same}
use Rattle.moment_forms.proofs.moments.Moments.four_squares.Goals as goal

pub four-requires : goal.four-requires
four-requires c = small_back w128 c.squared.result (9 * (moments_limit * moments_limit)) all_fit c.squared.ensures.small

pub four-requires-2 : goal.four-requires-2
four-requires-2 c = small_back w128 c.squared-2.result (9 * (moments_limit * moments_limit)) all_fit c.squared-2.ensures.small

pub four-requires-3 : goal.four-requires-3
four-requires-3 c = small_back w128 c.squared-3.result (9 * (moments_limit * moments_limit)) all_fit c.squared-3.ensures.small

pub four-requires-4 : goal.four-requires-4
four-requires-4 c = small_back w128 c.squared-4.result (9 * (moments_limit * moments_limit)) all_fit c.squared-4.ensures.small

pub four-requires-5 : goal.four-requires-5
four-requires-5 c = small_back w128 c.squared-5.result (9 * (moments_limit * moments_limit)) all_fit c.squared-5.ensures.small

four_is : (x y z : ℤ) → FitsSigned w128 x → FitsSigned w128 y → y ≡ z → x ≡ pos 4 *ℤ to_z w128 (of_z w128 y) → to_z w128 (of_z w128 x) ≡ pos 4 *ℤ z
four_is x y z hx hy e is = to_z-of_z w128 x hx ∙ is ∙ ap (λ t. pos 4 *ℤ t) (to_z-of_z w128 y hy ∙ e)

pub returns : goal.returns
returns c =
    let f0 : FitsSigned w128 c.four.result = record { sfits = c.four.type_inv } in let f1 : FitsSigned w128 c.four-2.result = record { sfits = c.four-2.type_inv } in let f2 : FitsSigned w128 c.four-3.result = record { sfits = c.four-3.type_inv } in
    let f3 : FitsSigned w128 c.four-4.result = record { sfits = c.four-4.type_inv } in let f4 : FitsSigned w128 c.four-5.result = record { sfits = c.four-5.type_inv } in
    let t0 : FitsSigned w128 c.squared.result = record { sfits = c.squared.type_inv } in let t1 : FitsSigned w128 c.squared-2.result = record { sfits = c.squared-2.type_inv } in let t2 : FitsSigned w128 c.squared-3.result = record { sfits = c.squared-3.type_inv } in
    let t3 : FitsSigned w128 c.squared-4.result = record { sfits = c.squared-4.type_inv } in let t4 : FitsSigned w128 c.squared-5.result = record { sfits = c.squared-5.type_inv } in
    five_same _ _ _ _ _ _ _ _ _ _ (four_is c.four.result c.squared.result _ f0 t0 c.squared.ensures.value c.four.ensures) (four_is c.four-2.result c.squared-2.result _ f1 t1 c.squared-2.ensures.value c.four-2.ensures)
    (four_is c.four-3.result c.squared-3.result _ f2 t2 c.squared-3.ensures.value c.four-3.ensures) (four_is c.four-4.result c.squared-4.result _ f3 t3 c.squared-4.ensures.value c.four-4.ensures)
    (four_is c.four-5.result c.squared-5.result _ f4 t4 c.squared-5.ensures.value c.four-5.ensures)
