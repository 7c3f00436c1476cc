-- What the line of a ray has is what the first ray's has, moved by the number of the ray.
use Rattle.std.proofs.Common.{◌≡◌, List, ℤ, pos, refl, ◌∙◌}
use Rattle.bern_form.specs.Forms.{scaled4}
use Rattle.moment_forms.specs.Moments.{vector_product}
use Rattle.wanted_marks.proofs.sheet.Sheet.line.Goals as goal

own_square : (x y z x' y' z' : List ℤ) → x ≡ x' → y ≡ y' → z ≡ z'
    → scaled4 (pos 4) (vector_product x y z x y z) ≡ scaled4 (pos 4) (vector_product x' y' z' x' y' z')
own_square x y z x' y' z' e f g = λ i. scaled4 (pos 4) (vector_product (e i) (f i) (g i) (e i) (f i) (g i))

pub moved4-requires : goal.moved4-requires
moved4-requires c = c.requires.first

pub returns : goal.returns
returns c =
    let x = c.moved-moments.ensures in record {
      constant_is = c.four_squares.ensures ∙ own_square _ _ _ _ _ _ x.start x.middle x.end;
      first_is = c.moved4.ensures;
      second_is = refl;
      height_is = c.heights_moved.ensures;
      height_step_is = refl;
    }
