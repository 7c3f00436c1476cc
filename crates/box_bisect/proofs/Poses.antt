-- The forms of a stretch of a move by its poses at the first and the last sample.
use Rattle.std.proofs.Common.{◌≡◌, ℕ, List, ℤ, pos, ap, ap₂, ◌∙◌, subst}
use Rattle.space.specs.Sweeps.{SweepOf, axis_at, offset_at}
use Rattle.bern_form.specs.Cells.{dot_on_cell}
use Rattle.ray_boxes.specs.Boxes.{product_between}
use Rattle.box_bisect.specs.Stretches.{AreFormsBetween}

pub forms_of_poses : (m : SweepOf) (p : List ℤ) (j k S : ℕ) (P Q A C u n d : List ℤ) → P ≡ offset_at m p (pos j) (pos S) → Q ≡ offset_at m p (pos k) (pos S)
    → A ≡ axis_at m (pos j) (pos S) → C ≡ axis_at m (pos k) (pos S) → u ≡ dot_on_cell P Q A C → n ≡ dot_on_cell A C A C → d ≡ dot_on_cell P Q P Q → AreFormsBetween u n d m p j k S
forms_of_poses m p j k S P Q A C u n d eP eQ eA eC eu en ed =
    let P' = offset_at m p (pos j) (pos S) in let Q' = offset_at m p (pos k) (pos S) in let A' = axis_at m (pos j) (pos S) in record {
      u_is = eu ∙ ap (λ z. dot_on_cell z Q A C) eP ∙ ap (λ z. dot_on_cell P' z A C) eQ ∙ ap (λ z. dot_on_cell P' Q' z C) eA ∙ ap (λ z. dot_on_cell P' Q' A' z) eC;
      n_is = en ∙ ap (λ z. dot_on_cell z C z C) eA ∙ ap (λ z. dot_on_cell A' z A' z) eC;
      d_is = ed ∙ ap (λ z. dot_on_cell z Q z Q) eP ∙ ap (λ z. dot_on_cell P' z P' z) eQ;
    }

-- the same by what the point and the last sample are equal to
pub poses_on : (m : SweepOf) (p q : List ℤ) (j k l S : ℕ) (P Q A C u n d : List ℤ) → p ≡ q → k ≡ l → P ≡ offset_at m p (pos j) (pos S) → Q ≡ offset_at m p (pos k) (pos S)
    → A ≡ axis_at m (pos j) (pos S) → C ≡ axis_at m (pos k) (pos S) → u ≡ dot_on_cell P Q A C → n ≡ dot_on_cell A C A C → d ≡ dot_on_cell P Q P Q → AreFormsBetween u n d m q j l S
poses_on m p q j k l S P Q A C u n d ep ek eP eQ eA eC eu en ed =
    subst (λ i. AreFormsBetween u n d m q j i S) ek (subst (λ z. AreFormsBetween u n d m z j k S) ep (forms_of_poses m p j k S P Q A C u n d eP eQ eA eC eu en ed))

-- and the product of the offsets of two points
pub product_on : (m : SweepOf) (p p' q q' : List ℤ) (j k l S : ℕ) (P Q V W : List ℤ) → p ≡ p' → q ≡ q' → k ≡ l → P ≡ offset_at m p (pos j) (pos S) → Q ≡ offset_at m p (pos k) (pos S)
    → V ≡ offset_at m q (pos j) (pos S) → W ≡ offset_at m q (pos k) (pos S) → dot_on_cell P Q V W ≡ product_between m p' q' j l S
product_on m p p' q q' j k l S P Q V W ep eq ek eP eQ eV eW =
    let P' = offset_at m p (pos j) (pos S) in let Q' = offset_at m p (pos k) (pos S) in let V' = offset_at m q (pos j) (pos S) in
    ap (λ z. dot_on_cell z Q V W) eP ∙ ap (λ z. dot_on_cell P' z V W) eQ ∙ ap (λ z. dot_on_cell P' Q' z W) eV ∙ ap (λ z. dot_on_cell P' Q' V' z) eW
    ∙ ap₂ (λ s t. product_between m s t j k S) ep eq ∙ ap (λ i. product_between m p' q' j i S) ek
