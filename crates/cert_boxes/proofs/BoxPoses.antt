-- The forms of a cell of a move by its poses at the first and the last sample, and the test of a box by these forms.
use Rattle.std.proofs.Common.{◌≡◌, ℕ, ◌+◌, Bool, List, ℤ, pos, ap, ◌∙◌}
use Rattle.std.specs.List.{list_all}
use Rattle.space.specs.Sweeps.{SweepOf, axis_at, offset_at}
use Rattle.bern_form.specs.Cells.{dot_on_cell}
use Rattle.bern_form.specs.Between.{d_between, n_between, u_between}
use Rattle.bern_form.specs.Forms.{lifted, product22}
use Rattle.bern_form.specs.Grids.{columns21, rows_negative}
use Rattle.bern_form.specs.Slab.{SlabSize}
use Rattle.ray_boxes.specs.Boxes.{height_column, is_excluded_across, is_excluded_by_grids, is_excluded_in_box, product_between, width_column}
use Rattle.cert_boxes.specs.Forms.{AreEndForms}

pub forms_of_poses : (m : SweepOf) (p : List ℤ) (j k S : ℕ) (P Q A C u n d : List ℤ) → P ≡ offset_at m p (pos j) (pos S) → Q ≡ offset_at m p (pos k) (pos S)
    → A ≡ axis_at m (pos j) (pos S) → C ≡ axis_at m (pos k) (pos S) → u ≡ dot_on_cell P Q A C → n ≡ dot_on_cell A C A C → d ≡ dot_on_cell P Q P Q → AreEndForms u n d m p j k S
forms_of_poses m p j k S P Q A C u n d eP eQ eA eC eu en ed =
    let P' = offset_at m p (pos j) (pos S) in let Q' = offset_at m p (pos k) (pos S) in let A' = axis_at m (pos j) (pos S) in record {
      u_is = eu ∙ ap (λ z. dot_on_cell z Q A C) eP ∙ ap (λ z. dot_on_cell P' z A C) eQ ∙ ap (λ z. dot_on_cell P' Q' z C) eA ∙ ap (λ z. dot_on_cell P' Q' A' z) eC;
      n_is = en ∙ ap (λ z. dot_on_cell z C z C) eA ∙ ap (λ z. dot_on_cell A' z A' z) eC;
      d_is = ed ∙ ap (λ z. dot_on_cell z Q z Q) eP ∙ ap (λ z. dot_on_cell P' z P' z) eQ;
    }

-- and the product of the offsets of two points
pub product_of_poses : (m : SweepOf) (p q : List ℤ) (j k S : ℕ) (P Q V W : List ℤ) → P ≡ offset_at m p (pos j) (pos S) → Q ≡ offset_at m p (pos k) (pos S)
    → V ≡ offset_at m q (pos j) (pos S) → W ≡ offset_at m q (pos k) (pos S) → dot_on_cell P Q V W ≡ product_between m p q j k S
product_of_poses m p q j k S P Q V W eP eQ eV eW =
    let P' = offset_at m p (pos j) (pos S) in let Q' = offset_at m p (pos k) (pos S) in let V' = offset_at m q (pos j) (pos S) in
    ap (λ z. dot_on_cell z Q V W) eP ∙ ap (λ z. dot_on_cell P' z V W) eQ ∙ ap (λ z. dot_on_cell P' Q' z W) eV ∙ ap (λ z. dot_on_cell P' Q' V' z) eW

-- the test of all slabs by the forms of a box
pub excluded_by_grids : (slabs : List SlabSize) (S : ℕ) (u v n d e g : List ℤ) {T : ℕ} {behind : Bool} {raised h0 h1 h2 w0 w1 w2 : List ℤ} → T ≡ S → behind ≡ rows_negative (columns21 u v) → raised ≡ lifted n
    → h0 ≡ product22 u u → h1 ≡ height_column (pos 2) u v → h2 ≡ product22 v v → w0 ≡ width_column (pos 4) d n u u → w1 ≡ width_column (pos 8) e n u v → w2 ≡ width_column (pos 4) g n v v
    → list_all (is_excluded_by_grids T behind raised h0 h1 h2 w0 w1 w2) slabs ≡ list_all (is_excluded_across S u v n d e g) slabs
excluded_by_grids slabs S u v n d e g eT eb er e0 e1 e2 f0 f1 f2 = λ t. list_all (is_excluded_by_grids (eT t) (eb t) (er t) (e0 t) (e1 t) (e2 t) (f0 t) (f1 t) (f2 t)) slabs

pub excluded_by_forms : (slabs : List SlabSize) (m : SweepOf) (p q : List ℤ) (j k S : ℕ) {u v n d e g : List ℤ} → u ≡ u_between m p j k S → v ≡ u_between m q j k S → n ≡ n_between m j k S → d ≡ d_between m p j k S
    → e ≡ product_between m p q j k S → g ≡ d_between m q j k S → list_all (is_excluded_across S u v n d e g) slabs ≡ list_all (is_excluded_in_box m p q j k S) slabs
excluded_by_forms slabs m p q j k S eu ev en ed ee eg = λ t. list_all (is_excluded_across S (eu t) (ev t) (en t) (ed t) (ee t) (eg t)) slabs

pub same_box : (slabs : List SlabSize) (m : SweepOf) (k : ℕ) {p p' q q' : List ℤ} {S S' : ℕ} → p ≡ p' → q ≡ q' → S ≡ S'
    → list_all (is_excluded_in_box m p q k (k + 1) S) slabs ≡ list_all (is_excluded_in_box m p' q' k (k + 1) S') slabs
same_box slabs m k ep eq eS = λ t. list_all (is_excluded_in_box m (ep t) (eq t) k (k + 1) (eS t)) slabs
