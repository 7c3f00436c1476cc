-- What a step adds on a whole move, from the forms of it by the axes at both ends.
use Rattle.std.proofs.Common.{◌≡◌, ℕ, [], ◌∷◌, List, ℤ, pos, ◌*ℤ◌, ap₂, ◌∙◌}
use Rattle.space.specs.Sweeps.{SweepOf, axis_at, offset_at}
use Rattle.space.specs.Vectors.{at}
use Rattle.bern_form.specs.Cells.{dot_on_cell}
use Rattle.moment_forms.specs.declared.moments.Moments.{Moments}
use Rattle.ray_grid.specs.Grids.{GridSize}
use Rattle.ray_grid.specs.declared.ray.Family.TheVariants.{X, Y, Z}
use Rattle.ray_grid.specs.Lattice.{node_at}
use Rattle.wanted_marks.specs.declared.step_forms.StepForms.{StepForms}
use Rattle.wanted_marks.specs.GridForms.{IsStep, IsStepBy, crossed_form, moments_product, step_way}
use Rattle.wanted_marks.specs.Sheets.{AreMoments}
use Rattle.wanted_marks.proofs.OnStrips.{none_is, way_is}
use Rattle.wanted_marks.proofs.Stepping.{moments_are, product_is, same3}

pub step_is : (step : StepForms) (m : SweepOf) (s w v : List ℤ) (start : Moments) (a c : List ℤ) (S : ℕ) → IsStepBy step w start a c → w ≡ v
    → a ≡ axis_at m (pos 0) (pos S) → c ≡ axis_at m (pos S) (pos S)
    → AreMoments start (offset_at m s (pos 0) (pos S)) (offset_at m s (pos S) (pos S)) (axis_at m (pos 0) (pos S)) (axis_at m (pos S) (pos S)) → IsStep step m s v S
step_is step m s w v start a c S is ew ea ec from =
    let A = axis_at m (pos 0) (pos S) in let C = axis_at m (pos S) (pos S) in let P = offset_at m s (pos 0) (pos S) in let Q = offset_at m s (pos S) (pos S) in
    let x = step.moments in let moments = moments_are x w w a c v v A C is.moments ew ew ea ec in record {
      moments = moments;
      first_is = is.first_is
          ∙ product_is (pos 8) start.start start.middle start.end x.start x.middle x.end P Q v v A C from.start_is from.middle_is from.end_is moments.start_is moments.middle_is moments.end_is;
      second_is = is.second_is
          ∙ product_is (pos 4) x.start x.middle x.end x.start x.middle x.end v v v v A C moments.start_is moments.middle_is moments.end_is moments.start_is moments.middle_is moments.end_is;
      height_is = is.height_is ∙ ap₂ (λ p q. dot_on_cell p q a c) ew ew ∙ ap₂ (λ p q. dot_on_cell v v p q) ea ec;
    }

pub crossed_is : (x y : StepForms) (m : SweepOf) (s t v : List ℤ) (S : ℕ) → IsStep x m s t S → IsStep y m s v S → moments_product (pos 8) x.moments y.moments ≡ crossed_form m t v S
crossed_is x y m s t v S is_x is_y =
    let A = axis_at m (pos 0) (pos S) in let C = axis_at m (pos S) (pos S) in let p = x.moments in let q = y.moments in
    product_is (pos 8) p.start p.middle p.end q.start q.middle q.end t t v v A C is_x.moments.start_is is_x.moments.middle_is is_x.moments.end_is
    is_y.moments.start_is is_y.moments.middle_is is_y.moments.end_is

-- the ways of a step along each axis
pub way_x : (grid : GridSize) (S : ℕ) (w : ℤ) → w ≡ pos S *ℤ grid.step → w ∷ pos 0 ∷ pos 0 ∷ [] ≡ step_way grid X S
way_x grid S w e = same3 _ _ _ _ _ _ (e ∙ way_is (pos S) (at grid.origin 0) grid.step) (none_is (pos S) (node_at grid 1 0)) (none_is (pos S) (node_at grid 2 0))

pub way_y : (grid : GridSize) (S : ℕ) (w : ℤ) → w ≡ pos S *ℤ grid.step → pos 0 ∷ w ∷ pos 0 ∷ [] ≡ step_way grid Y S
way_y grid S w e = same3 _ _ _ _ _ _ (none_is (pos S) (node_at grid 0 0)) (e ∙ way_is (pos S) (at grid.origin 1) grid.step) (none_is (pos S) (node_at grid 2 0))

pub way_z : (grid : GridSize) (S : ℕ) (w : ℤ) → w ≡ pos S *ℤ grid.step → pos 0 ∷ pos 0 ∷ w ∷ [] ≡ step_way grid Z S
way_z grid S w e = same3 _ _ _ _ _ _ (none_is (pos S) (node_at grid 0 0)) (none_is (pos S) (node_at grid 1 0)) (e ∙ way_is (pos S) (at grid.origin 2) grid.step)
