-- The cylinders of moves, one move more at a time.
use Rattle.std.proofs.Common.{◌≡◌, ◌∙◌, true, ℕ, ◌+◌, ◌<◌, ◌^◌, List, ℤ, [], ◌∷◌, ◌++◌, ⊎_elim, length, get_or, arith, ap, refl, subst, sym}
use Rattle.std.proofs.lemmas.Bool.{cases_lt}
use Rattle.std.proofs.lemmas.List.{get_or_append_left, length-append}
use Rattle.std.proofs.lemmas.Option.{get_or_from_slice_get}
use Rattle.std.proofs.Math.Seq.{get_or-append_seam}
use Rattle.cutter_marks.specs.MarkBy.{is_possible_by}
use Rattle.ray_grid.specs.Grids.{GridSize}
use Rattle.ray_grid.specs.declared.ray.Ray.{Ray}
use Rattle.ray_grid.specs.Lattice.{IsRay, point_of, points_of}
use Rattle.sweep_boxes.specs.declared.cylinder.BoundingCylinder.{BoundingCylinder}
use Rattle.sweep_boxes.specs.declared.point_box.PointBox.{PointBox}
use Rattle.sweep_boxes.specs.Boxes.{IsInBox}
use Rattle.sweep_boxes.specs.Cylinders.{IsInCylinder}
use Rattle.job_model.specs.Tasks.{JobMove, PlanOf}
use Rattle.strip_plan.specs.Cylinders.{HasCylinders}
use Rattle.strip_plan.specs.Plans.{HasNumber}
use Rattle.strip_plan.specs.Windows.{HoldsMet}

pub no_cylinders : (grid : GridSize) (slabs depth : ℕ) (moves : List JobMove) → HasCylinders grid slabs depth moves [] 0
no_cylinders grid slabs depth moves = record { many = refl; each = λ n move d ray l lt at is. absurd (omega (arith, lt)) }

-- one move more, by a cylinder that holds what is possible in a region that has the whole lattice
pub more_cylinders : (grid : GridSize) (slabs depth : ℕ) (moves : List JobMove) (cylinders : List BoundingCylinder) (count : ℕ) (next : JobMove) (region : PointBox)
    (cylinder : BoundingCylinder) → HasCylinders grid slabs depth moves cylinders count → next ≡ get_or moves count next
    → ((ray : Ray) (l : ℕ) → IsRay grid ray → l < points_of grid ray.family → IsInBox region (point_of grid ray l))
    → ((p : List ℤ) → IsInBox region p → is_possible_by next.cutter slabs next.sweep p (2 ^ depth) ≡ true → IsInCylinder cylinder p)
    → HasCylinders grid slabs depth moves (cylinders ++ cylinder ∷ []) (count + 1)
more_cylinders grid slabs depth moves cylinders count next region cylinder has read holds held =
    let many = has.many in
    record {
      many = omega (arith, length-append cylinders (cylinder ∷ []), many);
      each = λ n move d ray l lt at is.
          ⊎_elim
          (λ less.
          subst (λ (c : BoundingCylinder). IsInCylinder c (point_of grid ray l)) (sym (get_or_append_left cylinders (cylinder ∷ []) d n (omega (arith, less, many))))
          (has.each n move d ray l less at is))
          (λ most.
          let e : n ≡ count = omega (arith, lt, most) in
          let same : next ≡ move = read ∙ ap (λ i. get_or moves i next) (sym e) ∙ get_or_from_slice_get moves n move next at in
          let own : get_or (cylinders ++ cylinder ∷ []) n d ≡ cylinder =
          ap (λ k. get_or (cylinders ++ cylinder ∷ []) k d) (let q : n ≡ length cylinders = omega (arith, e, many) in q) ∙ get_or-append_seam cylinders cylinder [] d in
          let mine =
          subst (λ (m : JobMove). (p : List ℤ) → IsInBox region p → is_possible_by m.cutter slabs m.sweep p (2 ^ depth) ≡ true → IsInCylinder cylinder p) same held in
          subst (λ (c : BoundingCylinder). IsInCylinder c (point_of grid ray l)) (sym own)
          (mine (point_of grid ray l) (holds ray l is.on_grid is.index) is.possible))
          (cases_lt n count);
    }

-- the cylinder of a move of a plan holds what is met
pub cylinder_holds : (plan : PlanOf) (cylinders : List BoundingCylinder) (number : ℕ) (cylinder : BoundingCylinder) (move : JobMove)
    → HasCylinders plan.grid plan.slabs plan.depth plan.moves cylinders (length plan.moves) → number < length plan.moves
    → cylinder ≡ get_or cylinders number cylinder → HasNumber plan number move → HoldsMet plan move cylinder
cylinder_holds plan cylinders number cylinder move has lt read named ray l is =
    subst (λ (c : BoundingCylinder). IsInCylinder c (point_of plan.grid ray l)) (sym read)
    (has.each number move cylinder ray l lt named (record { on_grid = is.on_grid; index = is.index; possible = is.possible }))
