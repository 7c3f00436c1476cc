use Rattle.std.proofs.Common.{◌≤◌, ◌<◌, ◌*◌, ℕ, ℤ, List, unsigned_abs}
use Rattle.std.proofs.lemmas.Int.{to_z-of_z}
use Rattle.space.specs.Ranges.{IsWithin, vector_limit}
use Rattle.space.specs.Vectors.{at}
use Rattle.sweep_boxes.proofs.Boxed.{component_small}
use Rattle.sweep_boxes.proofs.Numbers.{change_below, squares_below}
use Rattle.space.proofs.Words.{at_x, at_y, at_z, fits_of, kept_small, kept_some}
use Rattle.sweep_boxes.proofs.change.change_limit.Goals as goal

-- what is known of the vectors is known of their components
axes_of : (d f t : List ℤ) (x y z : ℕ) → x < 3 → y < 3 → z < 3
    → record { c : IsWithin (2 * (vector_limit * vector_limit)) d; far : IsWithin vector_limit f; axis_change : IsWithin vector_limit t }
    → record {
      i : x < 3;
      j : y < 3;
      k : z < 3;
      c : unsigned_abs (at d x) ≤ 2 * (vector_limit * vector_limit);
      far_j : unsigned_abs (at f y) ≤ vector_limit;
      far_k : unsigned_abs (at f z) ≤ vector_limit;
      axis_change_j : unsigned_abs (at t y) ≤ vector_limit;
      axis_change_k : unsigned_abs (at t z) ≤ vector_limit;
    }
axes_of d f t x y z i j k known = record {
  i = i;
  j = j;
  k = k;
  c = component_small d x _ i known.c;
  far_j = component_small f y _ j known.far;
  far_k = component_small f z _ k known.far;
  axis_change_j = component_small t y _ j known.axis_change;
  axis_change_k = component_small t z _ k known.axis_change;
}

pub change_along-requires : goal.change_along-requires
change_along-requires c = axes_of c.args.c.now c.args.far.now c.args.axis_change.now 0 1 2 at_x at_y at_z c.requires

pub change_along-requires-2 : goal.change_along-requires-2
change_along-requires-2 c = axes_of c.args.c.now c.args.far.now c.args.axis_change.now 1 2 0 at_y at_z at_x c.requires

pub change_along-requires-3 : goal.change_along-requires-3
change_along-requires-3 c = axes_of c.args.c.now c.args.far.now c.args.axis_change.now 2 0 1 at_z at_x at_y c.requires

pub length_up-requires : goal.length_up-requires
length_up-requires c = record {
  a = kept_small c.change_along.result _ c.change_along.type_inv c.change_along.ensures.small;
  b = kept_small c.change_along-2.result _ c.change_along-2.type_inv c.change_along-2.ensures.small;
  c = kept_small c.change_along-3.result _ c.change_along-3.type_inv c.change_along-3.ensures.small;
}

pub returns-clause-some : goal.returns-clause-some
returns-clause-some c = kept_some c.length_up.result c.length_up.type_inv c.length_up.ensures.some

pub returns-clause-small : goal.returns-clause-small
returns-clause-small c = kept_small c.length_up.result _ c.length_up.type_inv c.length_up.ensures.small

pub returns-clause-value : goal.returns-clause-value
returns-clause-value c v e near small =
    let x = fits_of c.change_along.result c.change_along.type_inv in
    let y = fits_of c.change_along-2.result c.change_along-2.type_inv in
    let z = fits_of c.change_along-3.result c.change_along-3.type_inv in
    let r = fits_of c.length_up.result c.length_up.type_inv in
    let t = c.args.axis_change.now in let f = c.args.far.now in let d = c.args.c.now in
    simp to_z-of_z (squares_below _ _ _ c.change_along.result c.change_along-2.result c.change_along-3.result _
    (change_below (at d 0) (at v 1) (at v 2) (at e 1) (at e 2) (at f 1) (at f 2) (at t 1) (at t 2) c.change_along.result near.y near.z small.y small.z c.change_along.ensures.value)
    (change_below (at d 1) (at v 2) (at v 0) (at e 2) (at e 0) (at f 2) (at f 0) (at t 2) (at t 0) c.change_along-2.result near.z near.x small.z small.x c.change_along-2.ensures.value)
    (change_below (at d 2) (at v 0) (at v 1) (at e 0) (at e 1) (at f 0) (at f 1) (at t 0) (at t 1) c.change_along-3.result near.x near.y small.x small.y c.change_along-3.ensures.value)
    (simp to_z-of_z at c.length_up.ensures.value))
