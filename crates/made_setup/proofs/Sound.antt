-- The generated setup's numbers are all in their ranges.
use Rattle.std.proofs.Common.{ℕ, ◌≤◌, pos, neg_ℤ, List, [], ◌∷◌, inl, refl, arith}
use Rattle.std.proofs.lemmas.Int.{ints}
use Rattle.std.proofs.lemmas.List.Elements.{All-cons, All-nil}
use Rattle.space.specs.Ranges.{IsBetween, metre}
use Rattle.ray_shapes.specs.declared.plane.Plane.{Plane}
use Rattle.setup_file.specs.Bodies.{box_planes}
use Rattle.setup_file.specs.Limits.{most_other_bodies, most_stock_bodies}
use Rattle.setup_file.specs.Sound.{AreBodies, IsBody, IsSetup}
use Rattle.setup_file.proofs.Boxes.{box_valid}
use Rattle.made_setup.specs.Made.{made_setup}

-- a coordinate that isn't below 0
near : (n : ℕ) → n ≤ metre → IsBetween (neg_ℤ (pos metre)) (pos metre) (pos n)
near n within = record { from_least = omega (arith, ints); to_most = omega (arith, ints, within) }

-- the box up to a corner within a metre is a body
box_sound : (x y z : ℕ) → x ≤ metre → y ≤ metre → z ≤ metre → IsBody (box_planes (pos 0 ∷ pos 0 ∷ pos 0 ∷ pos x ∷ pos y ∷ pos z ∷ []))
box_sound x y z along_x along_y along_z =
    box_valid (pos 0 ∷ pos 0 ∷ pos 0 ∷ pos x ∷ pos y ∷ pos z ∷ []) record {
      x0 = near 0 (omega arith);
      y0 = near 0 (omega arith);
      z0 = near 0 (omega arith);
      x1 = near x along_x;
      y1 = near y along_y;
      z1 = near z along_z;
    }

one_sound : (least most : ℕ) (body : List Plane) → least ≤ 1 → 1 ≤ most → IsBody body → AreBodies least most (body ∷ [])
one_sound least most body low high sound =
    record { some = omega (arith, low); few = omega (arith, high); bodies_in = All-cons IsBody body [] sound (All-nil IsBody) }

pub made_sound : IsSetup made_setup
made_sound = record {
  grid_in = record {
    pitch_in = record { from_least = omega (arith, ints); to_most = omega (arith, ints) };
    step_in = record { from_least = omega (arith, ints); to_most = omega (arith, ints) };
    divides = refl;
    fine = omega arith;
    x = record { origin_in = omega arith; some = omega arith; most = omega arith; last = omega (arith, ints) };
    y = record { origin_in = omega arith; some = omega arith; most = omega arith; last = omega (arith, ints) };
    z = record { origin_in = omega arith; some = omega arith; most = omega arith; last = omega (arith, ints) };
  };
  stock_in = one_sound 1 most_stock_bodies (box_planes (pos 0 ∷ pos 0 ∷ pos 0 ∷ pos 30000 ∷ pos 30000 ∷ pos 30000 ∷ [])) (omega arith) (omega arith) (box_sound 30000 30000 30000 (omega arith) (omega arith) (omega arith));
  part_in = one_sound 0 most_other_bodies (box_planes (pos 0 ∷ pos 0 ∷ pos 0 ∷ pos 21500 ∷ pos 21500 ∷ pos 1500 ∷ [])) (omega arith) (omega arith) (box_sound 21500 21500 1500 (omega arith) (omega arith) (omega arith));
  fixture_in = record { some = omega arith; few = omega arith; bodies_in = All-nil IsBody };
  check_in = record {
    tolerance_in = record { from_least = omega (arith, ints); to_most = omega (arith, ints) };
    clearance_in = record { from_least = omega (arith, ints); to_most = omega (arith, ints) };
    some_slabs = omega arith;
    few_slabs = omega arith;
    shallow = omega arith;
  };
  tool_in = record {
    valid = record {
      wide = omega arith;
      width = omega arith;
      corner = omega arith;
      high = omega arith;
      height = omega arith;
      rounded = omega arith;
      angle = refl;
      sharp = inl refl;
      top = omega arith;
      hollow = omega arith;
      plain = inl refl;
    };
    upright = refl;
    from_tip = refl;
  };
  turn_in = tt;
}
