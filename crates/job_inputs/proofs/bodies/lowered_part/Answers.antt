use Rattle.std.proofs.Common.{◌≡◌, ℤ, pos, neg_ℤ, ◌-ℤ◌, to_z, of_z, w32, IfOk, All, List, Result, Ok, Err, arith, subst, sym}
use Rattle.std.proofs.lemmas.Int.{ints, to_z-of_z}
use Rattle.space.specs.Ranges.{IsBetween}
use Rattle.ray_shapes.specs.declared.plane.Plane.{Plane}
use Rattle.setup_file.specs.Limits.{most_clearance, most_tolerance}
use Rattle.ray_shapes.specs.Turned.{IsTurnable}
use Rattle.setup_file.specs.Shift.{shifted_of}
use Rattle.setup_file.specs.Sound.{IsPlane}
use Rattle.setup_file.proofs.Turnables.{are_turnable}
use Rattle.vf_io.specs.declared.answers.NoMemory.{NoMemory}
use Rattle.job_inputs.proofs.Planes.{planes_in}
use Rattle.job_inputs.proofs.bodies.lowered_part.Goals as goal

-- a tolerance below 0 is a number that fits
lowered_by : (tolerance : ℤ) → IsBetween (pos 0) (pos most_tolerance) tolerance → to_z w32 (of_z w32 (pos 0 -ℤ to_z w32 (of_z w32 tolerance))) ≡ neg_ℤ tolerance
lowered_by tolerance within = grind (arith, ints, to_z-of_z)

below_0 : (tolerance : ℤ) → IsBetween (pos 0) (pos most_tolerance) tolerance → IsBetween (neg_ℤ (pos most_clearance)) (pos most_clearance) (neg_ℤ tolerance)
below_0 tolerance within = record { from_least = omega (arith, ints); to_most = omega (arith, ints) }

pub returns-clause-part : goal.returns-clause-part
returns-clause-part c =
    subst (λ (by : ℤ). IfOk c.shifted.result (λ part. part ≡ shifted_of by c.args.setup.now.part))
    (lowered_by c.args.setup.now.tolerance c.requires.check_in.tolerance_in)
    (subst (λ (part : List (List Plane)). IfOk c.shifted.result (λ made. made ≡ shifted_of (to_z w32 (of_z w32 (pos 0 -ℤ to_z w32 (of_z w32 c.args.setup.now.tolerance)))) part))
    c.as_slice.ensures c.shifted.ensures)

-- what is lowered may be turned
ok_turnable : (by : ℤ) (bodies : List (List Plane)) → IsBetween (neg_ℤ (pos most_clearance)) (pos most_clearance) by → All (All IsPlane) bodies
    → (lowered : Result (List (List Plane)) NoMemory) → IfOk lowered (λ part. part ≡ shifted_of by bodies) → IfOk lowered (All (All IsTurnable))
ok_turnable by bodies amount are (Ok part) same = subst (All (All IsTurnable)) (sym same) (are_turnable by bodies amount are)
ok_turnable by bodies amount are (Err _) same = tt

pub returns-clause-turnable : goal.returns-clause-turnable
returns-clause-turnable c =
    ok_turnable (neg_ℤ c.args.setup.now.tolerance) c.args.setup.now.part (below_0 c.args.setup.now.tolerance c.requires.check_in.tolerance_in)
    (λ k other within. (c.requires.part_in.bodies_in k other within).planes) c.shifted.result (returns-clause-part c)

pub shifted-requires-clause-by : goal.shifted-requires-clause-by
shifted-requires-clause-by c =
    subst (λ (by : ℤ). IsBetween (neg_ℤ (pos most_clearance)) (pos most_clearance) by)
    (sym (lowered_by c.args.setup.now.tolerance c.requires.check_in.tolerance_in))
    (below_0 c.args.setup.now.tolerance c.requires.check_in.tolerance_in)

pub shifted-requires-clause-planes : goal.shifted-requires-clause-planes
shifted-requires-clause-planes c = planes_in c.args.setup.now.part c.as_slice.result.now c.as_slice.ensures c.requires.part_in.bodies_in
