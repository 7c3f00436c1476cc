use Rattle.std.proofs.Common.{◌≡◌, ℤ, pos, neg_ℤ, to_z, of_z, w32, IfOk, List, arith, subst, sym}
use Rattle.std.proofs.lemmas.Int.{ints, to_z-of_z}
use Rattle.space.specs.Ranges.{IsBetween}
use Rattle.ray_shapes.specs.declared.plane.Plane.{Plane}
use Rattle.setup_file.specs.Limits.{most_clearance}
use Rattle.setup_file.specs.Shift.{shifted_of}
use Rattle.job_inputs.proofs.Planes.{planes_in}
use Rattle.job_inputs.proofs.bodies.raised_fixture.Goals as goal

-- a clearance is a number that fits
raised_by : (clearance : ℤ) → IsBetween (pos 0) (pos most_clearance) clearance → to_z w32 (of_z w32 clearance) ≡ clearance
raised_by clearance within = grind (arith, ints, to_z-of_z)

over_0 : (clearance : ℤ) → IsBetween (pos 0) (pos most_clearance) clearance → IsBetween (neg_ℤ (pos most_clearance)) (pos most_clearance) clearance
over_0 clearance within = record { from_least = omega (arith, ints); to_most = within.to_most }

pub returns : goal.returns
returns c =
    subst (λ (by : ℤ). IfOk c.shifted.result (λ fixture. fixture ≡ shifted_of by c.args.setup.now.fixture))
    (raised_by c.args.setup.now.clearance c.requires.check_in.clearance_in)
    (subst (λ (fixture : List (List Plane)). IfOk c.shifted.result (λ made. made ≡ shifted_of (to_z w32 (of_z w32 c.args.setup.now.clearance)) fixture))
    c.as_slice.ensures c.shifted.ensures)

pub shifted-requires-clause-by : goal.shifted-requires-clause-by
shifted-requires-clause-by c =
    subst (λ (by : ℤ). IsBetween (neg_ℤ (pos most_clearance)) (pos most_clearance) by)
    (sym (raised_by c.args.setup.now.clearance c.requires.check_in.clearance_in))
    (over_0 c.args.setup.now.clearance c.requires.check_in.clearance_in)

pub shifted-requires-clause-planes : goal.shifted-requires-clause-planes
shifted-requires-clause-planes c = planes_in c.args.setup.now.fixture c.as_slice.result.now c.as_slice.ensures c.requires.fixture_in.bodies_in
