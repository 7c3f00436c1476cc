use Rattle.std.proofs.Common.{◌≡◌, pos, ◌-ℤ◌, to_z, of_z, w32, arith}
use Rattle.std.proofs.lemmas.Int.{ints, to_z-of_z}
use Rattle.inputs_dump.proofs.setup_page.setup_text.Goals as goal

pub overflow_sub-setup : goal.overflow_sub-setup
overflow_sub-setup c =
    let tolerance = c.args.setup.now.tolerance in
    let low = c.requires.check_in.tolerance_in.from_least in let high = c.requires.check_in.tolerance_in.to_most in
    let kept : to_z w32 (of_z w32 tolerance) ≡ tolerance = to_z-of_z w32 tolerance (omega (arith, ints)) in
    omega (arith, ints)

pub shifted-requires-clause-by : goal.shifted-requires-clause-by
shifted-requires-clause-by c =
    let tolerance = c.args.setup.now.tolerance in
    let low = c.requires.check_in.tolerance_in.from_least in let high = c.requires.check_in.tolerance_in.to_most in
    let kept : to_z w32 (of_z w32 tolerance) ≡ tolerance = to_z-of_z w32 tolerance (omega (arith, ints)) in
    let turned : to_z w32 (of_z w32 (pos 0 -ℤ to_z w32 (of_z w32 tolerance))) ≡ pos 0 -ℤ to_z w32 (of_z w32 tolerance) = to_z-of_z w32 _ (omega (arith, ints)) in
    record { from_least = omega (arith, ints); to_most = omega (arith, ints) }

pub shifted-requires-clause-planes : goal.shifted-requires-clause-planes
shifted-requires-clause-planes c = rw c.as_slice-2.ensures (λ k d within. (c.requires.part_in.bodies_in k d within).planes)

pub shifted-requires-2-clause-by : goal.shifted-requires-2-clause-by
shifted-requires-2-clause-by c =
    let clearance = c.args.setup.now.clearance in
    let low = c.requires.check_in.clearance_in.from_least in let high = c.requires.check_in.clearance_in.to_most in
    let kept : to_z w32 (of_z w32 clearance) ≡ clearance = to_z-of_z w32 clearance (omega (arith, ints)) in
    record { from_least = omega (arith, ints); to_most = omega (arith, ints) }

pub shifted-requires-2-clause-planes : goal.shifted-requires-2-clause-planes
shifted-requires-2-clause-planes c = rw c.as_slice-4.ensures (λ k d within. (c.requires.fixture_in.bodies_in k d within).planes)
