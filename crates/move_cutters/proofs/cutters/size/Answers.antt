use Rattle.std.proofs.Common.{pos, ◌≤ℤ◌, arith, sym}
use Rattle.std.proofs.lemmas.Int.{ints}
use Rattle.move_cutters.proofs.Sizes.{is_written}
use Rattle.move_cutters.proofs.cutters.size.Goals as goal

pub invariant_of-result : goal.invariant_of-result
invariant_of-result c =
    let from_tip : pos 0 ≤ℤ pos 0 = omega (arith, ints) in
    let written = is_written c.args.defaults.now c.args.cutter.now c.height.result c.requires.defaults c.requires.valid c.requires.high (sym c.height.ensures) in
    (written.wide, written.round, written.high, from_tip, written.sizes_are)
