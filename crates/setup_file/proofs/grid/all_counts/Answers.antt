use Rattle.std.proofs.Common.{w64, FitsSigned}
use Rattle.std.proofs.lemmas.Int.{to_z-of_z}
use Rattle.setup_file.proofs.grid.all_counts.Goals as goal

pub returns : goal.returns
returns c =
    let pitch : FitsSigned w64 c.args.pitch = c.ranges.pitch in
    let step : FitsSigned w64 c.args.step = c.ranges.step in
    record {
      x = simp to_z-of_z at c.in_ok-count_along.ensures.holds;
      y = simp to_z-of_z at c.in_ok-count_along-2.ensures.holds;
      z = simp to_z-of_z at c.in_ok-count_along-3.ensures.holds;
    }
