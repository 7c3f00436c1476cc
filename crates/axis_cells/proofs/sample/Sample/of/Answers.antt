use Rattle.std.proofs.Common.{refl}
use Rattle.std.proofs.lemmas.Int.{to_z-of_z}
use Rattle.axis_cells.proofs.Fits.{sample_fits}
use Rattle.axis_cells.proofs.sample.Sample.of.Goals as goal

pub overflow_mul-result : goal.overflow_mul-result
overflow_mul-result c =
    let f = sample_fits c.args.u c.args.n c.args.d c.requires.u c.requires.n c.requires.d in
    let rn = c.ranges.n in let rd = c.ranges.d in
    simp to_z-of_z f.both

pub overflow_mul-result-2 : goal.overflow_mul-result-2
overflow_mul-result-2 c =
    let f = sample_fits c.args.u c.args.n c.args.d c.requires.u c.requires.n c.requires.d in
    let ru = c.ranges.u in
    simp to_z-of_z f.height

pub overflow_sub-result : goal.overflow_sub-result
overflow_sub-result c =
    let f = sample_fits c.args.u c.args.n c.args.d c.requires.u c.requires.n c.requires.d in
    let ru = c.ranges.u in let rn = c.ranges.n in let rd = c.ranges.d in let both = f.both in let height = f.height in
    simp to_z-of_z f.whole

pub returns-clause-w : goal.returns-clause-w
returns-clause-w c =
    let f = sample_fits c.args.u c.args.n c.args.d c.requires.u c.requires.n c.requires.d in
    let ru = c.ranges.u in let rn = c.ranges.n in let rd = c.ranges.d in let both = f.both in let height = f.height in let whole = f.whole in
    simp to_z-of_z refl

pub invariant_of-result : goal.invariant_of-result
invariant_of-result c =
    let f = sample_fits c.args.u c.args.n c.args.d c.requires.u c.requires.n c.requires.d in
    let ru = c.ranges.u in let rn = c.ranges.n in let rd = c.ranges.d in let both = f.both in let height = f.height in let whole = f.whole in
    record {
      scale_small = c.requires.scale;
      u_small = simp to_z-of_z c.requires.u;
      n_small = simp to_z-of_z c.requires.n;
      w_small = simp to_z-of_z f.w_small;
    }
