use Rattle.std.proofs.Common.{sym, subst}
use Rattle.space.specs.Vectors.{at}
use Rattle.ray_grid.specs.Ranges.{IsGrid}
use Rattle.setup_file.proofs.GridCasts.{are-cast, coordinate-fits, count-fits}
use Rattle.setup_file.proofs.GridShown.{IsGrid-shown, sized-from}
use Rattle.setup_file.proofs.grid.grid_with.Goals as goal

pub overflow_cast-result : goal.overflow_cast-result
overflow_cast-result c = coordinate-fits (at c.args.origin.now 0) c.requires.origin.x

pub overflow_cast-result-2 : goal.overflow_cast-result-2
overflow_cast-result-2 c = coordinate-fits (at c.args.origin.now 1) c.requires.origin.y

pub overflow_cast-result-3 : goal.overflow_cast-result-3
overflow_cast-result-3 c = coordinate-fits (at c.args.origin.now 2) c.requires.origin.z

pub overflow_cast-result-6 : goal.overflow_cast-result-6
overflow_cast-result-6 c = count-fits (at c.args.origin.now 0) c.args.pitch c.args.step (at c.args.counts.now 0) c.requires.counts.x

pub overflow_cast-result-7 : goal.overflow_cast-result-7
overflow_cast-result-7 c = count-fits (at c.args.origin.now 1) c.args.pitch c.args.step (at c.args.counts.now 1) c.requires.counts.y

pub overflow_cast-result-8 : goal.overflow_cast-result-8
overflow_cast-result-8 c = count-fits (at c.args.origin.now 2) c.args.pitch c.args.step (at c.args.counts.now 2) c.requires.counts.z

pub returns-clause-grid : goal.returns-clause-grid
returns-clause-grid c =
    let cast = are-cast c.args.origin.now c.args.pitch c.args.step c.args.counts.now c.requires.origin c.requires.pitch c.requires.step c.requires.counts in
    sized-from _ _ _ _ _ _ _ _ c.args.origin.now c.args.pitch c.args.step c.args.counts.now cast.x cast.y cast.z cast.pitch_is cast.step_is cast.along_x cast.along_y cast.along_z

pub returns-clause-valid : goal.returns-clause-valid
returns-clause-valid c =
    subst IsGrid (sym (returns-clause-grid c))
    (IsGrid-shown c.args.origin.now c.args.pitch c.args.step c.args.counts.now c.requires.origin c.requires.pitch c.requires.step c.requires.divides c.requires.counts)

pub invariant_of-result : goal.invariant_of-result
invariant_of-result c = returns-clause-valid c
