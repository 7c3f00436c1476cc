use Rattle.std.proofs.Common.{rules, refl}
use Rattle.ray_grid.specs.Lattice.{point_of}
use Rattle.ray_runs.proofs.Open.{beside_both}
use Rattle.ray_runs.proofs.Searching.{apart_between, beside_by_word}
use Rattle.ray_runs.proofs.searched.Searched.are_clear_by_cut.Goals as goal

pub are_missed-requires-clause-start : goal.are_missed-requires-clause-start
are_missed-requires-clause-start c = beside_by_word c.args.self.now _ _ (search rules) c.requires.start

pub are_missed-requires-clause-end : goal.are_missed-requires-clause-end
are_missed-requires-clause-end c = beside_by_word c.args.self.now _ _ (search rules) c.pair_at-pair.ensures

pub are_missed-requires-2-clause-start : goal.are_missed-requires-2-clause-start
are_missed-requires-2-clause-start c = beside_by_word c.args.self.now _ _ (search rules) c.pair_at-pair.ensures

pub are_missed-requires-2-clause-end : goal.are_missed-requires-2-clause-end
are_missed-requires-2-clause-end c = beside_by_word c.args.self.now _ _ (search rules) c.requires.end

pub returns : goal.returns
returns c = λ yes.
    let x = c.args.self.now in let k = c.likely_sample-k.result in let r = c.requires in let pair = c.pair_at-pair.ensures in
    beside_both x.square x.sweep.now (point_of x.grid.now x.ray.now) x.scale x.from x.to 0 k x.scale
    (apart_between x 0 k _ _ (search rules) r.start pair (c.if-not-are_missed.ensures refl))
    (apart_between x k x.scale _ _ (search rules) pair r.end (c.are_missed-2.ensures yes))
