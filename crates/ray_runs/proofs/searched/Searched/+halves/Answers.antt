use Rattle.std.proofs.Common.{rules, ◌+◌, ◌-◌, ◌^◌, ◌≡◌, arith, refl}
use Rattle.ray_grid.specs.Lattice.{point_of}
use Rattle.box_bisect.proofs.Searching.{halved}
use Rattle.ray_runs.proofs.Open.{halves_open}
use Rattle.ray_runs.proofs.Searching.{apart_between, around_whole, beside_by_word, pair_at}
use Rattle.ray_runs.proofs.searched.Searched.+halves.Goals as goal

pub returns-then-are_missed : goal.returns-then-are_missed
returns-then-are_missed t c =
    let a = c.args in apart_between a.self.now a.j (a.j + 2 ^ a.levels) _ _ (search rules) c.requires.start c.requires.end (c.if-are_missed.ensures refl)

pub are_missed-requires-clause-start : goal.are_missed-requires-clause-start
are_missed-requires-clause-start t c = beside_by_word c.args.self.now _ _ (search rules) c.requires.start

pub are_missed-requires-clause-end : goal.are_missed-requires-clause-end
are_missed-requires-clause-end t c = beside_by_word c.args.self.now _ _ (search rules) c.requires.end

pub returns-then-levels-self : goal.returns-then-levels-self
returns-then-levels-self t c = around_whole c.args.self.now c.args.j c.args.levels c.requires.levels

pub returns-then-are_open : goal.returns-then-are_open
returns-then-are_open t c = around_whole c.args.self.now c.args.j c.args.levels c.requires.levels

pub returns-then-is_open : goal.returns-then-is_open
returns-then-is_open t c = around_whole c.args.self.now c.args.j c.args.levels c.requires.levels

pub pair_at-pair-requires : goal.pair_at-pair-requires
pair_at-pair-requires t c =
    let h = (halved c.args.levels (c.args.levels - 1) c.args.j (omega arith)).end in let k = c.cells_of.ensures.cells in let cells = c.requires.cells in
    omega (arith, h, k, cells)

pub open_in-late-requires : goal.open_in-late-requires
open_in-late-requires t c =
    let a = c.args in let n = a.levels - 1 in let h = (halved a.levels n a.j (omega arith)).end in let k = c.cells_of.ensures.cells in let cells = c.requires.cells in
    let end : a.j + 2 ^ a.levels ≡ (a.j + c.cells_of.result) + 2 ^ n = omega (arith, h, k) in
    (omega arith, (omega arith, (omega (arith, h, k, cells), (c.pair_at-pair.ensures, pair_at _ _ _ _ end c.requires.end))))

pub open_in-early-requires : goal.open_in-early-requires
open_in-early-requires t c =
    let a = c.args in let n = a.levels - 1 in let h = (halved a.levels n a.j (omega arith)).end in let k = c.cells_of.ensures.cells in let cells = c.requires.cells in
    let middle : a.j + c.cells_of.result ≡ a.j + 2 ^ n = omega (arith, k) in
    (omega arith, (omega arith, (omega (arith, h, k, cells), (c.requires.start, pair_at _ _ _ _ middle c.pair_at-pair.ensures))))

pub returns : goal.returns
returns t c =
    let a = c.args in let x = a.self.now in let n = a.levels - 1 in let k = c.cells_of.ensures.cells in
    let middle : a.j + c.cells_of.result ≡ a.j + 2 ^ n = omega (arith, k) in
    halves_open c.open_in-early.result c.open_in-late.result c.joined.result record { first = a.j; levels = a.levels } x.square x.sweep.now (point_of x.grid.now x.ray.now) x.scale x.from x.to a.j a.levels n
    (a.j + c.cells_of.result) (omega arith) middle c.requires.levels refl refl c.joined.ensures c.open_in-early.ensures c.open_in-late.ensures
