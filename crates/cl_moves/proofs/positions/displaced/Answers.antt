-- Each coordinate and its distance come back from their bits.
use Rattle.std.proofs.Common.{arith, get_or, pos, refl}
use Rattle.space.specs.Ranges.{metre}
use Rattle.cl_records.specs.Kinds.{longest_distance}
use Rattle.cl_moves.proofs.BackLemmas.{sum_back, within_back}
use Rattle.cl_moves.proofs.positions.displaced.Goals as goal

pub plus-requires-clause-position : goal.plus-requires-clause-position
plus-requires-clause-position c = within_back metre (get_or c.args.from.now 0 (pos 0)) (omega arith) c.requires.position.0

pub plus-requires-clause-distance : goal.plus-requires-clause-distance
plus-requires-clause-distance c = within_back longest_distance (get_or c.args.by.now 0 (pos 0)) (omega arith) c.requires.distance.0

pub plus-requires-2-clause-position : goal.plus-requires-2-clause-position
plus-requires-2-clause-position c = within_back metre (get_or c.args.from.now 1 (pos 0)) (omega arith) c.requires.position.1

pub plus-requires-2-clause-distance : goal.plus-requires-2-clause-distance
plus-requires-2-clause-distance c = within_back longest_distance (get_or c.args.by.now 1 (pos 0)) (omega arith) c.requires.distance.1

pub plus-requires-3-clause-position : goal.plus-requires-3-clause-position
plus-requires-3-clause-position c = within_back metre (get_or c.args.from.now 2 (pos 0)) (omega arith) c.requires.position.2

pub plus-requires-3-clause-distance : goal.plus-requires-3-clause-distance
plus-requires-3-clause-distance c = within_back longest_distance (get_or c.args.by.now 2 (pos 0)) (omega arith) c.requires.distance.2

pub returns : goal.returns
returns c =
    let from = c.args.from.now in
    let by = c.args.by.now in
    let near = c.requires.position in
    let far = c.requires.distance in
    let x = sum_back c.plus.result (get_or from 0 (pos 0)) (get_or by 0 (pos 0)) near.0 far.0 c.plus.ensures in
    let y = sum_back c.plus-2.result (get_or from 1 (pos 0)) (get_or by 1 (pos 0)) near.1 far.1 c.plus-2.ensures in
    let z = sum_back c.plus-3.result (get_or from 2 (pos 0)) (get_or by 2 (pos 0)) near.2 far.2 c.plus-3.ensures in
    rw (x, y, z) refl
