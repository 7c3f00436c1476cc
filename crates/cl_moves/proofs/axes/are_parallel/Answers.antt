-- The products that are compared are of components of axes.
use Rattle.std.proofs.Common.{arith, pos, rules, get_or}
use Rattle.space.specs.Ranges.{axis_unit}
use Rattle.cl_moves.proofs.BackLemmas.{within_back}
use Rattle.cl_moves.proofs.axes.are_parallel.Goals as goal
use Rattle.cl_moves.proofs.axes.are_parallel.Goals.{then-are_equal, else-are_equal}

pub returns-else-are_equal-2 : goal.returns-else-are_equal-2
returns-else-are_equal-2 c =
    elim c.if-are_equal.branch [ then-are_equal w ↦ search rules | else-are_equal w ↦ search rules ]

pub are_equal-requires-clause-a : goal.are_equal-requires-clause-a
are_equal-requires-clause-a c = within_back axis_unit (get_or c.args.f.now 1 (pos 0)) (omega arith) c.requires.first.1

pub are_equal-requires-clause-b : goal.are_equal-requires-clause-b
are_equal-requires-clause-b c = within_back axis_unit (get_or c.args.t.now 2 (pos 0)) (omega arith) c.requires.last.2

pub are_equal-requires-clause-c : goal.are_equal-requires-clause-c
are_equal-requires-clause-c c = within_back axis_unit (get_or c.args.f.now 2 (pos 0)) (omega arith) c.requires.first.2

pub are_equal-requires-clause-d : goal.are_equal-requires-clause-d
are_equal-requires-clause-d c = within_back axis_unit (get_or c.args.t.now 1 (pos 0)) (omega arith) c.requires.last.1

pub are_equal-requires-then-are_equal-clause-a : goal.are_equal-requires-then-are_equal-clause-a
are_equal-requires-then-are_equal-clause-a c = within_back axis_unit (get_or c.args.f.now 2 (pos 0)) (omega arith) c.requires.first.2

pub are_equal-requires-then-are_equal-clause-b : goal.are_equal-requires-then-are_equal-clause-b
are_equal-requires-then-are_equal-clause-b c = within_back axis_unit (get_or c.args.t.now 0 (pos 0)) (omega arith) c.requires.last.0

pub are_equal-requires-then-are_equal-clause-c : goal.are_equal-requires-then-are_equal-clause-c
are_equal-requires-then-are_equal-clause-c c = within_back axis_unit (get_or c.args.f.now 0 (pos 0)) (omega arith) c.requires.first.0

pub are_equal-requires-then-are_equal-clause-d : goal.are_equal-requires-then-are_equal-clause-d
are_equal-requires-then-are_equal-clause-d c = within_back axis_unit (get_or c.args.t.now 2 (pos 0)) (omega arith) c.requires.last.2

pub are_equal-requires-then-are_equal-2-clause-a : goal.are_equal-requires-then-are_equal-2-clause-a
are_equal-requires-then-are_equal-2-clause-a c = within_back axis_unit (get_or c.args.f.now 0 (pos 0)) (omega arith) c.requires.first.0

pub are_equal-requires-then-are_equal-2-clause-b : goal.are_equal-requires-then-are_equal-2-clause-b
are_equal-requires-then-are_equal-2-clause-b c = within_back axis_unit (get_or c.args.t.now 1 (pos 0)) (omega arith) c.requires.last.1

pub are_equal-requires-then-are_equal-2-clause-c : goal.are_equal-requires-then-are_equal-2-clause-c
are_equal-requires-then-are_equal-2-clause-c c = within_back axis_unit (get_or c.args.f.now 1 (pos 0)) (omega arith) c.requires.first.1

pub are_equal-requires-then-are_equal-2-clause-d : goal.are_equal-requires-then-are_equal-2-clause-d
are_equal-requires-then-are_equal-2-clause-d c = within_back axis_unit (get_or c.args.t.now 0 (pos 0)) (omega arith) c.requires.last.0
