use Rattle.std.proofs.Common.{pos, arith, rules}
use Rattle.space.specs.Vectors.{at}
use Rattle.wanted_marks.proofs.Small.{taken_small}
use Rattle.wanted_marks.proofs.sheet.times4.Goals as goal

pub taken-requires : goal.taken-requires
taken-requires c = taken_small (at c.args.b.now.c 0) (pos c.args.k) (search rules) (c.requires 0 (pos 0) (omega arith))

pub taken-requires-2 : goal.taken-requires-2
taken-requires-2 c = taken_small (at c.args.b.now.c 1) (pos c.args.k) (search rules) (c.requires 1 (pos 0) (omega arith))

pub taken-requires-3 : goal.taken-requires-3
taken-requires-3 c = taken_small (at c.args.b.now.c 2) (pos c.args.k) (search rules) (c.requires 2 (pos 0) (omega arith))

pub taken-requires-4 : goal.taken-requires-4
taken-requires-4 c = taken_small (at c.args.b.now.c 3) (pos c.args.k) (search rules) (c.requires 3 (pos 0) (omega arith))

pub taken-requires-5 : goal.taken-requires-5
taken-requires-5 c = taken_small (at c.args.b.now.c 4) (pos c.args.k) (search rules) (c.requires 4 (pos 0) (omega arith))
