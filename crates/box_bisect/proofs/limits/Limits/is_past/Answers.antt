-- The lengths of a slab are small, and so are their squares.
use Rattle.std.proofs.Common.{◌*◌, arith}
use mir.Syntax.{w128}
use Rattle.bern_form.specs.Sizes.{length_limit}
use Rattle.box_bisect.proofs.Lengths.{lengths_small}
use Rattle.space.proofs.Reread.{small_back}
use Rattle.box_bisect.proofs.limits.Limits.is_past.Goals as goal

pub scaled_square-requires-clause-length : goal.scaled_square-requires-clause-length
scaled_square-requires-clause-length c = (lengths_small _ c.slab.invariant).hi

pub scaled_square-requires-2-clause-length : goal.scaled_square-requires-2-clause-length
scaled_square-requires-2-clause-length c = (lengths_small _ c.slab.invariant).dia

pub are_on-requires-clause-limit : goal.are_on-requires-clause-limit
are_on-requires-clause-limit c = small_back w128 c.scaled_square.result (length_limit * length_limit) (omega arith) c.scaled_square.ensures.small

pub are_on-requires-2-clause-limit : goal.are_on-requires-2-clause-limit
are_on-requires-2-clause-limit c = small_back w128 c.scaled_square-2.result (length_limit * length_limit) (omega arith) c.scaled_square-2.ensures.small
