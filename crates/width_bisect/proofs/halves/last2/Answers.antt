use Rattle.space.specs.Vectors.{at}
use Rattle.width_bisect.proofs.Coefficients2.{end_kept, end_passed, middle2_gives, middle_passed, second2_gives}
use Rattle.width_bisect.proofs.Same.{same3}
use Rattle.width_bisect.proofs.halves.last2.Goals as goal

pub second2-requires-clause-a : goal.second2-requires-clause-a
second2-requires-clause-a c = end_passed (at c.args.form.now 2) c.requires.last

pub second2-requires-clause-b : goal.second2-requires-clause-b
second2-requires-clause-b c = middle_passed (at c.args.form.now 1) c.requires.middle

pub middle2-requires-clause-a : goal.middle2-requires-clause-a
middle2-requires-clause-a c = end_passed (at c.args.form.now 0) c.requires.first

pub middle2-requires-clause-b : goal.middle2-requires-clause-b
middle2-requires-clause-b c = middle_passed (at c.args.form.now 1) c.requires.middle

pub middle2-requires-clause-c : goal.middle2-requires-clause-c
middle2-requires-clause-c c = end_passed (at c.args.form.now 2) c.requires.last

pub returns : goal.returns
returns c =
    let x = c.args.form.now in let h = c.requires in
    let second = second2_gives c.second2.result (at x 2) (at x 1) record { sfits = c.second2.type_inv } c.second2.ensures h.last h.middle in
    let middle =
    middle2_gives c.middle2.result (at x 0) (at x 1) (at x 2) record { sfits = c.middle2.type_inv } c.middle2.ensures h.first h.middle h.last in
    same3 _ _ _ _ _ _ middle second (end_kept (at x 2) h.last)
