use Rattle.std.proofs.Common.{refl}
use Rattle.cert_boxes.specs.Tasks.{cert_task}
use Rattle.clverify.proofs.Certified.{made_for, same_made, same_task}
use Rattle.clverify.proofs.certificates.make_over.Goals as goal

pub returns : goal.returns
returns c =
    let sweep = c.args.sweep.now in let grid = c.args.grid.now in
    let part = c.new-part.result.solid.value in let fixture = c.new-fixture.result.solid.value in
    same_made c.make.result (cert_task sweep c.args.cutter grid part fixture) (cert_task sweep c.args.cutter grid c.args.part.now c.args.fixture.now)
    c.args.slabs c.args.slabs c.args.depth c.args.depth
    (same_task sweep sweep c.args.cutter c.args.cutter grid grid part c.args.part.now fixture c.args.fixture.now refl refl refl c.new-part.ensures.solid c.new-fixture.ensures.solid)
    refl refl
    (made_for c.make.result (cert_task sweep c.args.cutter grid part fixture) c.args.slabs c.args.depth c.make.ensures.due c.make.ensures.accepted
    c.make.ensures.untouched c.make.ensures.ranges c.make.ensures.lines c.make.ensures.none)
