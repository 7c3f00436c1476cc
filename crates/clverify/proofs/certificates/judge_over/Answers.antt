use Rattle.std.proofs.Common.{refl}
use Rattle.cert_boxes.specs.Tasks.{cert_task}
use Rattle.clverify.proofs.Certified.{same_task, same_verdict, verdict_for}
use Rattle.clverify.proofs.certificates.judge_over.Goals as goal

pub returns : goal.returns
returns c =
    let sweep = c.args.sweep.now in let grid = c.args.grid.now in
    let part = c.new-part.result.solid.value in let fixture = c.new-fixture.result.solid.value in
    same_verdict c.check.result (cert_task sweep c.args.cutter grid part fixture) (cert_task sweep c.args.cutter grid c.args.part.now c.args.fixture.now) c.args.cert.now
    (same_task sweep sweep c.args.cutter c.args.cutter grid grid part c.args.part.now fixture c.args.fixture.now refl refl refl c.new-part.ensures.solid c.new-fixture.ensures.solid)
    (verdict_for c.check.result (cert_task sweep c.args.cutter grid part fixture) c.args.cert.now c.check.ensures.verdict c.check.ensures.untouched)
