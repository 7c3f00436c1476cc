-- Each strip that is pushed is the next one.
use Rattle.std.proofs.Common.{◌≡◌, ℕ, arith, subst}
use Rattle.job_model.specs.Tasks.{Job}
use Rattle.job_run.specs.Strips.{AreFrom}
use Rattle.job_run.proofs.FirstStrips.{from_none, from_pushed}
use Rattle.job_run.proofs.strips.strips_by.Goals as goal

pub loop-number-init : goal.loop-number-init
loop-number-init g c = from_none _ 0 c.args.from c.in_ok-strips.strips.items c.in_ok-strips.ensures.items

pub loop-number-preserved : goal.loop-number-preserved
loop-number-preserved g c =
    let job : Job = record {
      plan = c.args.plan.now;
      stock = c.args.stock.now.solid.value;
      part = c.args.part.now.solid.value;
      fixture = c.args.fixture.now.solid.value;
    } in
    from_pushed job 0 c.args.from c.loop-number.number c.loop-number.strips.items c.push.new.self.items c.in_ok-of_draft.field-0
    c.loop-number.invariant c.in_ok-of_draft.ensures c.in_ok-push.ensures.items

pub of_draft-requires-clause-stock : goal.of_draft-requires-clause-stock
of_draft-requires-clause-stock g c = c.requires.stock

pub of_draft-requires-clause-part : goal.of_draft-requires-clause-part
of_draft-requires-clause-part g c = c.requires.part

pub of_draft-requires-clause-fixture : goal.of_draft-requires-clause-fixture
of_draft-requires-clause-fixture g c = c.requires.fixture

pub of_draft-requires-clause-number : goal.of_draft-requires-clause-number
of_draft-requires-clause-number g c = omega (arith, c.loop-number-test.true, c.requires.within)

pub returns : goal.returns
returns g c =
    let job : Job = record {
      plan = c.args.plan.now;
      stock = c.args.stock.now.solid.value;
      part = c.args.part.now.solid.value;
      fixture = c.args.fixture.now.solid.value;
    } in
    let all : c.loop-number.number ≡ c.args.to = omega (arith, c.loop-number-test.false, c.loop-number.auto.number-end, c.requires.order) in
    subst (λ (n : ℕ). AreFrom job 0 c.args.from n c.loop-number.strips.items) all c.loop-number.invariant
