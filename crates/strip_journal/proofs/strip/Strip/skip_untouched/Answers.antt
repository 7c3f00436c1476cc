use Rattle.strip_journal.proofs.ToldNext.{passed_told, plan_told, run_told}
use Rattle.strip_journal.proofs.strip.Strip.skip_untouched.Goals as goal

pub skip_untouched-requires-clause-plan : goal.skip_untouched-requires-clause-plan
skip_untouched-requires-clause-plan c = plan_told c.self.inside.journal c.args.self.now c.args.plan.now c.self.view_is c.requires.plan

pub skip_untouched-requires-clause-next : goal.skip_untouched-requires-clause-next
skip_untouched-requires-clause-next c =
    run_told c.self.inside.journal c.args.self.now c.args.plan.now c.args.most c.self.view_is c.requires.next

pub invariant_of-self : goal.invariant_of-self
invariant_of-self c = c.skip_untouched.ensures.passed.journal

pub returns-clause-passed : goal.returns-clause-passed
returns-clause-passed c =
    passed_told c.self.inside.journal c.skip_untouched.new.self c.args.self.now c.skip_untouched.result c.self.view_is c.skip_untouched.ensures.passed
