-- The journal does the edit that comes next; when out of memory it is seen as before.
use Rattle.std.proofs.lemmas.Result.{on_err_weaker, on_ok_weaker}
use Rattle.strip_journal.proofs.ToldNext.{done_told, next_told, on_either, plan_told, same_told}
use Rattle.strip_journal.proofs.strip.Strip.advance.Goals as goal

pub advance-requires-clause-plan : goal.advance-requires-clause-plan
advance-requires-clause-plan c = plan_told c.self.inside.journal c.args.self.now c.args.plan.now c.self.view_is c.requires.plan

pub advance-requires-clause-next : goal.advance-requires-clause-next
advance-requires-clause-next c = next_told c.self.inside.journal c.args.self.now c.args.plan.now c.self.view_is c.requires.next

pub invariant_of-self : goal.invariant_of-self
invariant_of-self c =
    on_either _ _ _ c.advance.result (λ at. at.journal) (λ at. at.journal) c.advance.ensures.ok c.advance.ensures.unchanged

pub returns-clause-ok : goal.returns-clause-ok
returns-clause-ok c =
    on_ok_weaker c.advance.result (done_told c.self.inside.journal c.advance.new.self c.args.self.now c.self.view_is) c.advance.ensures.ok

pub returns-clause-unchanged : goal.returns-clause-unchanged
returns-clause-unchanged c =
    on_err_weaker c.advance.result (same_told c.self.inside.journal c.advance.new.self c.args.self.now c.self.view_is)
    c.advance.ensures.unchanged
