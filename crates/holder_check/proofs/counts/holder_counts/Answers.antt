use Rattle.std.proofs.Common.{IsTrue, length, subst, ◌∙◌}
use Rattle.job_counts.specs.Holder.{is_holder_clear}
use Rattle.job_counts.specs.declared.holder.HolderCounts.{HolderCounts}
use Rattle.holder_check.specs.Contacts.{holder_seen_at}
use Rattle.holder_check.proofs.Touched.{counts_are, kept_off}
use Rattle.holder_check.proofs.counts.holder_counts.Goals as goal

pub returns-clause-clear : goal.returns-clause-clear
returns-clause-clear c = λ clear.
    let a = c.args in
    kept_off (holder_seen_at a.marks.now a.stock.now a.part.now a.fixture.now a.sure_before.now a.possible_after.now) (length a.stock.now)
    (subst (λ (x : HolderCounts). IsTrue (is_holder_clear x))
    (counts_are a.marks.now a.stock.now a.part.now a.fixture.now a.sure_before.now a.possible_after.now
    c.from.result c.from-2.result c.from-3.result c.from-4.result c.from-5.result c.from-6.result c.requires.part c.requires.fixture
    (c.from.ensures ∙ c.count_meet.ensures) (c.from-2.ensures ∙ c.count_meet-2.ensures) (c.from-3.ensures ∙ c.count_meet-3.ensures)
    (c.from-4.ensures ∙ c.count_meet-4.ensures) (c.from-5.ensures ∙ c.count_meet_minus.ensures) (c.from-6.ensures ∙ c.count_meet_minus-2.ensures))
    clear)
