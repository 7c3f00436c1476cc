-- The move is marked, and what it changes is taken over: the journal of the edits before becomes that of one edit more.
use Rattle.std.proofs.Common.{◌≡◌, ◌<◌, List, length, rules, sym, subst}
use Rattle.ray_grid.specs.Strips.{strips_of}
use Rattle.job_model.specs.Tasks.{PlanOf}
use Rattle.ray_words.specs.Rays.{KeptSets}
use Rattle.strip_marks.specs.Marks.{AreRays, HaveSameSets}
use Rattle.strip_journal.specs.Steps.{HasSameEdits}
use Rattle.strip_journal.proofs.EnteredRoom.{same_at}
use Rattle.strip_journal.proofs.KeptSame.{same_edits_through}
use Rattle.strip_journal.proofs.MarkedBy.{IsMarking, marking_at, marking_fits, marking_on, marking_stands}
use Rattle.strip_journal.proofs.MovedAt.{on_err_both, on_ok_both}
use Rattle.strip_journal.proofs.journal.Journal.apply.Goals as goal
use Rattle.strip_journal.proofs.journal.Journal.apply.Goals.{In_ok-marked}

pub mark-requires-clause-strip : goal.mark-requires-clause-strip
mark-requires-clause-strip c =
    subst (λ (p : PlanOf). c.args.self.now.number < length (strips_of p.grid)) c.requires.plan c.requires.journal.strip

pub mark-requires-clause-rays : goal.mark-requires-clause-rays
mark-requires-clause-rays c =
    subst (λ (p : PlanOf). AreRays p.grid c.args.self.now.number c.args.self.now.rays) c.requires.plan c.requires.journal.newest.rays

-- what is known of the move once it is marked
marking : (c : In_ok-marked) → IsMarking c.args.plan.now c.args.self.now c.mark.new.self c.args.number c.in_ok-marked.marked.changes.items
    c.in_ok-marked.marked.counts
marking c = record {
  journal = c.requires.journal;
  plan_is = c.requires.plan;
  applies = c.requires.edit;
  low = c.requires.number;
  same = c.mark.ensures.same;
  edits = c.mark.ensures.edits;
  marked = c.in_ok-marked.ensures.marked;
}

pub returns-in_err-marked-clause-unchanged : goal.returns-in_err-marked-clause-unchanged
returns-in_err-marked-clause-unchanged c =
    let at = same_at c.args.self.now c.mark.new.self c.requires.journal c.mark.ensures.same c.mark.ensures.edits in search (rules, at)

pub take_over-requires-clause-on : goal.take_over-requires-clause-on
take_over-requires-clause-on c =
    marking_on c.args.plan.now c.args.self.now c.mark.new.self c.args.number c.in_ok-marked.marked.changes.items
    c.in_ok-marked.marked.counts (marking (goal.at.take_over-requires-clause-on c).In_ok-marked)

pub take_over-requires-clause-fits : goal.take_over-requires-clause-fits
take_over-requires-clause-fits c =
    marking_fits c.args.plan.now c.args.self.now c.mark.new.self c.args.number c.in_ok-marked.marked.changes.items
    c.in_ok-marked.marked.counts (marking (goal.at.take_over-requires-clause-fits c).In_ok-marked)

pub take_over-requires-clause-stands : goal.take_over-requires-clause-stands
take_over-requires-clause-stands c =
    marking_stands c.args.plan.now c.args.self.now c.mark.new.self c.args.number c.in_ok-marked.marked.changes.items
    c.in_ok-marked.marked.counts (marking (goal.at.take_over-requires-clause-stands c).In_ok-marked)

pub returns-clause-ok : goal.returns-clause-ok
returns-clause-ok c =
    let own = marking (goal.at.returns-clause-ok c).In_ok-marked in
    on_ok_both c.take_over.result _ _ _
    (marking_at c.args.plan.now c.args.self.now c.mark.new.self c.take_over.new.self c.args.number c.in_ok-marked.marked.changes.items
    c.in_ok-marked.marked.counts own)
    c.take_over.ensures.few c.take_over.ensures.applied

pub returns-clause-unchanged : goal.returns-clause-unchanged
returns-clause-unchanged c =
    let before = c.args.self.now in
    let after = c.take_over.new.self in
    let at = λ (edits : HasSameEdits c.mark.new.self after) (rays : after.rays ≡ c.mark.new.self.rays).
    same_at before after c.requires.journal
    (subst (λ (z : List KeptSets). HaveSameSets before.rays z) (sym rays) c.mark.ensures.same)
    (same_edits_through before c.mark.new.self after c.mark.ensures.edits edits) in
    on_err_both c.take_over.result _ _ _ at c.take_over.ensures.edits c.take_over.ensures.rays
