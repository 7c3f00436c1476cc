-- With its rays cleared and nothing of edits it is a journal of its job.
use Rattle.std.proofs.Common.{◌≡◌, ◌∙◌, ℕ, ap, length, refl, subst, sym}
use Rattle.ray_grid.specs.Grids.{GridSize}
use Rattle.ray_grid.specs.Strips.{strip_at}
use Rattle.job_model.specs.Tasks.{PlanOf}
use Rattle.strip_journal.specs.Fresh.{AreCleared}
use Rattle.strip_journal.specs.Journals.{job_of}
use Rattle.strip_journal.proofs.Cleared.{first_again}
use Rattle.strip_journal.proofs.FreshJournal.{first_journal, first_stock}
use Rattle.strip_journal.proofs.journal.Journal.start_over.Goals as goal

pub returns : goal.returns
returns c =
    let j = c.args.self in
    let h = c.requires.journal in
    let rays = c.clear_all.new.rays in
    let all : c.strip_len.result ≡ length (strip_at j.plan.value.grid j.number) =
    c.strip_len.ensures
    ∙ ap (λ (g : GridSize). length (strip_at g j.number)) (c.grid.ensures ∙ sym (ap (λ (p : PlanOf). p.grid) c.requires.plan)) in
    let fresh =
    first_again (job_of j) j.number j.rays rays h.newest.rays h.newest.bodies
    (subst (λ (n : ℕ). AreCleared n j.rays rays) all c.clear_all.ensures) in
    record {
      journal =
          first_journal _ j.plan.value j.stock.value.value j.part.value.value j.fixture.value.value refl refl refl refl h.valid h.grid h.strip h.few
          h.named fresh
          (record {
            of = h.of ∙ sym (first_stock (job_of j) j.number rays fresh);
            changes = c.new-2.ensures;
            entries = c.new-3.ensures;
            line = c.new.ensures;
            at = refl;
            done = refl;
          });
      job = refl;
      number = refl;
      done_is = refl;
    }
