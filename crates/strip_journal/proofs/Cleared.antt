-- The rays of a strip that are cleared are those before the first edit.
use Rattle.std.proofs.Common.{ℕ, ◌<◌, Bool, List, length, arith, ap, ◌∙◌, subst}
use Rattle.vf_spans.specs.Members.{has}
use Rattle.ray_grid.specs.Strips.{strip_at}
use Rattle.dexel_rays.specs.Sets.{HaveBound}
use Rattle.job_model.specs.Tasks.{Job}
use Rattle.ray_words.specs.Rays.{KeptSets}
use Rattle.strip_marks.specs.Marks.{AreRays, sets_of}
use Rattle.strip_journal.specs.Fresh.{AreCleared}
use Rattle.strip_journal.specs.Journals.{HasBodies}
use Rattle.strip_journal.proofs.FreshJournal.{AreFirstRays}

-- they have the points of the bodies, and none is sure or possible
pub first_again : (job : Job) (strip : ℕ) (before after : List KeptSets) → AreRays job.plan.grid strip before
    → ((n : ℕ) → n < length before → HasBodies job strip n (sets_of before n))
    → AreCleared (length (strip_at job.plan.grid strip)) before after → AreFirstRays job strip after
first_again job strip before after rays bodies cleared = record {
  many = cleared.many ∙ rays.many;
  each = λ n low.
      let there : n < length before = omega (arith, low, rays.many) in
      let one = cleared.cleared n low in
      let body = bodies n there in
      record {
        bound = subst (λ (b : ℕ). HaveBound b (sets_of after n)) (rays.bounds n there).stock one.bound;
        stock_is = λ l lt. ap (λ (s : List Bool). has s l) one.stock ∙ body.stock l lt;
        part_is = λ l lt. ap (λ (s : List Bool). has s l) one.part ∙ body.part l lt;
        fixture_is = λ l lt. ap (λ (s : List Bool). has s l) one.fixture ∙ body.fixture l lt;
        sure = one.sure;
        possible = one.possible;
      };
}
