use Rattle.std.proofs.Common.{◌≡◌, ℕ, not, ◌-◌, ◌^◌, ◌<◌, ◌&&◌, arith, ap, ◌∙◌}
use Rattle.std.specs.Prelude.{bit_and}
use Rattle.vf_spans.specs.Words.{has_bit}
use Rattle.vf_spans.proofs.WordBits.{has_bit-and, has_bit-not}
use Rattle.wanted_marks.specs.Rays.{is_possible_at, is_sure_at}
use Rattle.wanted_marks.proofs.BitLemmas.{set_in_both}
use Rattle.wanted_marks.proofs.Taking.{run_taken}
use Rattle.wanted_marks.proofs.word_progress.WordProgress.with_run.Goals as goal

pub returns-clause-fewer : goal.returns-clause-fewer
returns-clause-fewer c = λ k below set. set_in_both c.args.self.rest (2 ^ 64 - 1 - c.args.bits) k set

pub returns-clause-progress : goal.returns-clause-progress
returns-clause-progress c = λ r first sure_only removed wanted before.
    let progress = c.args.self in let run = c.args.bits in let rest = bit_and progress.rest (2 ^ 64 - 1 - run) in
    let fits : run < 2 ^ 64 = omega arith in
    let left : (k : ℕ) → k < 64 → has_bit rest k ≡ (has_bit progress.rest k && not (has_bit run k)) =
    λ k below. has_bit-and progress.rest (2 ^ 64 - 1 - run) k ∙ ap (λ x. has_bit progress.rest k && x) (has_bit-not run k fits below) in record {
      among = λ k below set. before.among k below (set_in_both progress.rest (2 ^ 64 - 1 - run) k set);
      sure = λ k below. run_taken c.with_sure.result.sure progress.marks.sure wanted progress.rest rest run (is_sure_at r) first k (before.sure k below) (c.with_sure.ensures.sure k below) (left k below)
          (λ set. before.among k below (c.requires k below set)) (λ set. (removed k below set).sure);
      possible = λ k below whole. run_taken c.with_sure.result.possible progress.marks.possible wanted progress.rest rest run (is_possible_at r) first k (before.possible k below whole)
          (c.with_sure.ensures.possible k below) (left k below) (λ set. before.among k below (c.requires k below set)) (λ set. (removed k below set).possible);
    }
