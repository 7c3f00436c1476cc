use Rattle.std.proofs.Common.{refl}
use Rattle.vf_spans.proofs.WordBits.{has_bit-or, has_bit-zero}
use Rattle.wanted_marks.specs.Rays.{is_possible_at, is_sure_at}
use Rattle.wanted_marks.proofs.BitLemmas.{none_set}
use Rattle.wanted_marks.proofs.Taking.{rest_taken}
use Rattle.wanted_marks.proofs.word_progress.WordProgress.with_rest_removed.Goals as goal

pub returns-clause-progress : goal.returns-clause-progress
returns-clause-progress c = λ r first sure_only removed wanted before.
    let progress = c.args.self in record {
      among = λ k below set. none_set 0 k refl set;
      sure = λ k below. rest_taken _ progress.marks.sure wanted progress.rest 0 (is_sure_at r) first k (before.sure k below) (has_bit-or progress.marks.sure progress.rest k) (has_bit-zero k) (before.among k below)
          (λ left. (removed k below left).sure);
      possible = λ k below whole. rest_taken _ progress.marks.possible wanted progress.rest 0 (is_possible_at r) first k (before.possible k below whole) (has_bit-or progress.marks.possible progress.rest k) (has_bit-zero k)
          (before.among k below) (λ left. (removed k below left).possible);
    }
