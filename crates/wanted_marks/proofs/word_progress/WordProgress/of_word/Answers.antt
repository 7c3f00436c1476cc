use Rattle.std.proofs.Common.{◌+◌}
use Rattle.vf_spans.specs.Words.{has_bit}
use Rattle.vf_spans.proofs.WordBits.{has_bit-zero}
use Rattle.wanted_marks.specs.Rays.{is_possible_at, is_sure_at}
use Rattle.wanted_marks.proofs.Taking.{none_taken}
use Rattle.wanted_marks.proofs.word_progress.WordProgress.of_word.Goals as goal

pub returns-clause-progress : goal.returns-clause-progress
returns-clause-progress c = λ r first sure_only. record {
  among = λ k below set. set;
  sure = λ k below. none_taken (has_bit 0 k) (has_bit c.args.wanted k) (is_sure_at r (first + k)) (has_bit-zero k);
  possible = λ k below whole. none_taken (has_bit 0 k) (has_bit c.args.wanted k) (is_possible_at r (first + k)) (has_bit-zero k);
}
