use Rattle.std.proofs.Common.{ap, sym, ◌∙◌}
use Rattle.vf_spans.specs.Words.{has_bit}
use Rattle.wanted_marks.specs.Rays.{is_possible_at, is_sure_at}
use Rattle.wanted_marks.proofs.Taking.{still_wanted, taken_bit}
use Rattle.wanted_marks.proofs.word_progress.WordProgress.with_mark.Goals as goal

pub returns-clause-progress : goal.returns-clause-progress
returns-clause-progress c = λ r first sure_only sure possible wanted before.
    let b = c.args.b in let progress = c.args.self in let marks = c.with_mark in let rest = c.without_bit in
    let is_wanted = before.among b c.requires.bit c.requires.left in record {
      among = λ k below set. still_wanted wanted progress.rest rest.result b k (before.among k below) (rest.ensures.bits k below) set;
      sure = λ k below. taken_bit progress.marks.sure wanted progress.rest rest.result (is_sure_at r) first b k _ marks.result.sure (before.sure k below) (marks.ensures.sure k below) (λ same. sure) (rest.ensures.bits k below) is_wanted;
      possible = λ k below whole. taken_bit progress.marks.possible wanted progress.rest rest.result (is_possible_at r) first b k _ marks.result.possible (before.possible k below whole) (marks.ensures.possible k below)
          (λ same. possible (ap (has_bit sure_only) (sym same) ∙ whole)) (rest.ensures.bits k below) is_wanted;
    }
