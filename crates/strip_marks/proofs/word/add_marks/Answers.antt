use Rattle.std.proofs.Common.{◌+◌, ◌-◌, arith, refl, sym, subst}
use Rattle.job_counts.specs.declared.counts.Counts.{Counts}
use Rattle.job_counts.specs.Counts.{AreWithin, most_count, no_counts, plus}
use Rattle.dexel_rays.specs.WordSets.{seen_bit}
use Rattle.strip_marks.specs.Words.{AreMarksAdded}
use Rattle.strip_marks.proofs.AtWords.{no_delta, no_found}
use Rattle.strip_marks.proofs.Counting.{found_within, within_both, within_more}
use Rattle.strip_marks.proofs.Growing.{adds_none}
use Rattle.strip_marks.proofs.word.add_marks.Goals as goal

pub returns-then-marks-eq0-2 : goal.returns-then-marks-eq0-2
returns-then-marks-eq0-2 c =
    let a = c.args in
    let w = a.sets.now in
    adds_none a.marked.now (λ added found. AreMarksAdded w a.marks.sure a.marks.possible a.rapid a.n a.word added found)
    record {
      delta = record { sure = 0; possible = 0 };
      is_delta = no_delta w a.marks.sure a.marks.possible c.if-marks-eq0.true c.if-marks-eq0-2.true;
      is_noted = refl;
      found = no_found w a.marks.sure a.marks.possible a.rapid no_counts c.if-marks-eq0.true c.if-marks-eq0-2.true refl;
    }

pub plus-marked-requires : goal.plus-marked-requires
plus-marked-requires c =
    let a = c.args in
    let found = subst (λ (x : Counts). AreWithin 64 x) (sym c.add.ensures.counts)
    (found_within (seen_bit a.sets.now a.marks.sure a.marks.possible a.rapid) 0 64 64 (omega arith)) in
    within_more (most_count - 64 + 64) most_count (plus a.marked.now.counts c.add.result.1) (omega arith)
    (within_both (most_count - 64) 64 a.marked.now.counts c.add.result.1 c.requires found)
