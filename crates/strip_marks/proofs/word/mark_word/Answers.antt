use Rattle.std.proofs.Common.{◌+◌, List, sym, subst}
use Rattle.dexel_rays.specs.Sets.{HaveBound}
use Rattle.wanted_marks.specs.Rays.{is_possible_at, is_sure_at}
use Rattle.strip_marks.specs.declared.change.WordChange.{WordChange}
use Rattle.strip_marks.specs.RayMarks.{AreWordsMarked}
use Rattle.strip_marks.proofs.AtWords.{all_idle, word_marked}
use Rattle.strip_marks.proofs.Growing.{adds_none, one_word}
use Rattle.strip_marks.proofs.Idle.{idle_words}
use Rattle.strip_marks.proofs.word.mark_word.Goals as goal

pub returns-then-points-eq0 : goal.returns-then-points-eq0
returns-then-points-eq0 c =
    let a = c.args in
    let r = a.marker.now in
    let d = a.ray.now.sets in
    let word = a.asked.word in
    adds_none a.marked.now
    (λ added found. AreWordsMarked d (is_sure_at r) (is_possible_at r) a.rapid a.n word (word + 1) added found)
    (idle_words d (is_sure_at r) (is_possible_at r) a.rapid c.requires.ray.ordered a.n word (word + 1)
    (subst (λ b. HaveBound b d) (sym c.requires.ray.bound.stock) c.requires.ray.bound)
    (all_idle r d word a.asked.points c.requires.asked c.if-points-eq0.true))

pub returns : goal.returns
returns c =
    let a = c.args in
    let r = a.marker.now in
    let d = a.ray.now.sets in
    let h = c.in_ok-add_marks.ensures in
    let e = h.holds in
    record {
      added = h.added;
      found = h.found;
      joined = h.joined;
      summed = h.summed;
      holds =
          subst (λ (l : List WordChange). AreWordsMarked d (is_sure_at r) (is_possible_at r) a.rapid a.n a.asked.word (a.asked.word + 1) l h.found)
          (sym e.is_noted)
          (one_word d (is_sure_at r) (is_possible_at r) a.rapid a.n a.asked.word e.delta h.found
          (word_marked r d a.asked.word c.word-sets.result c.requires.ray c.word-sets.ensures
          a.asked.points c.sure_only.result c.mark-marks.result.sure c.mark-marks.result.possible a.rapid
          c.requires.asked c.sure_only.ensures c.mark-marks.ensures.sure c.mark-marks.ensures.possible
          e.delta h.found e.is_delta e.found));
    }
