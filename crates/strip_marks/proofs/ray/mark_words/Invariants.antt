use Rattle.std.proofs.Common.{◌-◌, ◌/◌, ◌<◌, ◌≤◌}
use Rattle.vf_spans.specs.Words.{words_below}
use Rattle.wanted_marks.specs.Rays.{is_possible_at, is_sure_at}
use Rattle.strip_marks.specs.RayMarks.{Adds, AreWordsMarked}
use Rattle.strip_marks.proofs.ray.mark_words.Given as goal

abbrev pub invariant-loop-window : goal.invariant-loop-window
invariant-loop-window l = record {
  from : l.fn.first.word < l.word;
  to : l.word ≤ words_below l.fn.window.1;
  adds : Adds l.fn.marked l.marked
      (λ added found. AreWordsMarked l.ray.sets (is_sure_at l.marker) (is_possible_at l.marker) l.rapid l.n (l.fn.window.0 / 64) l.word added
      found);
}

abbrev pub decreases-loop-window : goal.decreases-loop-window
decreases-loop-window l = words_below l.fn.window.1 - l.word
