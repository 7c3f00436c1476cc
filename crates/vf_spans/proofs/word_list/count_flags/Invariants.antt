use Rattle.std.proofs.Common.{◌≡◌, ◌*◌}
use Rattle.vf_spans.specs.Members.{count_below}
use Rattle.vf_spans.specs.Words.{in_words}
use Rattle.vf_spans.proofs.word_list.count_flags.Given as goal

abbrev pub invariant-loop-n : goal.invariant-loop-n
invariant-loop-n l = l.total ≡ count_below (64 * l.n) (in_words l.a)
