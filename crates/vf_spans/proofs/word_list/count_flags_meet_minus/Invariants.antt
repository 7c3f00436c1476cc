use Rattle.std.proofs.Common.{◌≡◌, ◌*◌, ◌&&◌, not}
use Rattle.vf_spans.specs.Members.{count_below}
use Rattle.vf_spans.specs.Words.{in_words}
use Rattle.vf_spans.proofs.word_list.count_flags_meet_minus.Given as goal

abbrev pub invariant-loop-n : goal.invariant-loop-n
invariant-loop-n l = l.total ≡ count_below (64 * l.n) ((λ i. in_words l.a i && (in_words l.b i && not (in_words l.c i))))
