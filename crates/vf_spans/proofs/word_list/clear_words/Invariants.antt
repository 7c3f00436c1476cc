use Rattle.std.proofs.Common.{◌≡◌, ℕ, ◌*◌, ◌<◌, false, length}
use Rattle.vf_spans.specs.Words.{in_words}
use Rattle.vf_spans.proofs.word_list.clear_words.Given as goal

abbrev pub invariant-loop-n : goal.invariant-loop-n
invariant-loop-n l = record {
  size : length l.words ≡ length l.fn.words;
  cleared : (i : ℕ) → i < 64 * l.n → in_words l.words i ≡ false;
}
