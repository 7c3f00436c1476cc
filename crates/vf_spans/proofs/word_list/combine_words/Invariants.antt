use Rattle.std.proofs.Common.{◌≡◌, ℕ, ◌<◌, ◌≤◌, ◌*◌, length}
use Rattle.vf_spans.specs.Merge.{combined}
use Rattle.vf_spans.specs.Words.{in_words}
use Rattle.vf_spans.proofs.word_list.combine_words.Given as goal

abbrev pub invariant-loop-n : goal.invariant-loop-n
invariant-loop-n l = record {
  size : length l.words ≡ length l.fn.words;
  made : (i : ℕ) → i < 64 * l.n → in_words l.words i ≡ combined l.operation (in_words l.fn.words i) (in_words l.other i);
  rest : (i : ℕ) → 64 * l.n ≤ i → in_words l.words i ≡ in_words l.fn.words i;
}
