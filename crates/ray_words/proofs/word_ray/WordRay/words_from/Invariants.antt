use Rattle.std.proofs.Common.{◌≡◌, ◌+◌, length}
use Rattle.ray_words.specs.Kept.{AreWordsFrom}
use Rattle.ray_words.proofs.word_ray.WordRay.words_from.Given as goal

-- the words so far are those of the sets
abbrev pub invariant-loop-n : goal.invariant-loop-n
invariant-loop-n l = record {
  size : l.first + length l.words.items ≡ l.n;
  bits : AreWordsFrom l.self.sets l.first l.words.items;
}
