use Rattle.std.proofs.Common.{◌≡◌, ℕ, true, arith, sym, ◌∙◌}
use Rattle.std.specs.Prelude.{bit_and}
use Rattle.std.proofs.lemmas.Bool.{and_parts}
use Rattle.vf_spans.specs.Words.{has_bit}
use Rattle.vf_spans.proofs.WordBits.{has_bit-and}
use Rattle.ray_words.proofs.settled.Settled.grown.Goals as goal

-- a bit of both words is one of the second
of_second : (a b k : ℕ) → has_bit (bit_and a b) k ≡ true → has_bit b k ≡ true
of_second a b k set = (and_parts (has_bit a k) (has_bit b k) (sym (has_bit-and a b k) ∙ set)).1

pub end_of_run-requires-clause-first : goal.end_of_run-requires-clause-first
end_of_run-requires-clause-first c =
    of_second c.args.sure c.args.unwanted c.lowest_bit-b.result c.lowest_bit-b.ensures.set
