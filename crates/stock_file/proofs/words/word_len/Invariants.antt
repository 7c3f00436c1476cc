use Rattle.std.proofs.Common.{◌≡◌, ◌+◌, ◌==◌, drop, not}
use Rattle.std.specs.List.{prefix_len}
use Rattle.vf_text.specs.Blanks.{blank_space}
use Rattle.stock_file.proofs.words.word_len.Given as goal

abbrev pub invariant-loop-i : goal.invariant-loop-i
invariant-loop-i l = l.i + prefix_len (λ b. not (b == blank_space)) (drop l.i l.text) ≡ prefix_len (λ b. not (b == blank_space)) l.text
