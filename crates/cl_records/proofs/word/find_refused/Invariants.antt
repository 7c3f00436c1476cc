use Rattle.std.proofs.Common.{◌≡◌, drop}
use Rattle.cl_lines.specs.Words.{word_name}
use Rattle.cl_records.specs.Words.{named}
use Rattle.cl_records.proofs.word.find_refused.Given as goal

abbrev pub invariant-loop-word : goal.invariant-loop-word
invariant-loop-word l = named word_name (drop l.word-index l.words) l.letters ≡ named word_name l.words l.letters
