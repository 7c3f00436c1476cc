use Rattle.std.proofs.Common.{◌≡◌, drop}
use Rattle.cl_records.specs.Words.{keyword_name, named}
use Rattle.cl_records.proofs.word.find_keyword.Given as goal

abbrev pub invariant-loop-keyword : goal.invariant-loop-keyword
invariant-loop-keyword l = named keyword_name (drop l.keyword-index l.keywords) l.letters ≡ named keyword_name l.keywords l.letters
