use Rattle.stock_file.proofs.LawLemmas.{one_spelling, reads_back}
use Rattle.stock_file.proofs.laws.laws_of_texts.Goals as goal

pub returns-clause-back : goal.returns-clause-back
returns-clause-back c = reads_back

pub returns-clause-one : goal.returns-clause-one
returns-clause-one c = one_spelling
