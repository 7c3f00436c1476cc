use Rattle.stock_file.proofs.ReadLemmas.{answer_back, answer_spelt, answer_valid}
use Rattle.stock_file.proofs.read.read_stock.Goals as goal

pub returns-clause-valid : goal.returns-clause-valid
returns-clause-valid c = answer_valid c.args.bytes.now c.read_text.result c.read_text.ensures

pub returns-clause-spelling : goal.returns-clause-spelling
returns-clause-spelling c = answer_spelt c.args.bytes.now c.read_text.result c.read_text.ensures

pub returns-clause-gives_back : goal.returns-clause-gives_back
returns-clause-gives_back c = answer_back c.args.bytes.now c.read_text.result c.read_text.ensures
