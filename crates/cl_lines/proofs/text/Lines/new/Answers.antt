use Rattle.cl_lines.proofs.FewLemmas.{texts_of-few}
use Rattle.cl_lines.proofs.text.Lines.new.Goals as goal

pub returns-clause-few : goal.returns-clause-few
returns-clause-few c = texts_of-few c.args.bytes.now
