use Rattle.std.proofs.Common.{rules}
use Rattle.bern_form.proofs.Signs.{tested_negative2}
use Rattle.bern_form.proofs.form.Form2.all_negative.Goals as goal

pub returns-clause-interval : goal.returns-clause-interval
returns-clause-interval c = λ h x y place. tested_negative2 c.args.self.now.c x y (search rules) (search rules) place
