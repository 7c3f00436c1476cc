use Rattle.std.proofs.Common.{rules}
use Rattle.cl_moves.proofs.FoldLemmas.{step_sound}
use Rattle.cl_moves.proofs.fold.Fold.apply.Goals as goal

pub returns-in_ok-go_to-in-Goto-clause-sound : goal.returns-in_ok-go_to-in-Goto-clause-sound
returns-in_ok-go_to-in-Goto-clause-sound c =
    step_sound c.args.line c.args.statement c.args.self.now c.go_to.new.self c.requires.sound c.requires.ranges (search rules)

pub returns-in_ok-go_by-in-Delta-clause-sound : goal.returns-in_ok-go_by-in-Delta-clause-sound
returns-in_ok-go_by-in-Delta-clause-sound c =
    step_sound c.args.line c.args.statement c.args.self.now c.go_by.new.self c.requires.sound c.requires.ranges (search rules)
