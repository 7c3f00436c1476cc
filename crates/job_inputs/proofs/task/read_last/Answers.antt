use Rattle.std.proofs.Common.{ℕ, option_map, subst}
use Rattle.edit_plan.specs.Sound.{IsScript}
use Rattle.job_inputs.proofs.Behind.{task_read, task_stopped}
use Rattle.job_inputs.proofs.task.read_last.Goals as goal

pub returns-in-Ok-clause-gives : goal.returns-in-Ok-clause-gives
returns-in-Ok-clause-gives g c =
    task_read (option_map (λ name. name.now) c.args.script) c.args.program c.args.setup c.args.stock c.len-moves.result c.len-moves.ensures
    (g.S.Shelf.files c.args.shelf.now) c.in-Ok.script c.in-Ok.ensures.gives

pub returns-in-Err-clause-gives : goal.returns-in-Err-clause-gives
returns-in-Err-clause-gives g c =
    task_stopped (option_map (λ name. name.now) c.args.script) c.args.program c.args.setup c.args.stock c.len-moves.result c.len-moves.ensures
    (g.S.Shelf.files c.args.shelf.now) c.in-Err.stopped c.in-Err.ensures.gives

pub invariant_of-result : goal.invariant_of-result
invariant_of-result g c = record {
  moves = c.requires.valid;
  few = c.requires.few;
  setup_in = c.requires.setup;
  high = c.requires.high;
  stock_in = c.requires.placed;
  script_in = subst (λ (n : ℕ). IsScript n c.args.setup.grid c.in-Ok.script) c.len-moves.ensures c.in-Ok.ensures.sound;
}
