use Rattle.std.proofs.Common.{rules, ◌≡◌, ◌+◌, ◌<◌, get_or, length}
use denote.Exit.{no}
use denote.Param.Send.{arg_send, arg_sync, param_send, param_sync}
use Rattle.strip_turns.proofs.Sent.{board_sync}
use Rattle.worker_gate.proofs.Sent.{both_shared, worker_send}
use Rattle.worker_gate.proofs.Teams.{number_kept}
use Rattle.worker_gate.proofs.threads.work_each.Goals as goal

pub for_each_mut-requires-send-T : goal.for_each_mut-requires-send-T
for_each_mut-requires-send-T g c κs within = param_send 1 _ (arg_send _ no _ worker_send)

pub for_each_mut-requires-sync-F : goal.for_each_mut-requires-sync-F
for_each_mut-requires-sync-F g c κs within = param_sync 2 _ (arg_sync _ no _ (both_shared _ _ _ _ _ _ _ board_sync c.type_bounds.sync-G))

pub returns-clause-numbered : goal.returns-clause-numbered
returns-clause-numbered g c = λ s h. record {
  each = λ k d lt.
      let lt' : k < length c.args.team.now = search rules in
      let e = (c.for_each_mut.ensures k d lt').1 in
      let call = e.call in
      let same : e.after_call.now.pass.seat.me.0.number ≡ e.argument.now.pass.seat.me.0.number = search (rules, call) in
      number_kept (get_or c.args.team.now k d) e.argument.now e.after_call.now (get_or c.for_each_mut.new.s k d) (s + k + 1)
      e.argument_is e.left same (h.each k d lt');
}
