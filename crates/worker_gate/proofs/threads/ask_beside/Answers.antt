use denote.Exit.{no}
use denote.Param.Send.{arg_send, param_send}
use Rattle.std.proofs.Crossing as heap
use Rattle.edit_plan.proofs.query.Query.TheSendSync as query
use Rattle.strip_turns.proofs.Sent.{board_sync, pass_send}
use Rattle.worker_gate.proofs.Sent.{asking_sent}
use Rattle.worker_gate.proofs.threads.ask_beside.Goals as goal

pub join_mut-answers-requires-send-F : goal.join_mut-answers-requires-send-F
join_mut-answers-requires-send-F g c κs within = param_send 1 _ (arg_send _ no _
    (asking_sent _ _ _ _ _ _ _ _ _ _ _ _ _ _ _ _ c.type_bounds.sync-R heap.sync board_sync pass_send query.the_sync))
