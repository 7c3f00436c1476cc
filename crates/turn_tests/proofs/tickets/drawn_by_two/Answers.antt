use denote.Exit.{no}
use denote.Param.Send.{arg_send, param_send}
use Rattle.strip_turns.proofs.Sent.{board_sync, drawing_sent, pass_send}
use Rattle.turn_tests.proofs.tickets.drawn_by_two.Goals as goal

pub join_mut-requires-send-F : goal.join_mut-requires-send-F
join_mut-requires-send-F g c κs within = param_send 1 _ (arg_send _ no _ (drawing_sent _ _ _ _ _ _ _ board_sync pass_send))
