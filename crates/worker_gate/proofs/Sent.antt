-- What goes to another thread, and what threads share.
use mathlib.Core.List.{[], ◌∷◌}
use mir.Syntax.{Sym}
use denote.RattleType.{RattleType}
use denote.Builtin.{One}
use denote.Ref.{NamedLft}
use denote.Param.Send.{IsSend, IsSync, mut_send, plain_send, recorded_send, recorded_sync, shr_send, shr_slice_send, shr_sync, struct_send, struct_sync}
use denote.Struct.Declared.{shape}
use denote.Struct.Field.{mut_ref_field, shr_ref_field, shr_slice_field}
use denote.Struct.Tuple.{TupleAt, field_at, type_at}
use Rattle.strip_turns.proofs.Sent.{pass_field_send}
use Rattle.worker_gate.specs.contracts.worker.Worker as worker

pub worker_send : IsSend worker.the_row
worker_send = recorded_send (worker.the_field).row _ _ (worker.the_type).to_one
    (struct_send (shape worker.the_type) (pass_field_send, (plain_send _ _ _ _ _, tt)))

-- a closure over two references may be called by any thread where what they refer to may be shared
pub both_shared : (name : Sym) (a b : NamedLft) (R S : RattleType) (r : One R.mir) (s : One S.mir) → IsSync R → IsSync S
    → IsSync (TupleAt name ((shr_ref_field a R r).row ∷ (shr_ref_field b S s).row ∷ []))
both_shared name a b R S r s first second =
    let rows = (shr_ref_field a R r).row ∷ (shr_ref_field b S s).row ∷ [] in
    recorded_sync (field_at name rows).row _ _ (type_at name rows).to_one
    (struct_sync (shape (type_at name rows)) (shr_sync _ _ R first, (shr_sync _ _ S second, tt)))

-- a closure over three references, one that writes, and one to a list may go to another thread where what they refer to may
pub asking_sent : (name : Sym) (a b d e f : NamedLft) (R S T W L : RattleType)
    (r : One R.mir) (s : One S.mir) (t : One T.mir) (w : One W.mir) (l : One L.mir)
    → IsSync R → IsSync S → IsSync T → IsSend W → IsSync L
    → IsSend (TupleAt name ((shr_ref_field a R r).row ∷ (shr_ref_field b S s).row ∷ (shr_ref_field d T t).row
    ∷ (mut_ref_field e W w).row ∷ (shr_slice_field f L l).row ∷ []))
asking_sent name a b d e f R S T W L r s t w l first second third written list =
    let rows = (shr_ref_field a R r).row ∷ (shr_ref_field b S s).row ∷ (shr_ref_field d T t).row
    ∷ (mut_ref_field e W w).row ∷ (shr_slice_field f L l).row ∷ [] in
    recorded_send (field_at name rows).row _ _ (type_at name rows).to_one
    (struct_send (shape (type_at name rows)) (
      shr_send _ _ R first,
      (shr_send _ _ S second, (shr_send _ _ T third, (mut_send _ _ W written, (shr_slice_send _ _ L list, tt)))),
    ))
