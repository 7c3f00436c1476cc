-- A pass may go to another thread, and any thread may share the board.
use mathlib.Core.List.{[], ◌∷◌}
use mir.Syntax.{Sym}
use denote.RattleType.{RattleType}
use denote.Builtin.{One}
use denote.Ref.{NamedLft}
use denote.Param.Send.{IsSend, IsSync, mut_send, recorded_send, recorded_sync, sendable, shr_send, struct_send, struct_sync}
use denote.Struct.Declared.{shape}
use denote.Struct.Field.{mut_ref_field, shr_ref_field}
use denote.Struct.Tuple.{TupleAt, field_at, type_at}
use Rattle.std.proofs.Crossing as heap
use Rattle.std.specs.contracts.alloc.Global as global
use Rattle.std.specs.contracts.impls.GlobalAllocator.TheImpl as allocator
use Rattle.std.specs.contracts.option.Option as option
use Rattle.atomic_table.proofs.owned.Table.TheSendSync as table
use Rattle.atomic_table.proofs.shared.Seat.TheSendSync as seat
use Rattle.atomic_table.specs.contracts.owned.Table as table_row
use Rattle.strip_plan.proofs.plan.Plan.TheSendSync as plan
use Rattle.turn_core.proofs.Sent.{ahead_send}
use Rattle.turn_core.specs.contracts.ahead.AheadStrip as ahead
use Rattle.strip_turns.specs.contracts.board.Board as board
use Rattle.strip_turns.specs.contracts.board.Pass as pass
use Rattle.strip_turns.specs.contracts.rule.Sound as sound
use Rattle.strip_turns.specs.contracts.rule.SoundTableRuleOptionAheadStripViewKey.TheImpl as rule
use Rattle.strip_turns.specs.contracts.view.Key as key
use Rattle.strip_turns.specs.contracts.view.View as view

slot_send : IsSend (option.the_row ahead.the_row)
slot_send = search (sendable, ahead_send) depth 20

-- the same of a pass that is a field of something
pub pass_field_send : IsSend (pass.the_field).row
pass_field_send = struct_send (shape pass.the_type) (seat.the_send _ view.the_row slot_send, tt)

pub pass_send : IsSend pass.the_row
pass_send = recorded_send (pass.the_field).row _ _ (pass.the_type).to_one pass_field_send

slots_sync : IsSync (table_row.the_field (option.the_row ahead.the_row) view.the_row key.the_row sound.the_row global.the_row rule.ghosts
    allocator.ghosts).row
slots_sync = table.the_field_sync (option.the_row ahead.the_row) view.the_row key.the_row sound.the_row global.the_row rule.ghosts
    allocator.ghosts slot_send heap.send heap.sync heap.frees

pub board_sync : IsSync board.the_row
board_sync = recorded_sync (board.the_field).row _ _ (board.the_type).to_one
    (struct_sync (shape board.the_type) (plan.the_sync, (slots_sync, tt)))

-- a closure over one reference that shares and one that writes may go to another thread where what they refer to may
pub drawing_sent : (name : Sym) (a b : NamedLft) (R S : RattleType) (r : One R.mir) (s : One S.mir) → IsSync R → IsSend S
    → IsSend (TupleAt name ((shr_ref_field a R r).row ∷ (mut_ref_field b S s).row ∷ []))
drawing_sent name a b R S r s shared written =
    let rows = (shr_ref_field a R r).row ∷ (mut_ref_field b S s).row ∷ [] in
    recorded_send (field_at name rows).row _ _ (type_at name rows).to_one
    (struct_send (shape (type_at name rows)) (shr_send _ _ R shared, (mut_send _ _ S written, tt)))
