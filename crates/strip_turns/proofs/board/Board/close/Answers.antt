-- What was taken out of the slots is in order, and what is given is seen in the same way.
use Rattle.std.proofs.Common.{◌≡◌, ℕ, List, Option, length, ap, sym, ◌∙◌, subst}
use Rattle.std.proofs.lemmas.Result.{IfOk-weaker}
use Rattle.std.specs.Mem.Slots.{slots_items}
use Rattle.ray_grid.specs.Grids.{GridSize}
use Rattle.ray_grid.specs.Strips.{strips_of}
use Rattle.atomic_table.specs.Table.{Final, Seen}
use Rattle.job_model.specs.Tasks.{PlanOf}
use Rattle.strip_journal.specs.Strips.{StripOf}
use Rattle.turn_core.specs.World.{AreOfPlan, AreStrips}
use Rattle.strip_turns.specs.declared.board.Board.{Board}
use Rattle.strip_turns.specs.declared.board.Pass.{Pass}
use Rattle.strip_turns.specs.Passes.{card, IsPass}
use Rattle.strip_turns.specs.Plays.{IsAlone}
use Rattle.strip_turns.specs.Sound.{IsSound}
use Rattle.strip_turns.specs.Closed.{AllDrawn, AllHome, AllOut, AreBoardStrips}
use Rattle.strip_turns.proofs.Closing.{all_home, all_of_plan, all_there, in_order, given_plan, given_job}
use Rattle.strip_turns.proofs.board.Board.close.Goals as goal

-- words and slots as the pass leaves them, which is alone
module _ (b : Board) (p : Pass) (is : IsPass b p) (alone : IsAlone p.seat.me.0) (words : List ℕ) (slots : List (Option StripOf))
    (final : Final (Seen (IsSound (card b)) p.seat.id p.seat.me.0) words slots) where
  home : AllHome (card b) p.seat.me.0 words slots
  home = all_home (card b) p.seat.id p.seat.me.0 (card b) words slots is.named is.held alone final

  -- as many strips as the board has slots, taken out of them
  ordered : (strips : List StripOf) → AllOut slots strips b.table.shared.table_id.slots → AreBoardStrips (card b) p.seat.me.0 strips
  ordered strips out =
      let many = home.many ∙ b.whole.many ∙ ap (λ (plan : PlanOf). length (strips_of plan.grid)) b.card ∙ sym b.slots in
      in_order (card b) p.seat.me.0 words slots strips b.table.shared.table_id.slots home many out

pub taken_out-requires-clause-there : goal.taken_out-requires-clause-there
taken_out-requires-clause-there c =
    all_there (card c.args.self) c.args.pass.seat.me.0 _ _ c.args.self.few
    (home c.args.self c.args.pass c.requires.pass c.requires.alone _ _ c.close_with-closed.ensures.values.2)

pub as_seen-requires : goal.as_seen-requires
as_seen-requires c =
    let b = c.args.self in
    let p = c.args.pass in
    let strips = c.taken_out.result.items in
    let closed = c.close_with-closed.ensures in
    let many = c.strips-count.ensures ∙ ap (λ (g : GridSize). length (strips_of g)) c.grid.ensures ∙ sym b.slots in
    let taken = ordered b p c.requires.pass c.requires.alone _ _ closed.values.2 strips
    (subst (AllOut (slots_items c.close_with-closed.result.slots) strips) many c.taken_out.ensures) in
    record { plan = all_of_plan b.plan strips (given_plan (card b) b.plan p.seat.me.0 strips b.whole b.card taken) }

pub returns-in-Ok-clause-strips : goal.returns-in-Ok-clause-strips
returns-in-Ok-clause-strips c =
    let b = c.args.self in
    let p = c.args.pass in
    let strips = c.taken_out.result.items in
    let closed = c.close_with-closed.ensures in
    let many = c.strips-count.ensures ∙ ap (λ (g : GridSize). length (strips_of g)) c.grid.ensures ∙ sym b.slots in
    let taken = ordered b p c.requires.pass c.requires.alone _ _ closed.values.2 strips
    (subst (AllOut (slots_items c.close_with-closed.result.slots) strips) many c.taken_out.ensures) in
    IfOk-weaker c.as_seen.result (λ given. given.items ≡ strips) (λ given. AreBoardStrips (card b) p.seat.me.0 given.items)
    (λ given seen. subst (AreBoardStrips (card b) p.seat.me.0) (sym seen) taken) c.as_seen.ensures

pub returns-in-Ok-clause-drawn : goal.returns-in-Ok-clause-drawn
returns-in-Ok-clause-drawn c =
    let p = c.args.pass in
    let all = home c.args.self p c.requires.pass c.requires.alone _ _ c.close_with-closed.ensures.values.2 in
    IfOk-weaker c.as_seen.result (λ given. given.items ≡ c.taken_out.result.items) (λ _. AllDrawn p.seat.me.0) (λ _ _. all.drawn)
    c.as_seen.ensures

pub returns-in-Ok-clause-plan : goal.returns-in-Ok-clause-plan
returns-in-Ok-clause-plan c =
    let b = c.args.self in
    let v = c.args.pass.seat.me.0 in
    IfOk-weaker c.as_seen.result (λ given. AreBoardStrips (card b) v given.items) (λ given. AreOfPlan b.plan given.items)
    (λ given. given_plan (card b) b.plan v given.items b.whole b.card) (returns-in-Ok-clause-strips c)

pub returns-in-Ok-clause-job : goal.returns-in-Ok-clause-job
returns-in-Ok-clause-job c =
    let b = c.args.self in
    let v = c.args.pass.seat.me.0 in
    IfOk-weaker c.as_seen.result (λ given. AreBoardStrips (card b) v given.items)
    (λ given. (job : _) → AreStrips job (card b).strips → AreStrips job given.items)
    (λ given is job all. given_job (card b) job v given.items b.whole all is) (returns-in-Ok-clause-strips c)
