use Rattle.std.proofs.Common.{◌≡◌, ℕ, List, [], ◌∷◌, Option, Some, None, Result, IsSomeAnd, ap, sym, ◌∙◌, subst}
use Rattle.atomic_table.specs.Table.{rest}
use Rattle.job_model.specs.Tasks.{PlanOf}
use Rattle.strip_journal.specs.Strips.{StripOf}
use Rattle.strip_turns.specs.Passes.{IsTakenAt, Worked}
use Rattle.strip_turns.proofs.OutAndBack.{same_slot}
use Rattle.strip_turns.proofs.turn.turn_held.Goals as goal

-- what was done in the slot was done on the strip that lay there
in_slot : (k : ℕ) (plan : PlanOf) (was left : Option StripOf) (before : StripOf) (held : List (ℕ × Option StripOf))
    (result : Result (ℕ × ℕ) (ℕ × ℕ)) → held ≡ (k, Some before) ∷ [] → Some before ≡ was
    → IsSomeAnd was (λ b. IsSomeAnd left (λ a. Worked plan b a result))
    → (b : StripOf) × (held ≡ (k, Some b) ∷ []) × ((a : StripOf) × ((k, left) ∷ rest held ≡ (k, Some a) ∷ []) × Worked plan b a result)
in_slot k plan (Some b) (Some a) before held result is same h =
    (b, is ∙ ap (λ x. (k, x) ∷ []) same, (a, ap (λ l. (k, Some a) ∷ l) (ap rest is), h))
in_slot k plan (Some b) None before held result is same h = absurd h
in_slot k plan None left before held result is same h = absurd h

pub slot_mut-slot-requires : goal.slot_mut-slot-requires
slot_mut-slot-requires c =
    let t = c.requires.held in
    (c.requires.own, (Some t.0, t.1 ∙ ap (λ l. (c.args.strip, Some t.0) ∷ l) (sym (ap rest t.1))))

pub turn_slot-requires : goal.turn_slot-requires
turn_slot-requires c =
    let t = c.requires.held in
    let same = same_slot c.args.strip (Some t.0) c.slot_mut-slot.result.now _ _ _ t.1 c.slot_mut-slot.ensures.value in
    subst (λ x. IsSomeAnd x (IsTakenAt c.args.board.now.plan c.args.from)) same t.2

pub returns-clause-worked : goal.returns-clause-worked
returns-clause-worked c =
    let t = c.requires.held in
    let same = same_slot c.args.strip (Some t.0) c.slot_mut-slot.result.now _ _ _ t.1 c.slot_mut-slot.ensures.value in
    in_slot c.args.strip c.args.board.now.plan _ c.turn_slot.new.slot t.0 _ c.turn_slot.result t.1 same c.turn_slot.ensures
