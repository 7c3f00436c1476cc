use Rattle.std.proofs.Common.{◌≡◌, ℕ, suc, ◌<◌, ◌∷◌, [], ◌++◌, List, length, slice_index_or, append_assoc, arith, ap, ap₂, subst, ◌∙◌}
use Rattle.std.specs.Vec.Iter.{into_iter_items}
use Rattle.job_model.specs.Tasks.{PlanOf}
use Rattle.strip_journal.specs.Strips.{StripOf}
use Rattle.strip_turns.proofs.close.as_seen.Goals as goal

-- strips that are of a plan are so after the first of them
rest_of : (plan : PlanOf) (all rest : List StripOf) (first : StripOf) → all ≡ first ∷ rest
    → ((k : ℕ) (d : StripOf) → k < length all → (slice_index_or all k d).job.plan ≡ plan)
    → (k : ℕ) (d : StripOf) → k < length rest → (slice_index_or rest k d).job.plan ≡ plan
rest_of plan all rest first is of k d low =
    subst (λ (l : List StripOf). (slice_index_or l (suc k) d).job.plan ≡ plan) is (of (suc k) d (omega (arith, low, ap length is)))

pub loop-piece-preserved : goal.loop-piece-preserved
loop-piece-preserved c =
    let at = c.loop-piece in
    let piece = c.in-Some.piece in
    let steps : into_iter_items at.piece-iterator ≡ piece ∷ into_iter_items c.next.new.self = c.in-Some.ensures.steps.0 in
    let inv = at.invariant in (
      append_assoc at.yielded (piece ∷ []) _ ∙ rw (← steps) inv.0,
      c.in_ok-push.ensures.items ∙ ap₂ (λ (l : List StripOf) (s : StripOf). l ++ s ∷ []) inv.1 c.in_ok-into_strip.ensures,
      rest_of c.args.plan.now _ _ piece steps inv.2,
      let was = inv.3 in let gone = c.in-Some.ensures.steps.1 in let short = ap length steps in omega arith,
    )
