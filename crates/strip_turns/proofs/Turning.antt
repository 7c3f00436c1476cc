-- A turn: the strip is taken, what is done in its slot leaves it further or where it was, and it is given back.
use Rattle.std.proofs.Common.{◌≡◌, ℕ, ◌+◌, ◌<◌, ◌≤◌, List, [], ◌∷◌, Option, Some, Ok, Err, length, min, arith, refl, sym, ap, ◌∙◌, subst}
use Rattle.atomic_table.specs.declared.shared.Seat.{Seat}
use Rattle.job_model.specs.Tasks.{PlanOf}
use Rattle.strip_journal.specs.Strips.{StripOf}
use Rattle.strip_turns.specs.declared.view.View.{View}
use Rattle.strip_turns.specs.declared.board.Board.{Board}
use Rattle.strip_turns.specs.Views.{with_strip, with_trip}
use Rattle.strip_turns.specs.Log.{logged_version}
use Rattle.strip_turns.specs.Cards.{start_version, last}
use Rattle.strip_turns.specs.Plays.{Missed}
use Rattle.strip_turns.specs.Passes.{card, IsIdleSeat, IsTakenAt, TookIn, HasStrip, Worked, IsInSeat, IsBack, Tripped}
use Rattle.strip_turns.proofs.Cases.{case_moved, plan_of}
use Rattle.strip_turns.proofs.OutAndBack.{same_slot}

-- a pass that missed the strip holds none
pub missed_idle : (b : Board) (k : ℕ) (old new : Seat (Option StripOf) View) → IsIdleSeat b old → new.table_id ≡ old.table_id
    → Missed k old.me new.me → IsIdleSeat b new
missed_idle b k old new idle own missed = record {
  own = own ∙ idle.own;
  named = ap (λ m. m.0.card) missed.me ∙ idle.named;
  held = ap (λ m. m.0.held) missed.me ∙ idle.held;
  slots = ap (λ m. m.1) missed.me ∙ idle.slots;
}

-- the strip in the slot, given twice, is the same
same_strip : (k : ℕ) (s t : StripOf) (zs : List (ℕ × Option StripOf)) → zs ≡ (k, Some s) ∷ [] → zs ≡ (k, Some t) ∷ [] → s ≡ t
same_strip k s t zs p q = let e = same_slot k (Some s) (Some t) [] [] zs p q in cc

-- the strip that was taken lies in the slot at another version, and from and to are the two versions
pub record Advanced (b : Board) (k from to : ℕ) (taken : StripOf) (seat : Seat (Option StripOf) View) (strip : StripOf) : Type 0 where
  pub was : from ≡ taken.done
  pub slots : seat.me.1 ≡ (k, Some strip) ∷ []
  pub job : strip.job ≡ taken.job
  pub number : strip.number ≡ taken.number
  pub is : strip.done ≡ to
  pub further : from ≤ to
  pub within : to ≤ last (card b)

module _ (b : Board) (k from to : ℕ) (old mid new : Seat (Option StripOf) View) (taken : StripOf) (took : TookIn b k old mid taken) where
  pub all_done : HasStrip mid.me k (λ before. HasStrip new.me k (λ after. Worked b.plan before after (Ok (from, to))))
      → (strip : StripOf) × Advanced b k from to taken new strip × (to ≡ min (from + 8) (last (card b)))
  all_done h =
      let w = h.2.2 in
      let raised = w.2 in
      let same = same_strip k h.0 taken mid.me.1 h.1 (ap (λ m. m.1) took.me) in
      let done : h.0.done ≡ taken.done = ap (λ (s : StripOf). s.done) same in
      let many : last (card b) ≡ length b.plan.edits = ap (λ (p : PlanOf). length p.edits) b.card in
      let within = took.of_case.within in
      let at = raised.done in
      let from_is = w.0 in
      let to_is = w.1 in (
        h.2.0,
        record {
          was = from_is ∙ done;
          slots = h.2.1;
          job = raised.job ∙ ap (λ (s : StripOf). s.job) same;
          number = raised.number ∙ ap (λ (s : StripOf). s.number) same;
          is = sym to_is;
          further = omega arith;
          within = omega arith;
        },
        omega arith,
      )

  pub part_done : HasStrip mid.me k (λ before. HasStrip new.me k (λ after. Worked b.plan before after (Err (from, to))))
      → (strip : StripOf) × Advanced b k from to taken new strip × (to < min (from + 8) (last (card b)))
  part_done h =
      let w = h.2.2 in
      let stopped = w.2 in
      let same = same_strip k h.0 taken mid.me.1 h.1 (ap (λ m. m.1) took.me) in
      let done : h.0.done ≡ taken.done = ap (λ (s : StripOf). s.done) same in
      let many : last (card b) ≡ length b.plan.edits = ap (λ (p : PlanOf). length p.edits) b.card in
      let later = stopped.later in
      let short = stopped.short in
      let from_is = w.0 in
      let to_is = w.1 in (
        h.2.0,
        record {
          was = from_is ∙ done;
          slots = h.2.1;
          job = stopped.job ∙ ap (λ (s : StripOf). s.job) same;
          number = stopped.number ∙ ap (λ (s : StripOf). s.number) same;
          is = sym to_is;
          further = omega arith;
          within = omega arith;
        },
        omega arith,
      )

  -- the strip that was taken is of the board's plan
  pub lies_there : from ≡ taken.done → HasStrip mid.me k (IsTakenAt b.plan from)
  lies_there was = (taken, ap (λ m. m.1) took.me, (plan_of (card b) k taken.done taken b.whole took.of_case ∙ b.card, was))

  module _ (idle : IsIdleSeat b old) (own : new.table_id ≡ mid.table_id) (view : new.me.0 ≡ mid.me.0) (strip : StripOf)
      (done : Advanced b k from to taken new strip) where
    -- so it may be given back
    pub lies_further : IsInSeat b k from to new strip
    lies_further = record {
      own = own ∙ took.own;
      named = ap (λ (v : View). v.card) view ∙ ap (λ m. m.0.card) took.me ∙ idle.named;
      held = ap (λ (v : View). v.held) view ∙ ap (λ m. m.0.held) took.me ∙ ap (λ (n : ℕ). (with_strip k n old.me.0).held) (sym done.was);
      slots = done.slots;
      of_case = case_moved (card b) k taken.done strip.done taken strip took.of_case done.job done.number refl
          (let is = done.is in let within = done.within in omega arith);
      at = done.is;
      further = done.further;
    }

    -- and then the pass did one trip
    pub turn_tripped : (seat : Seat (Option StripOf) View) → IsBack b k from to new seat → Tripped (card b) k from to old.me.0 seat.me.0
    turn_tripped seat back = record {
      met = back.met;
      view = ap (λ m. m.0) back.me ∙ ap (with_trip k from to back.met) (view ∙ ap (λ m. m.0) took.me)
          ∙ (λ i. record (with_trip k from to back.met old.me.0) { held = sym idle.held i });
      newer = subst (λ (n : ℕ). logged_version k (start_version (card b) k) old.me.0.log ≤ n) (sym done.was) took.seen;
      further = done.further;
      within = done.within;
      seen = back.seen;
    }

    -- and holds no strip
    pub turn_idle : (seat : Seat (Option StripOf) View) → IsBack b k from to new seat → IsIdleSeat b seat
    turn_idle seat back = record {
      own = back.own;
      named = ap (λ m. m.0.card) back.me ∙ ap (λ (v : View). v.card) view ∙ ap (λ m. m.0.card) took.me ∙ idle.named;
      held = ap (λ m. m.0.held) back.me;
      slots = ap (λ m. m.1) back.me;
    }

    -- where it was worked on, and then given back
    pub turn_ended : {X : Type 0} → X → (seat : Seat (Option StripOf) View) → IsBack b k from to new seat → (Tripped (card b) k from to old.me.0 seat.me.0 × X) × IsIdleSeat b seat
    turn_ended how seat back = ((turn_tripped seat back, how), turn_idle seat back)

module _ (b : Board) (k from to : ℕ) (old mid new : Seat (Option StripOf) View) (took : (taken : StripOf) × TookIn b k old mid taken) (idle : IsIdleSeat b old)
    (own : new.table_id ≡ mid.table_id) (view : new.me.0 ≡ mid.me.0) where
  -- a turn that did all its edits
  module _ (worked : HasStrip mid.me k (λ before. HasStrip new.me k (λ after. Worked b.plan before after (Ok (from, to))))) where
    pub lies_done : (strip : StripOf) × IsInSeat b k from to new strip
    lies_done = let t = all_done b k from to old mid new took.0 took.1 worked in (t.0, lies_further b k from to old mid new took.0 took.1 idle own view t.0 t.1)

    pub ended_done : (seat : Seat (Option StripOf) View) → IsBack b k from to new seat
        → (Tripped (card b) k from to old.me.0 seat.me.0 × (to ≡ min (from + 8) (last (card b)))) × IsIdleSeat b seat
    ended_done = let t = all_done b k from to old mid new took.0 took.1 worked in turn_ended b k from to old mid new took.0 took.1 idle own view t.0 t.1 t.2

  -- one that stopped short
  module _ (worked : HasStrip mid.me k (λ before. HasStrip new.me k (λ after. Worked b.plan before after (Err (from, to))))) where
    pub lies_stopped : (strip : StripOf) × IsInSeat b k from to new strip
    lies_stopped = let t = part_done b k from to old mid new took.0 took.1 worked in (t.0, lies_further b k from to old mid new took.0 took.1 idle own view t.0 t.1)

    pub ended_stopped : (seat : Seat (Option StripOf) View) → IsBack b k from to new seat
        → (Tripped (card b) k from to old.me.0 seat.me.0 × (to < min (from + 8) (last (card b)))) × IsIdleSeat b seat
    ended_stopped = let t = part_done b k from to old mid new took.0 took.1 worked in turn_ended b k from to old mid new took.0 took.1 idle own view t.0 t.1 t.2
