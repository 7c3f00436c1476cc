-- A worker's log stays work.
use Rattle.std.proofs.Common.{◌≡◌, ℕ, ◌+◌, ◌<◌, ◌≤◌, ◌%◌, List, [], ◌∷◌, ◌++◌, length, true, false, Bool, arith, refl, sym, ap, ◌∙◌, subst}
use Rattle.std.proofs.lemmas.List.{append_assoc}
use Rattle.ray_grid.specs.Strips.{strips_of}
use Rattle.strip_turns.specs.declared.board.Board.{Board}
use Rattle.strip_turns.specs.declared.board.Pass.{Pass}
use Rattle.strip_turns.specs.declared.view.BoardStart.{BoardStart}
use Rattle.strip_turns.specs.declared.view.View.{View}
use Rattle.strip_turns.specs.declared.view.LogEntry.{LogEntry}
use Rattle.strip_turns.specs.declared.view.LogEntry.TheVariants.{Draw, Miss, Trip}
use Rattle.strip_turns.specs.declared.turn.Turned.{Turned}
use Rattle.strip_turns.specs.declared.turn.Turned.TheVariants.{Moved, Busy, NoMemory}
use Rattle.strip_turns.specs.Log.{tally, drew}
use Rattle.strip_turns.specs.Views.{with_draw}
use Rattle.strip_turns.specs.Passes.{card, IsPass}
use Rattle.strip_turns.specs.Turns.{Turns}
use Rattle.strip_turns.proofs.Logs.{tally_more, draw_here}
use Rattle.worker_gate.specs.declared.worker.Worker.{Worker}
use Rattle.worker_gate.specs.Work.{turns_due, IsTicketTurn, IsWork, nothing, past, turn, both, is_short}
use Rattle.worker_gate.specs.Workers.{IsFresh, IsAllWork, IsDone, IsWorking, OneTurn}

turned_once : (c : BoardStart) (es : List LogEntry) (t : ℕ) (e : LogEntry) → IsWork c es → t < turns_due c
    → IsTicketTurn c (t % length (strips_of c.plan.grid)) e → IsWork c (es ++ Draw t ∷ e ∷ [])
turned_once c es t e w lt is = both es (Draw t ∷ e ∷ []) w (turn t e [] lt is nothing)

went_past : (c : BoardStart) (es : List LogEntry) (t : ℕ) → IsWork c es → turns_due c ≤ t → IsAllWork c (es ++ Draw t ∷ [])
went_past c es t w le = record {
  work = both es (Draw t ∷ []) w (past t [] le nothing);
  past = (t, le, (let a = tally_more (drew t) es (Draw t) in let b = draw_here t in omega arith));
}

-- the first draw
pub working_first : (b : Board) (t : ℕ) (w : Worker) (p : Pass) → IsFresh b w → IsPass b p → p.seat.me.0 ≡ with_draw t w.pass.seat.me.0
    → IsWorking b w.pass.seat.me.0.number t (record { pass = p; short = w.short })
working_first b t w p h pass drew =
    let drawn : p.seat.me.0.drawn ≡ w.pass.seat.me.0.drawn + 1 = ap (λ z. z.drawn) drew in
    let missed : p.seat.me.0.missed ≡ w.pass.seat.me.0.missed = ap (λ z. z.missed) drew in
    let none_drawn : w.pass.seat.me.0.drawn ≡ 0 = ap (λ z. z.drawn) h.view in
    let none_missed : w.pass.seat.me.0.missed ≡ 0 = ap (λ z. z.missed) h.view in
    record {
      pass = pass;
      number = ap (λ z. z.number) drew;
      short = h.short;
      before = [];
      work = nothing;
      log = ap (λ z. z.log) drew ∙ ap (λ z. z.log ++ Draw t ∷ []) h.view;
      drawn = omega arith;
      missed = omega arith;
    }

true_false : true ≡ false → ⊥
true_false e = cc

one_turn : (c : BoardStart) (k : ℕ) (t : Turned) (v w : View) → Turns c k t v w → is_short t ≡ false → OneTurn c k v w
one_turn c k (Moved from to) v w h e = record {
  entry = Trip k from to;
  is = (refl, h.1);
  log = ap (λ z. z.log) h.0.view;
  number = ap (λ z. z.number) h.0.view;
  drawn = ap (λ z. z.drawn) h.0.view;
  missed = (let m : w.missed ≡ v.missed = ap (λ z. z.missed) h.0.view in omega arith);
}
one_turn c k Busy v w h e = record {
  entry = Miss k;
  is = refl;
  log = ap (λ z. z.log) h.0;
  number = ap (λ z. z.number) h.0;
  drawn = ap (λ z. z.drawn) h.0;
  missed = (let m : w.missed ≡ v.missed + 1 = ap (λ z. z.missed) h.0 in omega arith);
}
one_turn c k (NoMemory from to) v w h e = absurd (true_false e)

-- a turn that found memory, by what says so
pub turned : (b : Board) (k : ℕ) (short : Bool) (t : Turned) (v w : View) → Turns (card b) k t v w → short ≡ is_short t → short ≡ false
    → OneTurn (card b) k v w
turned b k short t v w told is long = one_turn (card b) k t v w told (sym is ∙ long)

-- a turn leaves the pass its number
pub turn_number : (c : BoardStart) (k : ℕ) (t : Turned) (v w : View) → Turns c k t v w → w.number ≡ v.number
turn_number c k (Moved from to) v w h = ap (λ z. z.number) h.0.view
turn_number c k Busy v w h = ap (λ z. z.number) h.0
turn_number c k (NoMemory from to) v w h = ap (λ z. z.number) h.0.view

-- a ticket that is drawn after a turn is above the one before
pub drawn_above : (b : Board) (n t k next : ℕ) (w : Worker) (v : View) → IsWorking b n t w → OneTurn (card b) k w.pass.seat.me.0 v
    → ((x : ℕ) → 0 < tally (drew x) v.log → x < next) → t < next
drawn_above b n t k next w v h one above =
    let log : v.log ≡ (h.before ++ Draw t ∷ []) ++ one.entry ∷ [] = one.log ∙ ap (λ l. l ++ one.entry ∷ []) h.log in
    let here : 0 < tally (drew t) ((h.before ++ Draw t ∷ []) ++ one.entry ∷ []) =
    (let a = tally_more (drew t) (h.before ++ Draw t ∷ []) one.entry in
    let d = tally_more (drew t) h.before (Draw t) in
    let e = draw_here t in omega arith) in
    above t (subst (λ (l : List LogEntry). 0 < tally (drew t) l) (sym log) here)

-- a turn, and the next draw
pub working_more : (b : Board) (n t next : ℕ) (w : Worker) (v : View) (p : Pass) → IsWorking b n t w → t < turns_due (card b)
    → OneTurn (card b) (t % length (strips_of (card b).plan.grid)) w.pass.seat.me.0 v → t < next → IsPass b p → p.seat.me.0 ≡ with_draw next v
    → IsWorking b n next (record { pass = p; short = w.short })
working_more b n t next w v p h lt one above pass drew =
    let drawn : p.seat.me.0.drawn ≡ v.drawn + 1 = ap (λ z. z.drawn) drew in
    let missed : p.seat.me.0.missed ≡ v.missed = ap (λ z. z.missed) drew in
    let a = h.drawn in
    let d = h.missed in
    let e = one.drawn in
    let f = one.missed in
    record {
      pass = pass;
      number = ap (λ z. z.number) drew ∙ one.number ∙ h.number;
      short = h.short;
      before = h.before ++ Draw t ∷ one.entry ∷ [];
      work = turned_once (card b) h.before t one.entry h.work lt one.is;
      log = ap (λ z. z.log) drew
          ∙ ap (λ l. l ++ Draw next ∷ []) (one.log ∙ ap (λ l. l ++ one.entry ∷ []) h.log ∙ append_assoc h.before (Draw t ∷ []) (one.entry ∷ []));
      drawn = omega arith;
      missed = omega arith;
    }

-- a ticket past the turns ends the work
pub done_past : (b : Board) (n t : ℕ) (w : Worker) → IsWorking b n t w → turns_due (card b) ≤ t → IsDone b w
done_past b n t w h le = record {
  pass = h.pass;
  all = λ s. subst (IsAllWork (card b)) (sym h.log) (went_past (card b) h.before t h.work le);
}
