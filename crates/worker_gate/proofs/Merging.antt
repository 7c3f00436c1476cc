-- Workers are merged one after another.
use Rattle.std.proofs.Common.{◌≡◌, ℕ, ◌+◌, List, [], ◌++◌, Bool, false, arith, sym, ap, ◌∙◌}
use Rattle.std.proofs.lemmas.List.{append-nil, append_assoc}
use Rattle.strip_turns.specs.declared.board.Board.{Board}
use Rattle.strip_turns.specs.declared.view.BoardStart.{BoardStart}
use Rattle.strip_turns.specs.declared.view.View.{View}
use Rattle.strip_turns.specs.declared.view.Met.{Met}
use Rattle.strip_turns.specs.declared.view.LogEntry.{LogEntry}
use Rattle.strip_turns.specs.Log.{drew}
use Rattle.strip_turns.specs.Views.{with_pass, without}
use Rattle.strip_turns.specs.Passes.{card}
use Rattle.strip_turns.proofs.Logs.{tally_both}
use Rattle.worker_gate.specs.declared.worker.Worker.{Worker}
use Rattle.worker_gate.specs.Work.{nothing, both}
use Rattle.worker_gate.specs.Workers.{IsDone}
use Rattle.worker_gate.specs.Crew.{Merged, with_merged}

pub merged_none : (c : BoardStart) (v : View) → Merged c 0 false v v
merged_none c v = record {
  log = [];
  met = [];
  view = λ i. record v { met = sym (append-nil v.met) i; log = sym (append-nil v.log) i };
  work = λ s. nothing;
  past = λ s lt. absurd (omega arith);
}

merged_both : (v : View) (out : List ℕ) (es : List LogEntry) (ms : List Met) (w : View)
    → with_pass (with_merged out es ms v) w ≡ with_merged (without w.number out) (es ++ w.log) (ms ++ w.met) v
merged_both v out es ms w = λ i. record v {
  out = without w.number out;
  met = append_assoc v.met ms w.met i;
  log = append_assoc v.log es w.log i;
}

pub merged_more : (b : Board) (n : ℕ) (short next : Bool) (v u w : View) (x : Worker) → Merged (card b) n short v u → IsDone b x
    → w ≡ with_pass u x.pass.seat.me.0 → (next ≡ false → (short ≡ false) × (x.short ≡ false)) → Merged (card b) (n + 1) next v w
merged_more b n short next v u w x h done joined none =
    let es = h.log ++ x.pass.seat.me.0.log in
    let ms = h.met ++ x.pass.seat.me.0.met in
    record {
      log = es;
      met = ms;
      view = joined ∙ ap (λ z. with_pass z x.pass.seat.me.0) h.view
          ∙ merged_both v u.out h.log h.met x.pass.seat.me.0
          ∙ ap (λ o. with_merged o es ms v) (sym (ap (λ (z : View). z.out) joined));
      work = λ s. let t = none s in both h.log x.pass.seat.me.0.log (h.work t.0) (done.all t.1).work;
      past = λ s lt.
          let t = none s in
          let p = (done.all t.1).past in
          (p.0, p.1, (let a = tally_both (drew p.0) h.log x.pass.seat.me.0.log in let q = p.2 in omega arith));
    }
