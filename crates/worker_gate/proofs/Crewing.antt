-- What the asker, the workers and the finisher did, put together.
use Rattle.std.proofs.Common.{◌≡◌, ℕ, ◌+◌, ◌<◌, ◌≤◌, List, [], ◌++◌, length, Bool, false, arith, refl, sym, ap, ◌∙◌, subst, Result, Ok, Err}
use Rattle.std.specs.Global.{Vec}
use Rattle.std.proofs.lemmas.List.{append-nil, append_assoc}
use Rattle.std.proofs.lemmas.Bool.Decides.{nat_tests}
use Rattle.vf_io.specs.declared.answers.NoMemory.{NoMemory}
use Rattle.ray_grid.specs.Strips.{strips_of}
use Rattle.edit_plan.specs.declared.query.Query.{Query}
use Rattle.job_counts.specs.declared.totals.Answer.{Answer}
use Rattle.strip_turns.specs.declared.view.BoardStart.{BoardStart}
use Rattle.strip_turns.specs.declared.view.View.{View}
use Rattle.strip_turns.specs.declared.view.Met.{Met}
use Rattle.strip_turns.specs.declared.view.LogEntry.{LogEntry}
use Rattle.strip_turns.specs.Log.{tally, drew}
use Rattle.strip_turns.specs.Cards.{last}
use Rattle.strip_turns.specs.Views.{with_log}
use Rattle.strip_turns.specs.Sound.{once_below}
use Rattle.strip_turns.specs.Plays.{IsAlone}
use Rattle.strip_turns.specs.Asks.{Finished, SomeRaised}
use Rattle.strip_turns.proofs.Logs.{tally_both}
use Rattle.worker_gate.specs.Asking.{AskedAll, AsksAll, Logged}
use Rattle.worker_gate.specs.Crew.{Answered, Crews, Merged, Stopped, with_crew, with_merged, with_splits}
use Rattle.worker_gate.proofs.Answering.{asks_logged}
use Rattle.worker_gate.proofs.Draws.{asking_no_draw, rise_no_draw}

crew_merged : (v : View) (n : ℕ) (es fs : List LogEntry) (ms ns : List Met) (out : List ℕ) → out ≡ [] → v.out ≡ []
    → with_merged out fs ns (with_log es ms (with_splits n v)) ≡ with_crew n (es ++ fs) (ms ++ ns) v
crew_merged v n es fs ms ns out gone alone =
    let e : out ≡ v.out = gone ∙ sym alone in
    λ i. record v { splits = v.splits + n; out = e i; met = append_assoc v.met ms ns i; log = append_assoc v.log es fs i }

crew_logged : (v : View) (n : ℕ) (es fs : List LogEntry) (ms ns : List Met)
    → with_log fs ns (with_crew n es ms v) ≡ with_crew n (es ++ fs) (ms ++ ns) v
crew_logged v n es fs ms ns =
    λ i. record v { splits = v.splits + n; met = append_assoc v.met ms ns i; log = append_assoc v.log es fs i }

after_merge : (n : ℕ) (es fs : List LogEntry) (ms ns : List Met) (v a u w : View) → a ≡ with_splits n v → u ≡ with_log es ms a
    → w ≡ with_merged w.out fs ns u → w.out ≡ [] → v.out ≡ [] → w ≡ with_crew n (es ++ fs) (ms ++ ns) v
after_merge n es fs ms ns v a u w split log merge gone alone =
    merge ∙ ap (with_merged w.out fs ns) (log ∙ ap (with_log es ms) split) ∙ crew_merged v n es fs ms ns w.out gone alone

-- nobody was hired
pub stopped_none : (n : ℕ) (v w : View) → w ≡ v → Stopped n v w
stopped_none n v w same = record {
  splits = 0;
  few = omega arith;
  log = [];
  met = [];
  view = same ∙ (let e : v.splits ≡ v.splits + 0 = omega arith in
      λ i. record v { splits = e i; met = sym (append-nil v.met) i; log = sym (append-nil v.log) i });
}

-- n workers were hired and merged, and meanwhile something was asked
pub stopped : (c : BoardStart) (n : ℕ) (short : Bool) (v a u w : View) → a ≡ with_splits n v → Logged a u → Merged c n short u w → w.out ≡ []
    → v.out ≡ [] → Stopped n v w
stopped c n short v a u w split log merge gone alone = record {
  splits = n;
  few = omega arith;
  log = log.log ++ merge.log;
  met = log.met ++ merge.met;
  view = after_merge n log.log merge.log log.met merge.met v a u w split log.view merge.view gone alone;
}

-- the same, however the asking ended
pub stopped_by : (c : BoardStart) (qs : List Query) (r : Result (Vec Answer) NoMemory) (n m : ℕ) (short : Bool) (v a u w : View)
    → a ≡ with_splits n v → AsksAll c qs r a u → Merged c m short u w → m ≡ n → w.out ≡ [] → v.out ≡ [] → Stopped n v w
stopped_by c qs r n m short v a u w split asks merge all gone alone =
    stopped c n short v a u w split (asks_logged c qs r a u asks) (subst (λ k. Merged c k short u w) all merge) gone alone

-- the finishing found no memory
pub stopped_late : (c : BoardStart) (n version first count : ℕ) (v w x : View) → Stopped n v w → SomeRaised c version first count w x
    → Stopped n v x
stopped_late c n version first count v w x h late = record {
  splits = h.splits;
  few = h.few;
  log = h.log ++ late.log;
  met = h.met ++ late.met;
  view = late.view ∙ ap (with_log late.log late.met) h.view ∙ crew_logged v h.splits h.log late.log h.met late.met;
}

below_all : (n x t : ℕ) → 0 < once_below n t → x ≤ t → once_below n x ≡ 1
below_all n x t lt le = grind (arith, nat_tests)

-- a ticket that was drawn was in the log before, or a worker drew it
drawn_by : (t n : ℕ) (old es fs gs : List LogEntry) → tally (drew t) (old ++ (es ++ fs ++ gs)) ≡ once_below n t
    → tally (drew t) es ≡ 0 → tally (drew t) gs ≡ 0 → tally (drew t) old + tally (drew t) fs ≡ once_below n t
drawn_by t n old es fs gs all asked ended =
    let a = tally_both (drew t) old (es ++ fs ++ gs) in
    let b = tally_both (drew t) (es ++ fs) gs in
    let d = tally_both (drew t) es fs in omega arith

pub crewed : (c : BoardStart) (qs : List Query) (xs : List Answer) (n : ℕ) (v a u w x : View) → 0 < n → IsAlone v → a ≡ with_splits n v
    → AskedAll c qs xs a u → Merged c n false u w → w.out ≡ [] → Finished c w x → Answered c qs n xs v x
crewed c qs xs n v a u w x any is split asked merge gone finish =
    let mid = after_merge n asked.log merge.log asked.met merge.met v a u w split asked.view merge.view gone is.out in
    let drawn = finish.drawn (record { first = ap (λ (z : View). z.first) mid ∙ is.first; out = ap (λ (z : View). z.out) mid ∙ is.out }) in
    let view = finish.view ∙ ap (with_log finish.log finish.met) mid
    ∙ crew_logged v n (asked.log ++ merge.log) finish.log (asked.met ++ merge.met) finish.met in
    let log : x.log ≡ v.log ++ (asked.log ++ merge.log ++ finish.log) = ap (λ (z : View). z.log) view in
    let past = merge.past refl any in
    let count : (t : ℕ) → tally (drew t) v.log + tally (drew t) merge.log ≡ once_below drawn.0 t =
    λ t. drawn_by t drawn.0 v.log asked.log merge.log finish.log
    (sym (ap (tally (drew t)) log) ∙ drawn.1 t)
    (asking_no_draw c t qs asked.log asked.asking)
    (rise_no_draw c (last c) 0 (length (strips_of c.plan.grid)) t finish.log finish.rise) in
    record {
      answer = asked.answer;
      crew = record {
        asked = asked.log;
        worked = merge.log;
        ended = finish.log;
        met = asked.met ++ merge.met ++ finish.met;
        view = view;
        asking = asked.asking;
        work = merge.work refl;
        all = λ t lt before.
            let here = count past.0 in
            let there = count t in
            let q = past.2 in
            let r = past.1 in
            let one = below_all drawn.0 t past.0 (omega arith) (omega arith) in omega arith;
        ending = finish.rise;
        seen = finish.seen;
        drawn = drawn;
      };
    }

-- the same, with what says that the answers were given and that no worker stopped
pub crewed_by : (c : BoardStart) (qs : List Query) (r : Result (Vec Answer) NoMemory) (xs : Vec Answer) (n m : ℕ) (short : Bool) (v a u w x : View)
    → 0 < n → IsAlone v → a ≡ with_splits n v → AsksAll c qs r a u → r ≡ Ok xs → Merged c m short u w → m ≡ n → short ≡ false
    → w.out ≡ [] → Finished c w x → Answered c qs n xs.items v x
crewed_by c qs r xs n m short v a u w x any is split asks ok merge all long gone finish =
    crewed c qs xs.items n v a u w x any is split
    (subst (λ z. AsksAll c qs z a u) ok asks)
    (subst (λ s. Merged c n s u w) long (subst (λ k. Merged c k short u w) all merge))
    gone finish

-- however a crew ends, no other pass is out
pub crews_alone : (c : BoardStart) (qs : List Query) (n : ℕ) (r : Result (Vec Answer) NoMemory) (v w : View) → Crews c qs n r v w → IsAlone v
    → IsAlone w
crews_alone c qs n (Ok xs) v w h is = record {
  first = ap (λ (z : View). z.first) h.crew.view ∙ is.first;
  out = ap (λ (z : View). z.out) h.crew.view ∙ is.out;
}
crews_alone c qs n (Err e) v w h is = record {
  first = ap (λ (z : View). z.first) h.view ∙ is.first;
  out = ap (λ (z : View). z.out) h.view ∙ is.out;
}
