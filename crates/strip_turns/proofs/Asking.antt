-- Strips are raised one after another.
use Rattle.std.proofs.Common.{◌≡◌, ℕ, zero, suc, ◌+◌, ◌<◌, ◌≤◌, ◌≢◌, List, [], ◌∷◌, ◌++◌, length, max, Bool, cond, arith, refl, sym, ap, ◌∙◌, subst, ⊎_elim, ne_eqb}
use Rattle.std.proofs.Math.ListN.{length-append}
use Rattle.std.proofs.lemmas.List.{append-nil, append_assoc}
use mathlib.Core.Option.{some, some-ne-none, some-injective}
use mathlib.Core.Logic.{dite}
use native.Mathlib.Decide.{ℕ_discrete}
use lib.ListN.{get_elem?}
use Rattle.atomic_table.proofs.Lists.{at_longer, at_last, at_snoc}
use Rattle.ray_grid.specs.Strips.{strips_of}
use Rattle.strip_turns.specs.declared.view.View.{View}
use Rattle.strip_turns.specs.declared.view.BoardStart.{BoardStart}
use Rattle.strip_turns.specs.declared.view.Met.{Met}
use Rattle.strip_turns.specs.declared.view.LogEntry.{LogEntry}
use Rattle.strip_turns.specs.declared.view.LogEntry.TheVariants.{Trip}
use Rattle.strip_turns.specs.Log.{logged_version}
use Rattle.strip_turns.specs.Cards.{start_version, last}
use Rattle.strip_turns.specs.Views.{with_log}
use Rattle.strip_turns.specs.Plays.{IsAlone}
use Rattle.strip_turns.specs.Closed.{AllDrawn}
use Rattle.strip_turns.specs.Asks.{Raised, Short, IsRise, IsPartRise, SomeRaised, AllRaised, Finished}
use Rattle.strip_turns.proofs.Logs.{seen_both}

pub no_log : (v : View) → v ≡ with_log [] [] v
no_log v = λ i. record v { met = sym (append-nil v.met) i; log = sym (append-nil v.log) i }

pub log_both : (v : View) (es fs : List LogEntry) (ms ns : List Met) → with_log fs ns (with_log es ms v) ≡ with_log (es ++ fs) (ms ++ ns) v
log_both v es fs ms ns = λ i. record v { met = append_assoc v.met ms ns i; log = append_assoc v.log es fs i }

seen_else : (k j v from to : ℕ) (xs : List LogEntry) → j ≢ k → logged_version k v (xs ++ Trip j from to ∷ []) ≡ logged_version k v xs
seen_else k j v from to xs ne =
    seen_both k v xs (Trip j from to ∷ [])
    ∙ ap (λ (b : Bool). cond {A = ℕ} b (max (logged_version k v xs) to) (logged_version k v xs)) (ne_eqb j k ne)

rise_more : (c : BoardStart) (version first n from : ℕ) (es : List LogEntry) → IsRise c version first n es → from ≤ last c
    → IsRise c version first (n + 1) (es ++ Trip (first + n) from (max from version) ∷ [])
rise_more c version first n from es h le =
    let e = Trip (first + n) from (max from version) in record {
      many = length-append es (e ∷ []) ∙ (let l = h.many in omega arith);
      each = λ i lt. dite (ℕ_discrete i n)
          (λ same.
          let at = ap (get_elem? (es ++ e ∷ [])) same ∙ at_last es e n h.many in
          (from, le, at ∙ ap (λ k. some (Trip (first + k) from (max from version))) (sym same)))
          (λ ne. let old = h.each i (omega arith) in (old.0, old.1, at_longer es (e ∷ []) i _ old.2));
    }

pub all_raised_none : (c : BoardStart) (version : ℕ) (v : View) → AllRaised c version 0 v v
all_raised_none c version v = record {
  log = [];
  met = [];
  view = no_log v;
  rise = record { many = refl; each = λ i lt. absurd (omega arith) };
  reached = λ k lt. absurd (omega arith);
  within = λ k lt. absurd (omega arith);
}

pub all_raised_more : (c : BoardStart) (version n : ℕ) (v u w : View) → AllRaised c version n v u → Raised c n version u w
    → AllRaised c version (n + 1) v w
all_raised_more c version n v u w h one =
    let t = one.trip in
    let to = max one.at version in
    let es : List LogEntry = Trip n one.at to ∷ [] in
    let ms : List Met = record { strip = n; misses = t.met } ∷ [] in
    let further = t.further in
    let within = t.within in
    let log : w.log ≡ u.log ++ Trip n one.at to ∷ [] = ap (λ z. z.log) t.view in
    let other : (k : ℕ) → n ≢ k → logged_version k (start_version c k) w.log ≡ logged_version k (start_version c k) u.log =
    λ k ne. ap (logged_version k (start_version c k)) log ∙ seen_else k n (start_version c k) one.at to u.log ne in
    record {
      log = h.log ++ Trip n one.at to ∷ [];
      met = h.met ++ record { strip = n; misses = t.met } ∷ [];
      view = t.view ∙ ap (with_log es ms) h.view ∙ log_both v h.log es h.met ms;
      rise =
          let rise = rise_more c version 0 n one.at h.log h.rise (omega arith) in
          subst (λ k. IsRise c version 0 (n + 1) (h.log ++ Trip k one.at to ∷ [])) (omega arith) rise;
      reached = λ k lt. dite (ℕ_discrete n k)
          (λ same. subst (λ z. version ≤ logged_version z (start_version c z) w.log) same (let s = t.seen in omega arith))
          (λ ne. let o = other k ne in let r = h.reached k (omega arith) in omega arith);
      within = λ k lt. dite (ℕ_discrete n k)
          (λ same. subst (λ z. logged_version z (start_version c z) w.log ≤ last c) same (let s = t.seen in omega arith))
          (λ ne. let o = other k ne in let r = h.within k (omega arith) in omega arith);
    }

pub below_len : (es : List LogEntry) (i n : ℕ) (e : LogEntry) → get_elem? es i ≡ some e → length es ≡ n → i < n
below_len [] i n e at len = absurd (some-ne-none e (sym at))
below_len (x ∷ es) zero n e at len = omega arith
below_len (x ∷ es) (suc i) n e at len = let r = below_len es i (length es) e at refl in omega arith

rise_part : (c : BoardStart) (version first n count : ℕ) (es : List LogEntry) → IsRise c version first n es → n ≤ count
    → IsPartRise version first count es
rise_part c version first n count es h le = record {
  each = λ i e at.
      let lt : i < n = below_len es i n e at h.many in
      let r = h.each i lt in
      let same = some-injective e _ (sym at ∙ r.2) in
      (first + i, r.0, max r.0 version, same, omega arith, omega arith, omega arith, omega arith);
}

part_more : (version first count k from to : ℕ) (es : List LogEntry) → IsPartRise version first count es → first ≤ k
    → k < first + count → from ≤ to → to ≤ max from version → IsPartRise version first count (es ++ Trip k from to ∷ [])
part_more version first count k from to es h a b d e = record {
  each = λ i x at.
      ⊎_elim (λ old. h.each i x old) (λ new. (k, from, to, sym new, a, b, d, e)) (at_snoc es (Trip k from to) x i at);
}

pub some_raised : (c : BoardStart) (version n count : ℕ) (v u w : View) → AllRaised c version n v u → Short c n version u w → n < count
    → SomeRaised c version 0 count v w
some_raised c version n count v u w h short lt =
    let t = short.trip in
    let es : List LogEntry = Trip n short.at short.to ∷ [] in
    let ms : List Met = record { strip = n; misses = t.met } ∷ [] in
    let part = rise_part c version 0 n count h.log h.rise (omega arith) in record {
      log = h.log ++ Trip n short.at short.to ∷ [];
      met = h.met ++ record { strip = n; misses = t.met } ∷ [];
      view = t.view ∙ ap (with_log es ms) h.view ∙ log_both v h.log es h.met ms;
      rise = part_more version 0 count n short.at short.to h.log part (omega arith) (omega arith) t.further short.most;
    }

-- a single strip
rise_one : (c : BoardStart) (version k from : ℕ) → from ≤ last c → IsRise c version k 1 (Trip k from (max from version) ∷ [])
rise_one c version k from le =
    let rise = rise_more c version k 0 from [] (record { many = refl; each = λ i lt. absurd (omega arith) }) le in
    subst (λ n. IsRise c version k 1 (Trip n from (max from version) ∷ [])) (omega arith) rise

pub one_raised : (c : BoardStart) (k version : ℕ) (v w : View) (h : Raised c k version v w)
    → IsRise c version k 1 (Trip k h.at (max h.at version) ∷ [])
one_raised c k version v w h = rise_one c version k h.at (let a = h.trip.further in let b = h.trip.within in omega arith)

pub one_short : (c : BoardStart) (k version : ℕ) (v w : View) → Short c k version v w → SomeRaised c version k 1 v w
one_short c k version v w h =
    let t = h.trip in
    let none : IsPartRise version k 1 [] = record { each = λ i e at. absurd (some-ne-none e (sym at)) } in record {
      log = Trip k h.at h.to ∷ [];
      met = record { strip = k; misses = t.met } ∷ [];
      view = t.view;
      rise = part_more version k 1 k h.at h.to [] none (omega arith) (omega arith) t.further h.most;
    }

-- all strips were raised to the last version, and the pass looked
pub finished : (c : BoardStart) (v u w : View) → AllRaised c (last c) (length (strips_of c.plan.grid)) v u → w ≡ u
    → (IsAlone u → AllDrawn u) → Finished c v w
finished c v u w h same looked = record {
  log = h.log;
  met = h.met;
  view = same ∙ h.view;
  rise = h.rise;
  seen = λ k lt. ap (λ (z : View). logged_version k (start_version c k) z.log) same
      ∙ (let a = h.reached k lt in let b = h.within k lt in omega arith);
  drawn = λ is. subst AllDrawn (sym same)
      (looked (record { first = ap (λ (z : View). z.first) h.view ∙ is.first; out = ap (λ (z : View). z.out) h.view ∙ is.out }));
}
