-- A step that takes a strip, or counts a miss, keeps the rule.
use Rattle.std.proofs.Common.{◌≡◌, ℕ, zero, suc, ◌+◌, ◌*◌, ◌%◌, ◌^◌, ◌<◌, ◌≤◌, ◌≢◌, inr, ⊎_elim, List, [], ◌∷◌, length, set, cond, eqb, Bool, true, false, MatchBool, Option, Some, None, arith, refl, sym, ap, ◌∙◌, subst, get_or-set_same, get_or-set_other, eq-eqb, ne_eqb}
use Rattle.std.proofs.Math.ListN.{length-set}
use mathlib.Core.Option.{some, none}
use mathlib.Core.Logic.{dite}
use lib.ListN.{get_elem?, get_or}
use native.Mathlib.Nat.{mod-eq_of_lt}
use native.Mathlib.Decide.{ℕ_discrete}
use prog.Atomic.{either}
use Rattle.atomic_table.specs.Table.{State, Me, step, Act, keeps, takes, stepped, Allows, Valid, carried_after}
use Rattle.atomic_table.proofs.Lists.{set_here, set_else, set_again}
use Rattle.edit_plan.specs.Limits.{most_edits}
use Rattle.strip_journal.specs.Strips.{StripOf}
use Rattle.strip_turns.specs.declared.view.View.{View}
use Rattle.strip_turns.specs.declared.view.BoardStart.{BoardStart}
use Rattle.strip_turns.specs.declared.view.HeldStrip.{HeldStrip}
use Rattle.strip_turns.specs.declared.view.LogEntry.TheVariants.{Miss}
use Rattle.strip_turns.specs.Log.{tally, drew, missed, missed_at, did, strayed, met_at}
use Rattle.strip_turns.specs.Cards.{start_version, last}
use Rattle.strip_turns.specs.Views.{with_miss, with_strip}
use Rattle.strip_turns.specs.Sound.{held_in, taken_at, IsHome, IsStripOut, Place, IsSound, strip_word}
use Rattle.strip_turns.specs.Plays.{Took, Missed, TakesOrMisses, TakesOrNot}
use Rattle.strip_turns.proofs.Totals.{total_set, total_at, total_le}
use Rattle.strip_turns.proofs.Logs.{tally_more, missed_le, seen_within, miss_here, miss_else}
use Rattle.strip_turns.proofs.Rosters.{some_is, named, alone}
use Rattle.strip_turns.proofs.Places.{place_set, sound_set}
use Rattle.strip_turns.proofs.Drawing.{missed_few}

pub by_true : (X Y : Type 0) (b : Bool) → b ≡ true → X → MatchBool b X Y
by_true X Y true e x = x
by_true X Y false e x = cc

pub by_false : (X Y : Type 0) (b : Bool) → b ≡ false → Y → MatchBool b X Y
by_false X Y true e y = cc
by_false X Y false e y = y

pub at_true : (X Y : Type 0) (b : Bool) → b ≡ true → MatchBool b X Y → X
at_true X Y true e x = x
at_true X Y false e x = cc

pub at_false : (X Y : Type 0) (b : Bool) → b ≡ false → MatchBool b X Y → Y
at_false X Y true e x = cc
at_false X Y false e x = x

pub held_here : (k at : ℕ) → held_in k (Some (record { strip = k; at = at })) ≡ 1
held_here k at = ap (λ (b : Bool). cond {A = ℕ} b 1 0) (eq-eqb k k refl)

pub taken_here : (k at : ℕ) → taken_at k (Some (record { strip = k; at = at })) ≡ at
taken_here k at = ap (λ (b : Bool). cond {A = ℕ} b at 0) (eq-eqb k k refl)

pub held_else : (k j at : ℕ) → j ≢ k → held_in k (Some (record { strip = j; at = at })) ≡ 0
held_else k j at ne = ap (λ (b : Bool). cond {A = ℕ} b 1 0) (ne_eqb j k ne)

pub taken_else : (k j at : ℕ) → j ≢ k → taken_at k (Some (record { strip = j; at = at })) ≡ 0
taken_else k j at ne = ap (λ (b : Bool). cond {A = ℕ} b at 0) (ne_eqb j k ne)

taken_not : (b : Bool) (at : ℕ) → cond {A = ℕ} b 1 0 ≡ 0 → cond {A = ℕ} b at 0 ≡ 0
taken_not true at e = absurd (omega arith)
taken_not false at e = refl

pub taken_none : (k : ℕ) (h : Option HeldStrip) → held_in k h ≡ 0 → taken_at k h ≡ 0
taken_none k None e = refl
taken_none k (Some h) e = taken_not (eqb h.strip k) h.at e

-- what is said of the rule's card and strip is said of those that are named
told_as : (P : BoardStart → ℕ → Type 0) (card : BoardStart) (k : ℕ) (v : View) → v.card ≡ Some card → P card k → (c : BoardStart) (j : ℕ) → v.card ≡ Some c → strip_word k ≡ strip_word j → P c j
told_as P card k v has p c j named same = let e : k ≡ j = omega arith in subst (P c) e (subst (λ z. P z k) (some_is card c (sym has ∙ named)) p)

pub there : (l : List ℕ) (i : ℕ) → i < length l → get_elem? l i ≡ some (get_or l i 0)
there [] i lt = absurd (omega arith)
there (x ∷ xs) zero lt = refl
there (x ∷ xs) (suc i) lt = there xs i (omega arith)

module _ (card : BoardStart) (slots id k : ℕ) (me : Me (Option StripOf) View) (c : BoardStart) (has : me.0.card ≡ Some c) (idle : me.0.held ≡ None)
    (few_edits : last card ≤ most_edits) where
  abbrev After : State (Option StripOf) View → ℕ → (ℕ → Me (Option StripOf) View → Type 0) → Type 0
  After s new then = (w : View) × (a : Act (Option StripOf)) × Valid s.homes me.1 a × IsSound card (stepped s (strip_word k) new id me.1 w a) × then (get_or s.words (strip_word k) 0) (w, carried_after me.1 a)

  took : (s : State (Option StripOf) View) → IsSound card s → k < length s.homes → get_elem? s.views id ≡ some me.0 → (j : StripOf) → IsHome card s k j → (new : ℕ) → new ≡ get_or s.words (strip_word k) 0 + 1
      → IsSound card (stepped s (strip_word k) new id me.1 (with_strip k j.done me.0) (takes k (Some j)))
  took s h lt at j home new is =
      let v = me.0 in
      let w = with_strip k j.done v in
      let l = home.logged in
      let ws = set s.words (strip_word k) new in
      let hs = set s.homes k none in
      let t : State (Option StripOf) View = record { words = ws; homes = hs; views = set s.views id w } in
      sound_set card s k new hs id v w h (length-set s.homes k none) at (named card s.views id v c h.roster at has) (record { card = refl; first = refl; number = refl; splits = refl; out = refl }) (let few = h.roster.few id v at in record { drawn = few.drawn; missed = few.missed })
      (record { drawn = refl; draws = λ x. refl; misses = omega arith })
      (λ i li. dite (ℕ_discrete i k)
      (λ e. subst (Place card t) (sym e) (inr (
        j.done,
        0,
        record {
          gone = set_here s.homes k none lt;
          word = get_or-set_same s.words (strip_word k) new 0 (let q = h.words in omega arith) ∙ is ∙ (let q = home.word in omega arith);
          logged = record {
            started = l.started;
            within = l.within;
            did = λ x. let q = total_set (λ u. tally (did k x) u.log) s.views id v w at in let d = l.did x in omega arith;
            strayed = (let q = total_set (λ u. tally (strayed k (start_version card k) j.done) u.log) s.views id v w at in let d = l.strayed in omega arith);
            held = (let q = total_set (λ u. held_in k u.held) s.views id v w at in let d = l.held in let a : held_in k v.held ≡ 0 = ap (held_in k) idle in let b = held_here k j.done in omega arith);
            at = (let q = total_set (λ u. taken_at k u.held) s.views id v w at in let d = l.at in let a : taken_at k v.held ≡ 0 = ap (taken_at k) idle in let b = taken_here k j.done in omega arith);
            misses = (let q = total_set (λ u. tally (missed_at k) u.log) s.views id v w at in let r = total_set (λ u. met_at k u.met) s.views id v w at in let d = l.misses in omega arith);
          };
        },
      )))
      (λ ne.
      let ne' : k ≢ i = λ e. ne (sym e) in
      place_set card s ws hs i id v w (set_else s.homes k i none ne) (get_or-set_other s.words (strip_word k) (strip_word i) new 0 (λ e. ne (omega arith))) at
      (record {
        did = λ x. refl;
        strayed = λ b. refl;
        missed = refl;
        met = refl;
        held = held_else i k j.done ne' ∙ sym (ap (held_in i) idle);
        taken = taken_else i k j.done ne' ∙ sym (ap (taken_at i) idle);
      }) (h.places i li)))

  took_told : (s : State (Option StripOf) View) → IsSound card s → get_elem? s.views id ≡ some me.0 → (j : StripOf) → IsHome card s k j
      → Took card k (get_or s.words (strip_word k) 0) me (with_strip k j.done me.0, (k, Some j) ∷ me.1) j
  took_told s h at j home = record {
    me = refl;
    of_case = home.of_case;
    seen = seen_within k (start_version card k) (start_version card k) j.done me.0.log (let q = total_at (λ u. tally (strayed k (start_version card k) j.done) u.log) s.views id me.0 at in let d = home.logged.strayed in omega arith) home.logged.started;
    word = home.word;
  }

  missed_it : (s : State (Option StripOf) View) → IsSound card s → k < length s.homes → get_elem? s.views id ≡ some me.0 → me.0.missed < 2 ^ 32 → (v m : ℕ) → IsStripOut card s k v m → (new : ℕ) → new ≡ get_or s.words (strip_word k) 0 + 1
      → IsSound card (stepped s (strip_word k) new id me.1 (with_miss k me.0) keeps)
  missed_it s h lt at few at_v m out new is =
      let v = me.0 in
      let w = with_miss k v in
      let l = out.logged in
      let ws = set s.words (strip_word k) new in
      let t : State (Option StripOf) View = record { words = ws; homes = s.homes; views = set s.views id w } in
      sound_set card s k new s.homes id v w h refl at (named card s.views id v c h.roster at has) (record { card = refl; first = refl; number = refl; splits = refl; out = refl })
      (record { drawn = (h.roster.few id v at).drawn; missed = omega arith })
      (record { drawn = refl; draws = λ x. (let e = tally_more (drew x) v.log (Miss k) in omega arith); misses = (let e = tally_more missed v.log (Miss k) in omega arith) })
      (λ i li. dite (ℕ_discrete i k)
      (λ e. subst (Place card t) (sym e) (inr (
        at_v,
        m + 1,
        record {
          gone = out.gone;
          word = get_or-set_same s.words (strip_word k) new 0 (let q = h.words in omega arith) ∙ is ∙ (let q = out.word in omega arith);
          logged = record {
            started = l.started;
            within = l.within;
            did = λ x. let q = total_set (λ u. tally (did k x) u.log) s.views id v w at in let d = l.did x in let e = tally_more (did k x) v.log (Miss k) in omega arith;
            strayed = (let q = total_set (λ u. tally (strayed k (start_version card k) at_v) u.log) s.views id v w at in let d = l.strayed in let e = tally_more (strayed k (start_version card k) at_v) v.log (Miss k) in omega arith);
            held = (let q = total_set (λ u. held_in k u.held) s.views id v w at in let d = l.held in omega arith);
            at = (let q = total_set (λ u. taken_at k u.held) s.views id v w at in let d = l.at in omega arith);
            misses =
                (let q = total_set (λ u. tally (missed_at k) u.log) s.views id v w at in
                let r = total_set (λ u. met_at k u.met) s.views id v w at in
                let d = l.misses in
                let a = miss_here k in
                let e = tally_more (missed_at k) v.log (Miss k) in omega arith);
          };
        },
      )))
      (λ ne.
      let ne' : k ≢ i = λ e. ne (sym e) in
      place_set card s ws s.homes i id v w refl (get_or-set_other s.words (strip_word k) (strip_word i) new 0 (λ e. ne (omega arith))) at
      (record {
        did = λ x. (let e = tally_more (did i x) v.log (Miss k) in omega arith);
        strayed = λ b. (let e = tally_more (strayed i (start_version card i) b) v.log (Miss k) in omega arith);
        missed = (let e = tally_more (missed_at i) v.log (Miss k) in let a = miss_else i k ne' in omega arith);
        met = refl;
        held = refl;
        taken = refl;
      }) (h.places i li)))

  missed_told : (s : State (Option StripOf) View) → IsSound card s → get_elem? s.views id ≡ some me.0 → (v m : ℕ) → IsStripOut card s k v m → Missed k me (with_miss k me.0, me.1)
  missed_told s h at v m out = record {
    me = refl;
    beside = λ is.
        let a = alone card s.views id me.0 h.roster at is.first is.out (λ u. held_in k u.held) refl in
        let b : held_in k me.0.held ≡ 0 = ap (held_in k) idle in
        let d = out.logged.held in absurd (omega arith);
  }

  -- the misses of a strip since it was taken are few
  pub few_misses : (s : State (Option StripOf) View) → IsSound card s → (v m : ℕ) → IsStripOut card s k v m → m ≤ 65 * 2 ^ 32
  few_misses s h v m out =
      let a = out.logged.misses in
      let b = total_le (λ u. tally (missed_at k) u.log) (λ u. tally missed u.log) s.views (λ u. missed_le k u.log) in
      let d = h.missed in
      let e = missed_few s.views h.roster.few in
      let f = h.roster.passes in omega arith

  -- a fetch_add
  pub takes_or_misses : k < slots → me.0.missed < 2 ^ 32 → Allows (IsSound card) slots id me (strip_word k) (λ n. (n + 1) % 18446744073709551616) (TakesOrMisses (step slots (strip_word k) 1 0 none) me)
  takes_or_misses lt few s h len at fits =
      let n = get_or s.words (strip_word k) 0 in
      let lt' : k < length s.homes = omega arith in
      let mine = named card s.views id me.0 c h.roster at has in
      ⊎_elim
      (λ p.
      let j = p.0 in
      let home = p.1 in
      let word = home.word in
      let within = home.logged.within in
      let small : j.done ≤ 100000 = (omega arith) in
      let next : (n + 1) % 18446744073709551616 ≡ n + 1 = mod-eq_of_lt (omega arith) in
      let test : eqb (n % 2 ^ 40) 0 ≡ true = eq-eqb _ 0 (omega arith) in (
        with_strip k j.done me.0,
        takes k (Some j),
        home.there,
        took s h lt' at j home _ next,
        told_as (λ c k. MatchBool (eqb (n % 2 ^ 40) 0) ((i : StripOf) × Took c k n me _ i) (Missed k me _)) card k me.0 mine (by_true _ _ _ test (j, took_told s h at j home)),
      ))
      (λ p.
      let v = p.0 in
      let m = p.1 in
      let out = p.2 in
      let word = out.word in
      let within = out.logged.within in
      let small : v ≤ 100000 = (omega arith) in
      let bound = few_misses s h v m out in
      let next : (n + 1) % 18446744073709551616 ≡ n + 1 = mod-eq_of_lt (omega arith) in
      let test : eqb (n % 2 ^ 40) 0 ≡ false = ne_eqb _ 0 (omega arith) in (
        with_miss k me.0,
        keeps,
        tt,
        missed_it s h lt' at few v m out _ next,
        told_as (λ c k. MatchBool (eqb (n % 2 ^ 40) 0) ((i : StripOf) × Took c k n me _ i) (Missed k me _)) card k me.0 mine (by_false _ _ _ test (missed_told s h at v m out)),
      ))
      (h.places k lt')

  same_state : (s : State (Option StripOf) View) → IsSound card s → k < length s.homes → get_elem? s.views id ≡ some me.0 → IsSound card (stepped s (strip_word k) (get_or s.words (strip_word k) 0) id me.1 me.0 keeps)
  same_state s h lt at =
      let ws : set s.words (strip_word k) (get_or s.words (strip_word k) 0) ≡ s.words = set_again s.words (strip_word k) _ (there s.words (strip_word k) (let q = h.words in omega arith)) in
      let vs : set s.views id me.0 ≡ s.views = set_again s.views id me.0 at in
      subst (λ x. IsSound card (record { words = x; homes = s.homes; views = set s.views id me.0 })) (sym ws) (subst (λ x. IsSound card (record { words = s.words; homes = s.homes; views = x })) (sym vs) h)

  -- a compare_exchange from the word of a strip that is home
  pub takes_or_not : (old new : ℕ) → k < slots → old % 2 ^ 40 ≡ 0 → new ≡ old + 1 → Allows (IsSound card) slots id me (strip_word k) (λ n. either (eqb n old) new n) (TakesOrNot (step slots (strip_word k) old new none) me)
  takes_or_not old new lt even is s h len at fits =
      let n = get_or s.words (strip_word k) 0 in
      let lt' : k < length s.homes = omega arith in
      let mine = named card s.views id me.0 c h.roster at has in
      let then = TakesOrNot (step slots (strip_word k) old new none) me in
      dite (ℕ_discrete n old)
      (λ e.
      let test = eq-eqb n old e in
      subst (λ b. After s (either b new n) then) (sym test)
      (⊎_elim
      (λ p.
      let j = p.0 in
      let home = p.1 in (
        with_strip k j.done me.0,
        takes k (Some j),
        home.there,
        took s h lt' at j home new (omega arith),
        told_as (λ c k. MatchBool (eqb n old) ((i : StripOf) × Took c k n me _ i) (_ ≡ me)) card k me.0 mine (by_true _ _ _ test (j, took_told s h at j home)),
      ))
      (λ p. let word = p.2.word in let bound = few_misses s h p.0 p.1 p.2 in absurd (omega arith))
      (h.places k lt')))
      (λ ne.
      let test = ne_eqb n old ne in
      subst (λ b. After s (either b new n) then) (sym test)
      (me.0, keeps, tt, same_state s h lt' at, told_as (λ c k. MatchBool (eqb n old) ((i : StripOf) × Took c k n me me i) (me ≡ me)) card k me.0 mine (by_false _ _ _ test refl)))

  -- the same for a word that is the strip's
  pub takes_or_misses_at : (word : ℕ) → word ≡ strip_word k → k < slots → me.0.missed < 2 ^ 32
      → Allows (IsSound card) slots id me word (λ n. (n + 1) % 18446744073709551616) (TakesOrMisses (step slots word 1 0 none) me)
  takes_or_misses_at word is lt few =
      subst (λ w. Allows (IsSound card) slots id me w (λ n. (n + 1) % 18446744073709551616) (TakesOrMisses (step slots w 1 0 none) me))
      (sym is) (takes_or_misses lt few)

  pub takes_or_not_at : (word old new : ℕ) → word ≡ strip_word k → k < slots → old % 2 ^ 40 ≡ 0 → new ≡ old + 1
      → Allows (IsSound card) slots id me word (λ n. either (eqb n old) new n) (TakesOrNot (step slots word old new none) me)
  takes_or_not_at word old new word_is lt even is =
      subst (λ w. Allows (IsSound card) slots id me w (λ n. either (eqb n old) new n) (TakesOrNot (step slots w old new none) me))
      (sym word_is) (takes_or_not old new lt even is)
