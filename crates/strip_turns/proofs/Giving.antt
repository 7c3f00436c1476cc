-- A step that puts a strip back keeps the rule.
use Rattle.std.proofs.Common.{◌≡◌, ℕ, ◌+◌, ◌*◌, ◌^◌, ◌<◌, ◌≤◌, ◌≢◌, inl, ⊎_elim, [], ◌∷◌, length, set, Option, Some, arith, refl, sym, ap, ◌∙◌, subst, get_or-set_same, get_or-set_other}
use Rattle.std.proofs.Math.ListN.{length-set}
use mathlib.Core.Option.{some, none}
use mathlib.Core.Logic.{dite}
use lib.ListN.{get_elem?}
use native.Mathlib.Decide.{ℕ_discrete}
use Rattle.atomic_table.specs.Table.{State, Me, step, gives, stepped, Allows, put_back, rest}
use Rattle.atomic_table.proofs.Lists.{set_here, set_else}
use Rattle.strip_journal.specs.Strips.{StripOf}
use Rattle.strip_turns.specs.declared.view.View.{View}
use Rattle.strip_turns.specs.declared.view.BoardStart.{BoardStart}
use Rattle.strip_turns.specs.declared.view.LogEntry.TheVariants.{Trip}
use Rattle.strip_turns.specs.Log.{tally, drew, missed, missed_at, did, strayed, once_between, met_at}
use Rattle.strip_turns.specs.Cards.{start_version, IsCase}
use Rattle.strip_turns.specs.Views.{with_trip}
use Rattle.strip_turns.specs.Sound.{held_in, taken_at, IsStripOut, Place, IsSound, strip_word}
use Rattle.strip_turns.specs.Plays.{Gave, PutsBack}
use Rattle.strip_turns.proofs.Totals.{total_set, total_at, total_le, total_one}
use Rattle.strip_turns.proofs.Logs.{tally_more, met_here, met_else, strays_further, seen_within, seen_here, did_here, did_else, stray_here, stray_else, between_further}
use Rattle.strip_turns.proofs.Rosters.{some_is, named}
use Rattle.strip_turns.proofs.Places.{place_set, sound_set}
use Rattle.strip_turns.proofs.Taking.{held_here, taken_here, held_else, taken_else, taken_none}

module _ (card : BoardStart) (slots id : ℕ) (me : Me (Option StripOf) View) (c : BoardStart) (has : me.0.card ≡ Some c) (k from : ℕ) (j : StripOf)
    (held : me.0.held ≡ Some (record { strip = k; at = from })) (out : me.1 ≡ (k, Some j) ∷ []) (case : IsCase c k j.done j) (further : from ≤ j.done) where
  put : (s : State (Option StripOf) View) → IsSound card s → k < length s.homes → get_elem? s.views id ≡ some me.0 → (v m : ℕ) → IsStripOut card s k v m → v ≡ from → IsCase card k j.done j → (new : ℕ) → new ≡ (j.done + 1) * 2 ^ 40
      → IsSound card (stepped s (strip_word k) new id me.1 (with_trip k from j.done m me.0) gives)
  put s h lt at v m gone is of_case new value =
      let u = me.0 in
      let to = j.done in
      let w = with_trip k from to m u in
      let l = gone.logged in
      let ws = set s.words (strip_word k) new in
      let hs = put_back s.homes me.1 in
      let homes : hs ≡ set s.homes k (some (Some j)) = ap (λ c. put_back s.homes c) out in
      let t : State (Option StripOf) View = record { words = ws; homes = hs; views = set s.views id w } in
      let started = l.started in
      let mine : held_in k u.held ≡ 1 = ap (held_in k) held ∙ held_here k from in
      let taken : taken_at k u.held ≡ from = ap (taken_at k) held ∙ taken_here k from in
      sound_set card s k new hs id u w h (ap length homes ∙ length-set s.homes k _) at (named card s.views id u c h.roster at has) (record { card = refl; first = refl; number = refl; splits = refl; out = refl })
      (let few = h.roster.few id u at in record { drawn = few.drawn; missed = few.missed })
      (record { drawn = refl; draws = λ x. (let e = tally_more (drew x) u.log (Trip k from to) in omega arith); misses = (let e = tally_more missed u.log (Trip k from to) in omega arith) })
      (λ i li. dite (ℕ_discrete i k)
      (λ e. subst (Place card t) (sym e) (inl (
        j,
        record {
          there = ap (λ z. get_elem? z k) homes ∙ set_here s.homes k _ lt;
          of_case = of_case;
          word = get_or-set_same s.words (strip_word k) new 0 (let q = h.words in omega arith) ∙ value;
          logged = record {
            started = omega arith;
            within = (let a = of_case.within in omega arith);
            did = λ x.
                let q = total_set (λ z. tally (did k x) z.log) s.views id u w at in
                let d = l.did x in
                let e = tally_more (did k x) u.log (Trip k from to) in
                let a = did_here k x from to in
                let b = between_further (start_version card k) from to x (omega arith) further in
                let f : once_between (start_version card k) v x ≡ once_between (start_version card k) from x = ap (λ z. once_between (start_version card k) z x) is in omega arith;
            strayed =
                (let q = total_set (λ z. tally (strayed k (start_version card k) to) z.log) s.views id u w at in
                let d = l.strayed in
                let e = tally_more (strayed k (start_version card k) to) u.log (Trip k from to) in
                let a = stray_here k (start_version card k) to from to (omega arith) further (omega arith) in
                let b = total_le (λ z. tally (strayed k (start_version card k) to) z.log) (λ z. tally (strayed k (start_version card k) v) z.log) s.views (λ z. strays_further k (start_version card k) v to z.log (omega arith)) in omega arith);
            held = (let q = total_set (λ z. held_in k z.held) s.views id u w at in let d = l.held in omega arith);
            at = (let q = total_set (λ z. taken_at k z.held) s.views id u w at in let d = l.at in omega arith);
            misses =
                (let q = total_set (λ z. tally (missed_at k) z.log) s.views id u w at in
                let r = total_set (λ z. met_at k z.met) s.views id u w at in
                let d = l.misses in
                let a = met_here k m u.met in
                let e = tally_more (missed_at k) u.log (Trip k from to) in omega arith);
          };
        },
      )))
      (λ ne.
      let ne' : k ≢ i = λ e. ne (sym e) in
      place_set card s ws hs i id u w (ap (λ z. get_elem? z i) homes ∙ set_else s.homes k i _ ne) (get_or-set_other s.words (strip_word k) (strip_word i) new 0 (λ e. ne (omega arith))) at
      (record {
        did = λ x. (let e = tally_more (did i x) u.log (Trip k from to) in let a = did_else i k x from to ne' in omega arith);
        strayed = λ b. (let e = tally_more (strayed i (start_version card i) b) u.log (Trip k from to) in let a = stray_else i k (start_version card i) b from to ne' in omega arith);
        missed = (let e = tally_more (missed_at i) u.log (Trip k from to) in omega arith);
        met = met_else i k m u.met ne';
        held = sym (ap (held_in i) held ∙ held_else i k from ne');
        taken = sym (ap (taken_at i) held ∙ taken_else i k from ne');
      }) (h.places i li)))

  pub giving : (new : ℕ) → k < slots → new ≡ (j.done + 1) * 2 ^ 40 → Allows (IsSound card) slots id me (strip_word k) (λ _. new) (PutsBack (step slots (strip_word k) new 0 none) me)
  giving new lt value s h len at fits =
      let u = me.0 in
      let lt' : k < length s.homes = omega arith in
      let mine = named card s.views id u c h.roster at has in
      let here : c ≡ card = some_is c card (sym has ∙ mine) in
      let of_case : IsCase card k j.done j = subst (λ z. IsCase z k j.done j) here case in
      let held1 : held_in k u.held ≡ 1 = ap (held_in k) held ∙ held_here k from in
      let taken : taken_at k u.held ≡ from = ap (taken_at k) held ∙ taken_here k from in
      ⊎_elim
      (λ p. let a = total_at (λ z. held_in k z.held) s.views id u at in let b = p.1.logged.held in absurd (omega arith))
      (λ p.
      let v = p.0 in
      let m = p.1 in
      let gone = p.2 in
      let l = gone.logged in
      let a = total_one (λ z. held_in k z.held) (λ z. taken_at k z.held) s.views id u (λ z. taken_none k z.held) l.held at held1 in
      let b = l.at in
      let is : v ≡ from = omega arith in
      let w = with_trip k from j.done m u in (
        w,
        gives,
        tt,
        put s h lt' at v m gone is of_case new value,
        λ c' h' to has' held' first. (
          m,
          (let hh = some_is (record { strip = k; at = from }) h' (sym held ∙ held') in
              let tt' : j.done ≡ to = omega arith in
              let cc' = some_is card c' (sym mine ∙ has') in
              subst (λ z. Gave z h' to me (w, rest me.1) m) cc' (subst (λ z. Gave card z to me (w, rest me.1) m) hh (subst (λ z. Gave card (record { strip = k; at = from }) z me (w, rest me.1) m) tt' (record {
                me = refl;
                seen = seen_here k (start_version card k) from j.done u.log (
                    let d = l.strayed in
                    let e = total_at (λ z. tally (strayed k (start_version card k) v) z.log) s.views id u at in
                    let f = seen_within k (start_version card k) (start_version card k) v u.log (omega arith) l.started in omega arith
                    );
              })))),
        ),
      ))
      (h.places k lt')

  -- the same for a word that is the strip's
  pub giving_at : (word new : ℕ) → word ≡ strip_word k → k < slots → new ≡ (j.done + 1) * 2 ^ 40
      → Allows (IsSound card) slots id me word (λ _. new) (PutsBack (step slots word new 0 none) me)
  giving_at word new is lt value =
      subst (λ w. Allows (IsSound card) slots id me w (λ _. new) (PutsBack (step slots w new 0 none) me)) (sym is) (giving new lt value)
