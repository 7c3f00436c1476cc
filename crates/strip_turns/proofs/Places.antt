-- What holds of a strip goes on where nothing that it depends on changes.
use Rattle.std.proofs.Common.{◌≡◌, ℕ, ◌+◌, ◌<◌, ◌≤◌, inl, inr, List, length, set, arith, sym, ap, ◌∙◌, subst, Option, Some, get_or, get_or-set_other}
use Rattle.std.proofs.Math.ListN.{length-set}
use mathlib.Core.Option.{some, none}
use lib.ListN.{get_elem?}
use Rattle.atomic_table.specs.Table.{State}
use Rattle.strip_journal.specs.Strips.{StripOf}
use Rattle.strip_turns.specs.declared.view.View.{View}
use Rattle.strip_turns.specs.declared.view.BoardStart.{BoardStart}
use Rattle.strip_turns.specs.Log.{tally, drew, missed, missed_at, did, strayed, met_at}
use Rattle.strip_turns.specs.Cards.{start_version}
use Rattle.strip_turns.specs.Sound.{held_in, taken_at, IsFew, IsLogged, Place, IsDrawn, IsSound, strip_word}
use Rattle.strip_turns.proofs.Totals.{total_set}
use Rattle.strip_turns.proofs.Rosters.{SameRank, roster_set}

-- two views say the same of the strip k
pub record Agrees (card : BoardStart) (k : ℕ) (v w : View) : Type 0 where
  pub did : (x : ℕ) → tally (did k x) w.log ≡ tally (did k x) v.log
  pub strayed : (b : ℕ) → tally (strayed k (start_version card k) b) w.log ≡ tally (strayed k (start_version card k) b) v.log
  pub missed : tally (missed_at k) w.log ≡ tally (missed_at k) v.log
  pub met : met_at k w.met ≡ met_at k v.met
  pub held : held_in k w.held ≡ held_in k v.held
  pub taken : taken_at k w.held ≡ taken_at k v.held

pub logged_set : (card : BoardStart) (views : List View) (k at passes taken m seat : ℕ) (v w : View)
    → IsLogged card views k at passes taken m → get_elem? views seat ≡ some v → Agrees card k v w → IsLogged card (set views seat w) k at passes taken m
logged_set card views k at passes taken m seat v w h there same = record {
  started = h.started;
  within = h.within;
  did = λ x. let t = total_set (λ u. tally (did k x) u.log) views seat v w there in let a = same.did x in let b = h.did x in omega arith;
  strayed = (let t = total_set (λ u. tally (strayed k (start_version card k) at) u.log) views seat v w there in let a = same.strayed at in let b = h.strayed in omega arith);
  held = (let t = total_set (λ u. held_in k u.held) views seat v w there in let a = same.held in let b = h.held in omega arith);
  at = (let t = total_set (λ u. taken_at k u.held) views seat v w there in let a = same.taken in let b = h.at in omega arith);
  misses =
      (let t = total_set (λ u. tally (missed_at k) u.log) views seat v w there in
      let r = total_set (λ u. met_at k u.met) views seat v w there in
      let a = same.missed in
      let b = same.met in
      let d = h.misses in omega arith);
}

pub place_set : (card : BoardStart) (s : State (Option StripOf) View) (ws : List ℕ) (hs : List (mathlib.Core.Option.Option (Option StripOf))) (k seat : ℕ) (v w : View)
    → get_elem? hs k ≡ get_elem? s.homes k → get_or ws (strip_word k) 0 ≡ get_or s.words (strip_word k) 0 → get_elem? s.views seat ≡ some v → Agrees card k v w → Place card s k
    → Place card (record { words = ws; homes = hs; views = set s.views seat w }) k
place_set card s ws hs k seat v w homes words at same (inl h) =
    inl (h.0, record { there = homes ∙ h.1.there; of_case = h.1.of_case; word = words ∙ h.1.word; logged = logged_set card s.views k h.0.done 0 0 0 seat v w h.1.logged at same })
place_set card s ws hs k seat v w homes words at same (inr h) =
    inr (h.0, h.1, record { gone = homes ∙ h.2.gone; word = words ∙ h.2.word; logged = logged_set card s.views k h.0 1 h.0 h.1 seat v w h.2.logged at same })

-- what a step on a strip's word changes of a pass: no draw, and each miss that it adds is counted
pub record Counted (v w : View) : Type 0 where
  pub drawn : w.drawn ≡ v.drawn
  pub draws : (x : ℕ) → tally (drew x) w.log ≡ tally (drew x) v.log
  pub misses : tally missed w.log + v.missed ≤ tally missed v.log + w.missed

-- a step on the word of a strip keeps the rule where each strip's place goes on
pub sound_set : (card : BoardStart) (s : State (Option StripOf) View) (k n : ℕ) (hs : List (mathlib.Core.Option.Option (Option StripOf))) (seat : ℕ) (v w : View)
    → IsSound card s → length hs ≡ length s.homes → get_elem? s.views seat ≡ some v → v.card ≡ Some card → SameRank v w → IsFew w → Counted v w
    → ((j : ℕ) → j < length s.homes → Place card (record { words = set s.words (strip_word k) n; homes = hs; views = set s.views seat w }) j)
    → IsSound card (record { words = set s.words (strip_word k) n; homes = hs; views = set s.views seat w })
sound_set card s k n hs seat v w h len at has same few count places = record {
  words = length-set s.words (strip_word k) n ∙ h.words ∙ ap strip_word (sym len);
  strips = len ∙ h.strips;
  roster = roster_set card s.views seat v w h.roster at has same few;
  drawn = subst (λ z. IsDrawn z (set s.views seat w)) (sym (get_or-set_other s.words (strip_word k) 0 n 0 (λ e. omega arith))) (record {
    once = λ x. let t = total_set (λ u. tally (drew x) u.log) s.views seat v w at in let a = count.draws x in let b = h.drawn.once x in omega arith;
    bounded = (let t = total_set (λ u. u.drawn) s.views seat v w at in let a = count.drawn in let b = h.drawn.bounded in omega arith);
  });
  missed =
      (let t = total_set (λ u. tally missed u.log) s.views seat v w at in
      let r = total_set (λ u. u.missed) s.views seat v w at in
      let a = count.misses in
      let b = h.missed in omega arith);
  places = λ j lt. places j (omega arith);
}
