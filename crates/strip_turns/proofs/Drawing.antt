-- A draw keeps the rule.
use Rattle.std.proofs.Common.{◌≡◌, ℕ, suc, ◌+◌, ◌*◌, ◌%◌, ◌^◌, ◌<◌, ◌≤◌, List, [], ◌∷◌, length, set, Option, Some, arith, refl, sym, ◌∙◌, subst, get_or-set_same, get_or-set_other}
use Rattle.std.proofs.Math.ListN.{length-set}
use Rattle.std.proofs.lemmas.Bool.Decides.{nat_tests}
use mathlib.Core.Option.{some}
use lib.ListN.{get_elem?, get_or}
use native.Mathlib.Nat.{mod-eq_of_lt}
use Rattle.atomic_table.specs.Table.{Me, keeps, Allows}
use Rattle.strip_journal.specs.Strips.{StripOf}
use Rattle.strip_turns.specs.declared.view.View.{View}
use Rattle.strip_turns.specs.declared.view.BoardStart.{BoardStart}
use Rattle.strip_turns.specs.declared.view.LogEntry.TheVariants.{Draw}
use Rattle.strip_turns.specs.Log.{tally, drew, missed, missed_at, did, strayed}
use Rattle.strip_turns.specs.Cards.{start_version}
use Rattle.strip_turns.specs.Views.{with_draw}
use Rattle.strip_turns.specs.Sound.{total, once_below, IsFew, IsDrawn, IsSound, strip_word}
use Rattle.strip_turns.specs.Plays.{Drawn}
use Rattle.strip_turns.proofs.Totals.{total_set, total_at}
use Rattle.strip_turns.proofs.Logs.{tally_more}
use Rattle.strip_turns.proofs.Rosters.{named, roster_set}
use Rattle.strip_turns.proofs.Places.{Agrees, place_set}

pub once_more : (x n : ℕ) → once_below (n + 1) x ≡ once_below n x + drew x (Draw n)
once_more x n = grind (arith, nat_tests)

pub below : (n x t : ℕ) → 0 < t → t ≤ once_below n x → x < n
below n x t h le = grind (arith, nat_tests)

few_rest : (x : View) (xs : List View) → ((seat : ℕ) (v : View) → get_elem? (x ∷ xs) seat ≡ some v → IsFew v) → (seat : ℕ) (v : View) → get_elem? xs seat ≡ some v → IsFew v
few_rest x xs h seat v at = h (suc seat) v at

pub drawn_few : (views : List View) → ((seat : ℕ) (v : View) → get_elem? views seat ≡ some v → IsFew v) → total (λ u. u.drawn) views ≤ length views * 2 ^ 32
drawn_few [] h = omega arith
drawn_few (x ∷ xs) h = let p = (h 0 x refl).drawn in let q = drawn_few xs (few_rest x xs h) in omega arith

pub missed_few : (views : List View) → ((seat : ℕ) (v : View) → get_elem? views seat ≡ some v → IsFew v) → total (λ u. u.missed) views ≤ length views * 2 ^ 32
missed_few [] h = omega arith
missed_few (x ∷ xs) h = let p = (h 0 x refl).missed in let q = missed_few xs (few_rest x xs h) in omega arith

agrees_draw : (card : BoardStart) (k t : ℕ) (v : View) → Agrees card k v (with_draw t v)
agrees_draw card k t v = record {
  did = λ x. let e = tally_more (did k x) v.log (Draw t) in omega arith;
  strayed = λ b. let e = tally_more (strayed k (start_version card k) b) v.log (Draw t) in omega arith;
  missed = (let e = tally_more (missed_at k) v.log (Draw t) in omega arith);
  met = refl;
  held = refl;
  taken = refl;
}

pub draws : (card : BoardStart) (slots id : ℕ) (me : Me (Option StripOf) View) (c : BoardStart) → me.0.card ≡ Some c → me.0.drawn < 2 ^ 32
    → Allows (IsSound card) slots id me 0 (λ n. (n + 1) % 18446744073709551616) (Drawn me)
draws card slots id me c has few s h len at lt =
    let v = me.0 in
    let n = get_or s.words 0 0 in
    let w = with_draw n v in
    let sum = drawn_few s.views h.roster.few in
    let passes = h.roster.passes in
    let bound = h.drawn.bounded in
    let next : (n + 1) % 18446744073709551616 ≡ n + 1 = mod-eq_of_lt (omega arith) in
    let word : get_or (set s.words 0 ((n + 1) % 18446744073709551616)) 0 0 ≡ n + 1 = get_or-set_same s.words 0 _ 0 (let q = h.words in omega arith) ∙ next in (
      w,
      keeps,
      tt,
      record {
        words = length-set s.words 0 _ ∙ h.words;
        strips = h.strips;
        roster = roster_set card s.views id v w h.roster at (named card s.views id v c h.roster at has) (record { card = refl; first = refl; number = refl; splits = refl; out = refl }) (record { drawn = omega arith; missed = (h.roster.few id v at).missed });
        drawn = subst (λ z. IsDrawn z (set s.views id w)) (sym word) (record {
          once = λ x.
              let t = total_set (λ u. tally (drew x) u.log) s.views id v w at in
              let m = tally_more (drew x) v.log (Draw n) in
              let o = once_more x n in
              let p = h.drawn.once x in omega arith;
          bounded = (let t = total_set (λ u. u.drawn) s.views id v w at in omega arith);
        });
        missed = (let t = total_set (λ u. tally missed u.log) s.views id v w at in let r = total_set (λ u. u.missed) s.views id v w at in let m = tally_more missed v.log (Draw n) in let b = h.missed in omega arith);
        places = λ k lk. place_set card s _ s.homes k id v w refl (get_or-set_other s.words 0 (strip_word k) _ 0 (λ e. omega arith)) at (agrees_draw card k n v) (h.places k lk);
      },
      record {
        me = refl;
        above = λ x h0. below n x (tally (drew x) v.log) h0 (let t = total_at (λ u. tally (drew x) u.log) s.views id v at in let p = h.drawn.once x in omega arith);
      },
    )
