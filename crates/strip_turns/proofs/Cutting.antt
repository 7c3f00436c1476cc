-- Passes are split and merged.
use Rattle.std.proofs.Common.{Bool, ◌≤◌, ne_eqb, eq-eqb, eqb, cond, suc, zero, ◌≡◌, ℕ, ◌+◌, ◌<◌, inl, inr, ⊎_elim, List, [], ◌∷◌, ◌++◌, length, set, true, false, Option, Some, None, arith, refl, sym, ap, ◌∙◌, subst}
use Rattle.std.proofs.Math.ListN.{length-set, length-append}
use mathlib.Core.Option.{some}
use mathlib.Core.Logic.{dite}
use native.Mathlib.Decide.{ℕ_discrete}
use Rattle.std.proofs.lemmas.Bool.Decides.{nat_tests}
use lib.ListN.{get_elem?}
use Rattle.atomic_table.specs.Table.{State, Splits, Joins}
use Rattle.atomic_table.proofs.Lists.{at_set, at_snoc}
use Rattle.strip_journal.specs.Strips.{StripOf}
use Rattle.strip_turns.specs.declared.view.View.{View}
use Rattle.strip_turns.specs.declared.view.BoardStart.{BoardStart}
use Rattle.strip_turns.specs.Log.{tally, drew, missed, missed_at, did, strayed, met_at}
use Rattle.strip_turns.specs.Cards.{start_version}
use Rattle.strip_turns.specs.Views.{without, fresh, spent, with_split, with_pass}
use Rattle.strip_turns.specs.Sound.{total, beside, times, held_in, taken_at, IsFew, IsLogged, Place, IsSound}
use Rattle.strip_turns.proofs.Totals.{total_set, total_at, total_more}
use Rattle.strip_turns.proofs.Logs.{tally_both, met_both}
use Rattle.strip_turns.proofs.Rosters.{named, true_or_not}

true_not : true ≡ false → ⊥
true_not e = cc

more_once : (s n x : ℕ) → x ≤ 1 → (0 < x → n ≤ s) → cond {A = ℕ} (eqb (s + 1) n) 1 0 + x ≤ 1
more_once s n zero le known = grind (arith, nat_tests)
more_once s n (suc x) le known = let a = known (omega arith) in let e : cond {A = ℕ} (eqb (s + 1) n) 1 0 ≡ 0 = ap (λ (c : Bool). cond {A = ℕ} c 1 0) (ne_eqb (s + 1) n (λ q. omega arith)) in omega arith

more_known : (s n x : ℕ) → (0 < x → n ≤ s) → 0 < cond {A = ℕ} (eqb (s + 1) n) 1 0 + x → n ≤ s + 1
more_known s n zero known lt = grind (arith, nat_tests)
more_known s n (suc x) known lt = let a = known (omega arith) in omega arith

pub times_without : (m n : ℕ) (xs : List ℕ) → 0 < times m xs → times n (without m xs) + cond {A = ℕ} (eqb m n) 1 0 ≡ times n xs
times_without m n [] lt = absurd (omega arith)
times_without m n (x ∷ xs) lt = dite (ℕ_discrete x m)
    (λ e.
    subst (λ b. times n (cond b xs (x ∷ without m xs)) + cond {A = ℕ} (eqb m n) 1 0 ≡ cond {A = ℕ} (eqb x n) 1 0 + times n xs) (sym (eq-eqb x m e))
    (let q : cond {A = ℕ} (eqb x n) 1 0 ≡ cond {A = ℕ} (eqb m n) 1 0 = ap (λ z. cond {A = ℕ} (eqb z n) 1 0) e in omega arith))
    (λ ne.
    subst (λ b. times n (cond b xs (x ∷ without m xs)) + cond {A = ℕ} (eqb m n) 1 0 ≡ cond {A = ℕ} (eqb x n) 1 0 + times n xs) (sym (ne_eqb x m ne))
    (let z : cond {A = ℕ} (eqb x m) 1 0 ≡ 0 = ap (λ (c : Bool). cond {A = ℕ} c 1 0) (ne_eqb x m ne) in let r = times_without m n xs (omega arith) in omega arith))

module _ (card : BoardStart) (id : ℕ) (v : View) (c : BoardStart) (has : v.card ≡ Some c) (first : v.first ≡ true) where
  -- a sum after the split
  split_total : (f : View → ℕ) (views : List View) → get_elem? views id ≡ some v → f (with_split v) ≡ f v → (n : ℕ) → f (fresh false (v.splits + 1) v.card) ≡ n → total f (set views id (with_split v) ++ fresh false (v.splits + 1) v.card ∷ []) ≡ total f views + n
  split_total f views at same n e = let m = total_more f (set views id (with_split v)) (fresh false (v.splits + 1) v.card) in let t = total_set f views id v (with_split v) at in omega arith

  split_logged : (views : List View) (k at passes taken m : ℕ) → get_elem? views id ≡ some v → IsLogged card views k at passes taken m → IsLogged card (set views id (with_split v) ++ fresh false (v.splits + 1) v.card ∷ []) k at passes taken m
  split_logged views k at passes taken m there h = record {
    started = h.started;
    within = h.within;
    did = λ x. (let e = split_total (λ u. tally (did k x) u.log) views there refl 0 refl in let b = h.did x in omega arith);
    strayed = (let e = split_total (λ u. tally (strayed k (start_version card k) at) u.log) views there refl 0 refl in let b = h.strayed in omega arith);
    held = (let e = split_total (λ u. held_in k u.held) views there refl 0 refl in let b = h.held in omega arith);
    at = (let e = split_total (λ u. taken_at k u.held) views there refl 0 refl in let b = h.at in omega arith);
    misses = (let e = split_total (λ u. tally (missed_at k) u.log) views there refl 0 refl in let g = split_total (λ u. met_at k u.met) views there refl 0 refl in let b = h.misses in omega arith);
  }

  split_place : (s : State (Option StripOf) View) (k : ℕ) → get_elem? s.views id ≡ some v → Place card s k → Place card (record { words = s.words; homes = s.homes; views = set s.views id (with_split v) ++ fresh false (v.splits + 1) v.card ∷ [] }) k
  split_place s k at (inl h) = inl (h.0, record { there = h.1.there; of_case = h.1.of_case; word = h.1.word; logged = split_logged s.views k h.0.done 0 0 0 at h.1.logged })
  split_place s k at (inr h) = inr (h.0, h.1, record { gone = h.2.gone; word = h.2.word; logged = split_logged s.views k h.0 1 h.0 h.1 at h.2.logged })

  pub splits : v.splits < 64 → Splits (IsSound card) id v (with_split v) (fresh false (v.splits + 1) v.card)
  splits lt s h at =
      let w = with_split v in
      let new = fresh false (v.splits + 1) v.card in
      let mid = set s.views id w in
      let mine = named card s.views id v c h.roster at has in
      let here = h.roster.first id v at first in
      let front = here.front in
      let passes = here.passes in
      let len : length mid ≡ length s.views = length-set s.views id w in
      let more : length (mid ++ new ∷ []) ≡ length mid + 1 = length-append mid (new ∷ []) in
      let ranks : (n : ℕ) → total (λ u. beside n u.card u.first u.number) (mid ++ new ∷ []) ≡ total (λ u. beside n u.card u.first u.number) s.views + cond {A = ℕ} (eqb (v.splits + 1) n) 1 0 =
      λ n. split_total (λ u. beside n u.card u.first u.number) s.views at refl _ (ap (λ z. beside n z false (v.splits + 1)) mine) in
      let few = h.roster.few id v at in
      record {
        words = h.words;
        strips = h.strips;
        roster = record {
          cards = λ k u at'. ⊎_elim (λ old. ⊎_elim (λ t. inl (subst (λ (z : View). z.card ≡ Some card) t.1 mine)) (λ t. h.roster.cards k u t.1) (at_set s.views id k w u old)) (λ e. inl (subst (λ (z : View). z.card ≡ Some card) e mine)) (at_snoc mid new u k at');
          few = λ k u at'.
              ⊎_elim
              (λ old. ⊎_elim (λ t. subst IsFew t.1 (record { drawn = few.drawn; missed = few.missed })) (λ t. h.roster.few k u t.1) (at_set s.views id k w u old))
              (λ e. subst IsFew e (record { drawn = omega arith; missed = omega arith }))
              (at_snoc mid new u k at');
          first = λ k u at' is.
              ⊎_elim
              (λ old. ⊎_elim
              (λ t.
              let e : w.splits ≡ u.splits = ap (λ (z : View). z.splits) t.1 in
              let f : w.out ≡ u.out = ap (λ (z : View). z.out) t.1 in
              record {
                front = t.0 ∙ front;
                splits = omega arith;
                passes = omega arith;
                out = λ n. ranks n ∙ ap (λ z. z + cond {A = ℕ} (eqb (v.splits + 1) n) 1 0) (here.out n) ∙ (let g = ap (times n) f in omega arith);
                once = λ n. (let g = ap (times n) f in let p = more_once v.splits n (times n v.out) (here.once n) (here.known n) in omega arith);
                known = λ n lt'. (let g = ap (times n) f in let p = more_known v.splits n (times n v.out) (here.known n) (omega arith) in omega arith);
              })
              (λ t. let there = h.roster.first k u t.1 is in absurd (t.0 (there.front ∙ sym front)))
              (at_set s.views id k w u old))
              (λ e. absurd (true_not (sym is ∙ ap (λ (z : View). z.first) (sym e))))
              (at_snoc mid new u k at');
          passes = omega arith;
        };
        drawn = record {
          once = λ x. (let e = split_total (λ u. tally (drew x) u.log) s.views at refl 0 refl in let b = h.drawn.once x in omega arith);
          bounded = (let e = split_total (λ u. u.drawn) s.views at refl 0 refl in let b = h.drawn.bounded in omega arith);
        };
        missed = (let e = split_total (λ u. tally missed u.log) s.views at refl 0 refl in let g = split_total (λ u. u.missed) s.views at refl 0 refl in let b = h.missed in omega arith);
        places = λ k lt'. split_place s k at (h.places k lt');
      }

  module _ (other : ℕ) (w : View) (live : (d : BoardStart) × (w.card ≡ Some d)) where
    -- a sum after the merge
    join_total : (f : View → ℕ) (views : List View) → get_elem? views id ≡ some v → get_elem? (set views id (with_pass v w)) other ≡ some w
        → total f (set (set views id (with_pass v w)) other spent) + f v + f w ≡ total f views + f (with_pass v w) + f spent
    join_total f views at at' = let t = total_set f views id v (with_pass v w) at in let u = total_set f (set views id (with_pass v w)) other w spent at' in omega arith

    join_logged : (views : List View) (k at passes taken m : ℕ) → get_elem? views id ≡ some v → get_elem? (set views id (with_pass v w)) other ≡ some w → w.held ≡ None
        → IsLogged card views k at passes taken m → IsLogged card (set (set views id (with_pass v w)) other spent) k at passes taken m
    join_logged views k at passes taken m there there' idle h = record {
      started = h.started;
      within = h.within;
      did = λ x. (let e = join_total (λ u. tally (did k x) u.log) views there there' in let a = tally_both (did k x) v.log w.log in let b = h.did x in omega arith);
      strayed = (let e = join_total (λ u. tally (strayed k (start_version card k) at) u.log) views there there' in let a = tally_both (strayed k (start_version card k) at) v.log w.log in let b = h.strayed in omega arith);
      held = (let e = join_total (λ u. held_in k u.held) views there there' in let a : held_in k w.held ≡ 0 = ap (held_in k) idle in let b = h.held in omega arith);
      at = (let e = join_total (λ u. taken_at k u.held) views there there' in let a : taken_at k w.held ≡ 0 = ap (taken_at k) idle in let b = h.at in omega arith);
      misses =
          (let e = join_total (λ u. tally (missed_at k) u.log) views there there' in
          let a = tally_both (missed_at k) v.log w.log in
          let g = join_total (λ u. met_at k u.met) views there there' in
          let i = met_both k v.met w.met in
          let b = h.misses in omega arith);
    }

    join_place : (s : State (Option StripOf) View) (k : ℕ) → get_elem? s.views id ≡ some v → get_elem? (set s.views id (with_pass v w)) other ≡ some w → w.held ≡ None
        → Place card s k → Place card (record { words = s.words; homes = s.homes; views = set (set s.views id (with_pass v w)) other spent }) k
    join_place s k at at' idle (inl h) = inl (h.0, record { there = h.1.there; of_case = h.1.of_case; word = h.1.word; logged = join_logged s.views k h.0.done 0 0 0 at at' idle h.1.logged })
    join_place s k at at' idle (inr h) = inr (h.0, h.1, record { gone = h.2.gone; word = h.2.word; logged = join_logged s.views k h.0 1 h.0 h.1 at at' idle h.2.logged })

    pub joins : w.held ≡ None → Joins (IsSound card) id v other w (with_pass v w) spent
    joins idle s h at ne at' =
        let b = with_pass v w in
        let mid = set s.views id b in
        let there : get_elem? s.views other ≡ some w = ⊎_elim (λ t. absurd (ne t.0)) (λ t. t.1) (at_set s.views id other b w at') in
        let mine = named card s.views id v c h.roster at has in
        let theirs = named card s.views other w live.0 h.roster there live.1 in
        let here = h.roster.first id v at first in
        let front = here.front in
        let passes = here.passes in
        let off : w.first ≡ false = ⊎_elim (λ is. absurd (ne ((h.roster.first other w there is).front ∙ sym front))) (λ e. e) (true_or_not w.first) in
        let rank : (n : ℕ) → beside n w.card w.first w.number ≡ cond {A = ℕ} (eqb w.number n) 1 0 = λ n i. beside n (theirs i) (off i) w.number in
        let one : cond {A = ℕ} (eqb w.number w.number) 1 0 ≡ 1 = ap (λ (c : Bool). cond {A = ℕ} c 1 0) (eq-eqb w.number w.number refl) in
        let is_out : 0 < times w.number v.out =
        (let le = total_at (λ u. beside w.number u.card u.first u.number) s.views other w there in let a = here.out w.number in let d = rank w.number in omega arith) in
        let len : length (set mid other spent) ≡ length s.views = length-set mid other spent ∙ length-set s.views id b in
        let few = h.roster.few id v at in
        let few' = h.roster.few other w there in
        record {
          words = h.words;
          strips = h.strips;
          roster = record {
            cards = λ k u at''.
                ⊎_elim
                (λ t. inr (sym t.1))
                (λ t. ⊎_elim (λ q. inl (subst (λ (z : View). z.card ≡ Some card) q.1 mine)) (λ q. h.roster.cards k u q.1) (at_set s.views id k b u t.1))
                (at_set mid other k spent u at'');
            few = λ k u at''.
                ⊎_elim
                (λ t. subst IsFew t.1 (record { drawn = omega arith; missed = omega arith }))
                (λ t. ⊎_elim (λ q. subst IsFew q.1 (record { drawn = few.drawn; missed = few.missed })) (λ q. h.roster.few k u q.1) (at_set s.views id k b u t.1))
                (at_set mid other k spent u at'');
            first = λ k u at'' is.
                ⊎_elim
                (λ t. absurd (true_not (sym is ∙ ap (λ (z : View). z.first) (sym t.1))))
                (λ t. ⊎_elim
                (λ q.
                let e : b.splits ≡ u.splits = ap (λ (z : View). z.splits) q.1 in
                let f : b.out ≡ u.out = ap (λ (z : View). z.out) q.1 in
                let g = here.splits in
                record {
                  front = q.0 ∙ front;
                  splits = omega arith;
                  passes = omega arith;
                  out = λ n.
                      let a = join_total (λ u. beside n u.card u.first u.number) s.views at at' in
                      let d = rank n in
                      let i = here.out n in
                      let j = times_without w.number n v.out is_out in
                      let o = ap (times n) f in omega arith;
                  once = λ n. (let o = ap (times n) f in let j = times_without w.number n v.out is_out in let i = here.once n in omega arith);
                  known = λ n lt'. (let o = ap (times n) f in let j = times_without w.number n v.out is_out in let i = here.known n (omega arith) in omega arith);
                })
                (λ q. let far = h.roster.first k u q.1 is in absurd (q.0 (far.front ∙ sym front)))
                (at_set s.views id k b u t.1))
                (at_set mid other k spent u at'');
            passes = (let p = h.roster.passes in omega arith);
          };
          drawn = record {
            once = λ x. (let e = join_total (λ u. tally (drew x) u.log) s.views at at' in let a = tally_both (drew x) v.log w.log in let d = h.drawn.once x in omega arith);
            bounded = (let e = join_total (λ u. u.drawn) s.views at at' in let d = h.drawn.bounded in let a = few'.drawn in omega arith);
          };
          missed =
              (let e = join_total (λ u. tally missed u.log) s.views at at' in
              let g = join_total (λ u. u.missed) s.views at at' in
              let a = tally_both missed v.log w.log in
              let d = h.missed in
              let i = few'.missed in omega arith);
          places = λ k lt'. join_place s k at at' idle (h.places k lt');
        }
