-- The passes, after a step that leaves their ranks.
use Rattle.std.proofs.Common.{◌≡◌, ℕ, inl, inr, ⊎_elim, ◌⊎◌, List, length, set, Bool, true, false, cond, eq-eqb, [], arith, refl, sym, ap, ◌∙◌, subst, Some, None}
use Rattle.std.proofs.Math.ListN.{length-set}
use mathlib.Core.Option.{some}
use lib.ListN.{get_elem?}
use Rattle.atomic_table.proofs.Lists.{at_set}
use Rattle.strip_turns.specs.declared.view.View.{View}
use Rattle.strip_turns.specs.declared.view.BoardStart.{BoardStart}
use Rattle.strip_turns.specs.Sound.{total, beside, times, IsFew, IsRoster}
use Rattle.strip_turns.specs.Views.{spent}
use Rattle.strip_turns.proofs.Totals.{total_set, total_at, total_alone}

pub some_is : {A : Type 0} (x y : A) → Some x ≡ Some y → x ≡ y
some_is x y e = cc

pub some_none : {A : Type 0} (x : A) → None ≡ Some x → ⊥
some_none x e = cc

pub true_or_not : (b : Bool) → (b ≡ true) ⊎ (b ≡ false)
true_or_not true = inl refl
true_or_not false = inr refl

true_false : true ≡ false → ⊥
true_false e = cc

pub record SameRank (v w : View) : Type 0 where
  pub card : w.card ≡ v.card
  pub first : w.first ≡ v.first
  pub number : w.number ≡ v.number
  pub splits : w.splits ≡ v.splits
  pub out : w.out ≡ v.out

-- a pass that names a card names this one
pub named : (card : BoardStart) (views : List View) (seat : ℕ) (v : View) (c : BoardStart) → IsRoster card views → get_elem? views seat ≡ some v → v.card ≡ Some c → v.card ≡ Some card
named card views seat v c h at has = ⊎_elim (λ e. e) (λ e. absurd (some_none c (ap (λ (z : View). z.card) (sym e) ∙ has))) (h.cards seat v at)

pub roster_set : (card : BoardStart) (views : List View) (seat : ℕ) (v w : View) → IsRoster card views → get_elem? views seat ≡ some v → v.card ≡ Some card → SameRank v w → IsFew w → IsRoster card (set views seat w)
roster_set card views seat v w h at has same few =
    let len : length (set views seat w) ≡ length views = length-set views seat w in
    let sums : (n : ℕ) → total (λ u. beside n u.card u.first u.number) (set views seat w) ≡ total (λ u. beside n u.card u.first u.number) views =
    λ n.
    let sum = total_set (λ u. beside n u.card u.first u.number) views seat v w at in
    let rank : beside n w.card w.first w.number ≡ beside n v.card v.first v.number = λ i. beside n (same.card i) (same.first i) (same.number i) in omega arith in
    record {
      cards = λ k u at'. ⊎_elim (λ t. inl (subst (λ (z : View). z.card ≡ Some card) t.1 (same.card ∙ has))) (λ t. h.cards k u t.1) (at_set views seat k w u at');
      few = λ k u at'. ⊎_elim (λ t. subst IsFew t.1 few) (λ t. h.few k u t.1) (at_set views seat k w u at');
      first = λ k u at' is.
          ⊎_elim
          (λ t.
          let here = h.first seat v at (sym same.first ∙ ap (λ (z : View). z.first) t.1 ∙ is) in
          let a = here.splits in
          let b = here.passes in
          let s : u.splits ≡ v.splits = ap (λ (z : View). z.splits) (sym t.1) ∙ same.splits in
          let o : u.out ≡ v.out = ap (λ (z : View). z.out) (sym t.1) ∙ same.out in
          record {
            front = t.0 ∙ here.front;
            splits = omega arith;
            passes = omega arith;
            out = λ n. sums n ∙ here.out n ∙ ap (times n) (sym o);
            once = λ n. (let e = ap (times n) o in let f = here.once n in omega arith);
            known = λ n lt. (let e = ap (times n) o in let f = here.known n (omega arith) in omega arith);
          })
          (λ t.
          let there = h.first k u t.1 is in
          let b = there.passes in
          record { front = there.front; splits = there.splits; passes = omega arith; out = λ n. sums n ∙ there.out n; once = there.once; known = there.known })
          (at_set views seat k w u at');
      passes = let p = h.passes in omega arith;
    }

-- where the first pass has no other out, what merged passes have nothing of is its own
pub alone : (card : BoardStart) (views : List View) (seat : ℕ) (v : View) → IsRoster card views → get_elem? views seat ≡ some v → v.first ≡ true → v.out ≡ [] → (f : View → ℕ) → f spent ≡ 0 → total f views ≡ f v
alone card views seat v h at first out f gone =
    let mine = h.first seat v at first in
    let front = mine.front in
    total_alone f views seat v at
    (λ j u at' ne.
    ⊎_elim
    (λ live.
    ⊎_elim
    (λ is. let theirs = h.first j u at' is in absurd (ne (theirs.front ∙ sym front)))
    (λ off.
    let b : beside u.number u.card u.first u.number ≡ 1 = (λ i. beside u.number (live i) (off i) u.number) ∙ ap (λ (c : Bool). cond {A = ℕ} c 1 0) (eq-eqb u.number u.number refl) in
    let all : total (λ z. beside u.number z.card z.first z.number) views ≡ 0 = mine.out u.number ∙ ap (times u.number) out in
    let le = total_at (λ z. beside u.number z.card z.first z.number) views j u at' in absurd (omega arith))
    (true_or_not u.first))
    (λ e. ap f e ∙ gone)
    (h.cards j u at'))
