-- Which passes are out while workers are hired and merged.
use native.Mathlib.Decide.{ℕ_discrete}
use mathlib.Core.Logic.{dite}
use Rattle.std.proofs.Common.{◌≡◌, ℕ, suc, ◌+◌, List, [], ◌∷◌, ◌++◌, length, get_or, Bool, cond, eq-eqb, add-one, arith, sym, ap, ◌∙◌, subst, Option, Some}
use Rattle.std.specs.Option.{option_to_list}
use Rattle.std.proofs.Math.ListN.{length-append}
use Rattle.std.proofs.Math.Seq.{get_or-append_seam}
use Rattle.std.proofs.lemmas.List.{get_or_append_left}
use Rattle.strip_turns.specs.declared.view.View.{View}
use Rattle.strip_turns.specs.Views.{with_pass, with_split, without}
use Rattle.worker_gate.specs.declared.worker.Worker.{Worker}
use Rattle.worker_gate.specs.Workers.{AreNumbered}
use Rattle.worker_gate.specs.Crew.{IsTeam, numbers_above, with_splits}

pub split_none : (v : View) → v.out ≡ [] → v ≡ with_splits 0 v
split_none v alone = let e : v.splits ≡ v.splits + 0 = omega arith in λ i. record v { splits = e i; out = alone i }

numbers_more : (s n : ℕ) → (s + n + 1) ∷ numbers_above s n ≡ numbers_above s (n + 1)
numbers_more s n =
    let e : s + n + 1 ≡ s + suc n = omega arith in ap (λ z. z ∷ numbers_above s n) e ∙ sym (ap (numbers_above s) (add-one n))

pub split_more : (n : ℕ) (v u w : View) → u ≡ with_splits n v → w ≡ with_split u → w ≡ with_splits (n + 1) v
split_more n v u w before split =
    let e : v.splits + n + 1 ≡ v.splits + (n + 1) = omega arith in
    split ∙ ap with_split before ∙ (λ i. record v { splits = e i; out = numbers_more v.splits n i })

pub numbered_none : (s : ℕ) → AreNumbered s []
numbered_none s = record { each = λ k d lt. absurd (omega arith) }

pub numbered_more : (s : ℕ) (ws : List Worker) (x : Worker) → AreNumbered s ws → x.pass.seat.me.0.number ≡ s + length ws + 1
    → AreNumbered s (ws ++ x ∷ [])
numbered_more s ws x h is = record {
  each = λ k d lt. dite (ℕ_discrete k (length ws))
      (λ same.
      let at : get_or (ws ++ x ∷ []) k d ≡ x = ap (λ z. get_or (ws ++ x ∷ []) z d) same ∙ get_or-append_seam ws x [] d in
      ap (λ (z : Worker). z.pass.seat.me.0.number) at ∙ is ∙ ap (λ z. s + z + 1) (sym same))
      (λ ne. ap (λ (z : Worker). z.pass.seat.me.0.number)
      (get_or_append_left ws (x ∷ []) d k (let l = length-append ws (x ∷ []) in omega arith))
      ∙ h.each k d (let l = length-append ws (x ∷ []) in omega arith));
}

without_first : (m x : ℕ) (xs : List ℕ) → x ≡ m → without m (x ∷ xs) ≡ xs
without_first m x xs e = ap (λ (b : Bool). cond b xs (x ∷ without m xs)) (eq-eqb x m e)

-- the last of the workers is merged
team_last : (u w : View) (ws : List Worker) (x : Worker) → IsTeam u (ws ++ x ∷ []) → w ≡ with_pass u x.pass.seat.me.0 → IsTeam w ws
team_last u w ws x h joined =
    let s = h.above in
    let len : length (ws ++ x ∷ []) ≡ length ws + 1 = length-append ws (x ∷ []) in
    let at : get_or (ws ++ x ∷ []) (length ws) x ≡ x = get_or-append_seam ws x [] x in
    let number : x.pass.seat.me.0.number ≡ s + length ws + 1 =
    ap (λ (z : Worker). z.pass.seat.me.0.number) (sym at) ∙ h.numbered.each (length ws) x (omega arith) in
    let out : u.out ≡ (s + length ws + 1) ∷ numbers_above s (length ws) =
    h.out ∙ ap (numbers_above s) len ∙ sym (numbers_more s (length ws)) in
    record {
      above = s;
      numbered = record {
        each = λ k d lt. ap (λ (z : Worker). z.pass.seat.me.0.number) (sym (get_or_append_left ws (x ∷ []) d k lt))
            ∙ h.numbered.each k d (omega arith);
      };
      out = ap (λ (z : View). z.out) joined ∙ ap (without x.pass.seat.me.0.number) out
          ∙ without_first x.pass.seat.me.0.number (s + length ws + 1) (numbers_above s (length ws)) (sym number);
    }

pub team_pop : (u w : View) (xs ys : List Worker) (r : Option Worker) (x : Worker) → IsTeam u xs → xs ≡ ys ++ option_to_list r → r ≡ Some x
    → w ≡ with_pass u x.pass.seat.me.0 → IsTeam w ys
team_pop u w xs ys r x h e is joined = team_last u w ys x (subst (IsTeam u) (e ∙ ap (λ z. ys ++ option_to_list z) is) h) joined

pub pop_len : (xs ys : List Worker) (r : Option Worker) (x : Worker) → xs ≡ ys ++ option_to_list r → r ≡ Some x → length ys + 1 ≡ length xs
pop_len xs ys r x e is =
    let a : length xs ≡ length (ys ++ x ∷ []) = ap length (e ∙ ap (λ z. ys ++ option_to_list z) is) in
    let b = length-append ys (x ∷ []) in omega arith

pub team_none : (u : View) (ws : List Worker) → IsTeam u ws → length ws ≡ 0 → u.out ≡ []
team_none u ws h e = h.out ∙ ap (numbers_above h.above) e

-- a call left the number of the worker that it was given
pub number_kept : (old given left new : Worker) (n : ℕ) → given ≡ old → left ≡ new
    → left.pass.seat.me.0.number ≡ given.pass.seat.me.0.number → old.pass.seat.me.0.number ≡ n → new.pass.seat.me.0.number ≡ n
number_kept old given left new n e f same is =
    ap (λ (w : Worker). w.pass.seat.me.0.number) (sym f) ∙ same ∙ ap (λ (w : Worker). w.pass.seat.me.0.number) e ∙ is
