-- What the flags of a ray say of the cutter: a sure point is met by the lower one, and one that is not possible is not met by the upper.
use Rattle.std.proofs.Common.{◌≡◌, Bool, true, false, ℕ, ◌<◌, List, length, ℤ, pos, Result, Ok, Err, IfOk, arith, sym, subst, ⊎_elim, ◌∙◌}
use Rattle.std.proofs.lemmas.Bool.{cases_lt}
use Rattle.std.proofs.lemmas.List.{get_or_past}
use Rattle.std.proofs.lemmas.List.FromFn.{get_or-map-range_with_len, length-map-range_with_len}
use Rattle.space.specs.Sweeps.{IsSweep, SweepOf}
use Rattle.bern_form.specs.Marks.{held_at_sample, is_possible_with}
use Rattle.vf_spans.specs.Members.{has}
use Rattle.cutter_slabs.specs.Cutter.{CutterSize}
use Rattle.cutter_slabs.specs.Meets.{MeetsLower, MeetsUpper}
use Rattle.cutter_slabs.specs.Stacks.{inner_stack, outer_stack, reach_of}
use Rattle.cutter_marks.specs.MarkBy.{is_possible_by, is_sure_by}
use Rattle.box_bisect.specs.RayMarks.{flags_along}

flag_at : (test : List ℤ → Bool) (point : ℕ → List ℤ) (n l : ℕ) → l < n → has (flags_along test point n) l ≡ test (point l)
flag_at test point n l lt = get_or-map-range_with_len (λ i. test (point i)) 0 n l l false lt (omega arith)

no_both : (b : Bool) → b ≡ true → b ≡ false → ⊥
no_both b e f = cc

flagged : (test : List ℤ → Bool) (point : ℕ → List ℤ) (n l : ℕ) → has (flags_along test point n) l ≡ true → test (point l) ≡ true
flagged test point n l h =
    ⊎_elim (λ inside. sym (flag_at test point n l inside) ∙ h)
    (λ past. absurd (no_both (has (flags_along test point n) l) h
    (get_or_past (flags_along test point n) l false (omega (arith, past, length-map-range_with_len (λ i. test (point i)) 0 n)))))
    (cases_lt l n)

pub sure_met : (c : CutterSize) (k : ℕ) (m : SweepOf) (point : ℕ → List ℤ) (S n : ℕ) (flags : List Bool)
    → ((p : List ℤ) → held_at_sample (inner_stack c k) m p S ≡ true → MeetsLower c m p)
    → flags ≡ flags_along (λ p. is_sure_by c k m p S) point n → (l : ℕ) → has flags l ≡ true → MeetsLower c m (point l)
unfolding is_sure_by
sure_met c k m point S n flags met same l h =
    met (point l) (flagged (λ p. held_at_sample (inner_stack c k) m p S) point n l (subst (λ x. has x l ≡ true) same h))

pub out_not_met : (c : CutterSize) (k : ℕ) (m : SweepOf) (point : ℕ → List ℤ) (S n : ℕ) (flags : List Bool)
    → ((p : List ℤ) → is_possible_with (outer_stack c k) (pos (reach_of c)) m p S ≡ false → ¬ MeetsUpper c m p)
    → flags ≡ flags_along (λ p. is_possible_by c k m p S) point n → (l : ℕ) → l < n → has flags l ≡ false → ¬ MeetsUpper c m (point l)
unfolding is_possible_by
out_not_met c k m point S n flags clear same l lt h =
    clear (point l) (sym (flag_at (λ p. is_possible_with (outer_stack c k) (pos (reach_of c)) m p S) point n l lt) ∙ subst (λ x. has x l ≡ false) same h)

-- of the marks of a ray, where there is memory for them
pub ok_as : {T E : Type 0} (r : Result T E) (P Q : T → Type 0) → ((x : T) → P x → Q x) → IfOk r P → IfOk r Q
ok_as (Ok x) P Q then h = then x h
ok_as (Err e) P Q then h = tt
