-- The moves that are left, one more reported at a time.
use Rattle.std.proofs.Common.{◌≡◌, ℕ, ◌+◌, ◌<◌, List, [], ◌∷◌, ◌++◌, Some, length, get_or, arith, sym, ap, ◌∙◌, subst, length-append}
use mathlib.Core.Logic.{dite}
use native.Mathlib.Decide.{dec_le}
use Rattle.std.specs.List.{All}
use Rattle.std.proofs.lemmas.List.{get_or_append_left}
use Rattle.std.proofs.Math.Seq.{get_or-append_seam}
use Rattle.std.proofs.lemmas.Option.{get_or_from_slice_get, slice_get-get_or, slice_get_within}
use Rattle.edit_plan.specs.Edits.{left_of}
use Rattle.job_model.specs.Tasks.{PlanOf}
use Rattle.job_run.specs.declared.left.LeftMove.{LeftMove}
use Rattle.job_run.specs.Left.{AreFirstTold, AreTold, IsTold}
use Rattle.job_report.specs.Tasks.{IsBelow}

pub told_more : (plan : PlanOf) (numbers : List ℕ) (n : ℕ) (told : List LeftMove) (one : LeftMove) → AreFirstTold plan numbers n told
    → IsTold plan (get_or numbers n 0) one → AreFirstTold plan numbers (n + 1) (told ++ one ∷ [])
told_more plan numbers n told one first is = record {
  many = let size = length-append told (one ∷ []) in let many = first.many in omega (arith, size, many);
  each = λ j t at.
      let low = slice_get_within (told ++ one ∷ []) j t at in
      let size = length-append told (one ∷ []) in
      let read = get_or_from_slice_get (told ++ one ∷ []) j t t at in
      dite (dec_le (length told) j)
      (λ last.
      let here : j ≡ length told = omega (arith, low, size, last) in
      let end = sym (get_or-append_seam told one [] t) ∙ sym (ap (λ i. get_or (told ++ one ∷ []) i t) here) ∙ read in
      subst (λ i. IsTold plan (get_or numbers i 0) t) (sym (here ∙ first.many)) (subst (IsTold plan (get_or numbers n 0)) end is))
      (λ before.
      let inside : j < length told = omega (arith, before) in
      let old = sym (get_or_append_left told (one ∷ []) t j inside) ∙ read in
      first.each j t (slice_get-get_or told j t inside ∙ ap Some old));
}

-- where all are reported that are left, these are the moves that are left
pub all_told : (plan : PlanOf) (numbers read : List ℕ) (told : List LeftMove) → read ≡ numbers → numbers ≡ left_of plan.edits
    → All (IsBelow (length plan.moves)) numbers → AreFirstTold plan read (length read) told → AreTold plan told
all_told plan numbers read told same left named first = record {
  named = subst (All (IsBelow (length plan.moves))) left named;
  all = subst (λ l. AreFirstTold plan l (length l) told) (same ∙ left) first;
}
