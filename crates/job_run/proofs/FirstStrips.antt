-- Strips of a job that follow each other.
use Rattle.std.proofs.Common.{◌≡◌, ℕ, ◌+◌, ◌-◌, ◌<◌, List, [], ◌∷◌, ◌++◌, Some, length, get_or, arith, sym, ap, ◌∙◌}
use Rattle.std.proofs.Common.{length-append, subst}
use mathlib.Core.Logic.{dite}
use native.Mathlib.Decide.{dec_le}
use Rattle.std.proofs.lemmas.List.{get_or_append_left}
use Rattle.std.proofs.Math.Seq.{get_or-append_right}
use Rattle.std.proofs.lemmas.Option.{get_or_from_slice_get, slice_get-get_or, slice_get_within}
use Rattle.ray_grid.specs.Ranges.{IsGrid}
use Rattle.ray_grid.specs.Strips.{strips_of}
use Rattle.strip_journal.specs.Strips.{StripOf}
use Rattle.job_model.specs.Tasks.{Job, PlanOf}
use Rattle.job_run.specs.Strips.{AreAt, AreFirst, AreFrom, strip_with}

from_one : (job : Job) (done n : ℕ) (s : StripOf) → s ≡ strip_with job done n → AreFrom job done n (n + 1) (s ∷ [])
from_one job done n s is = record {
  many = omega arith;
  each = λ k t at.
      let low = slice_get_within (s ∷ []) k t at in
      let zero : k ≡ 0 = omega (arith, low) in
      let read = sym (ap (λ i. get_or (s ∷ []) i t) zero) ∙ get_or_from_slice_get (s ∷ []) k t t at in
      let number : n ≡ n + k = omega (arith, zero) in
      sym read ∙ is ∙ ap (strip_with job done) number;
}

-- those of two ranges, of which one begins where the other ends, are those of both
pub from_both : (job : Job) (done from next to : ℕ) (first rest : List StripOf) → AreFrom job done from next first
    → AreFrom job done next to rest → AreFrom job done from to (first ++ rest)
from_both job done from next to first rest low high = record {
  many = let size = length-append first rest in let front = low.many in let back = high.many in omega (arith, size, front, back);
  each = λ k s at.
      let within = slice_get_within (first ++ rest) k s at in
      let size = length-append first rest in
      let read = get_or_from_slice_get (first ++ rest) k s s at in
      let many = low.many in
      dite (dec_le (length first) k)
      (λ behind.
      let place : ℕ = k - length first in
      let inside : place < length rest = omega (arith, within, size, behind) in
      let there = sym (get_or-append_right first rest k s behind) ∙ read in
      let number : next + place ≡ from + k = omega (arith, many, behind) in
      high.each place s (slice_get-get_or rest place s inside ∙ ap Some there) ∙ ap (strip_with job done) number)
      (λ before.
      let inside : k < length first = omega (arith, before) in
      let there = sym (get_or_append_left first rest s k inside) ∙ read in
      low.each k s (slice_get-get_or first k s inside ∙ ap Some there));
}

-- one more
pub from_more : (job : Job) (done from n : ℕ) (strips : List StripOf) (s : StripOf) → AreFrom job done from n strips
    → s ≡ strip_with job done n → AreFrom job done from (n + 1) (strips ++ s ∷ [])
from_more job done from n strips s are is = from_both job done from n (n + 1) strips (s ∷ []) are (from_one job done n s is)

-- the same, where it was pushed
pub from_pushed : (job : Job) (done from n : ℕ) (strips all : List StripOf) (s : StripOf) → AreFrom job done from n strips
    → s ≡ strip_with job done n → all ≡ strips ++ s ∷ [] → AreFrom job done from (n + 1) all
from_pushed job done from n strips all s are is pushed =
    subst (λ (z : List StripOf). AreFrom job done from (n + 1) z) (sym pushed) (from_more job done from n strips s are is)

-- none yet
pub from_none : (job : Job) (done from : ℕ) (strips : List StripOf) → strips ≡ [] → AreFrom job done from from strips
from_none job done from strips none =
    subst (λ (z : List StripOf). AreFrom job done from from z) (sym none)
    (record { many = omega arith; each = λ k s at. let low = slice_get_within [] k s at in absurd (omega (arith, low)) })

-- those from number 0 on are the first ones
from_first : (job : Job) (done count : ℕ) (strips : List StripOf) → AreFrom job done 0 count strips → AreFirst job done count strips
from_first job done count strips are = record {
  many = let many = are.many in omega (arith, many);
  each = λ k s at. let number : 0 + k ≡ k = omega arith in are.each k s at ∙ ap (strip_with job done) number;
}

-- as many as the grid has are all of them
pub all_made : (plan : PlanOf) (job : Job) (count : ℕ) (strips : List StripOf) → job.plan ≡ plan → IsGrid plan.grid
    → count ≡ length (strips_of plan.grid) → AreFrom job 0 0 count strips → AreAt plan job 0 strips
all_made plan job count strips is valid many are = record {
  plan_is = is;
  grid = valid;
  first = subst (λ n. AreFirst job 0 n strips) many (from_first job 0 count strips are);
}
