-- Each strip that is pushed is the next one of the plan.
use Rattle.std.proofs.Common.{◌≡◌, ℕ, ◌+◌, ◌<◌, List, [], ◌∷◌, ◌++◌, Some, length, get_or, length-append, arith, sym, ap, ◌∙◌}
use mathlib.Core.Logic.{dite}
use native.Mathlib.Decide.{dec_le}
use Rattle.std.specs.List.{slice_get}
use Rattle.std.proofs.lemmas.List.{get_or_append_left}
use Rattle.std.proofs.Math.Seq.{get_or-append_seam}
use Rattle.std.proofs.lemmas.Option.{get_or_from_slice_get, slice_get-get_or, slice_get_within}
use Rattle.job_model.specs.Tasks.{PlanOf}
use Rattle.strip_journal.specs.Strips.{StripOf}
use Rattle.sample_job.proofs.fresh.strips_by.Goals as goal

-- a strip of the plan with this number
record IsNumbered (plan : PlanOf) (k : ℕ) (s : StripOf) : Type 0 where
  pub plan_is : s.job.plan ≡ plan
  pub number_is : s.number ≡ k

one_more : (plan : PlanOf) (strips : List StripOf) (s : StripOf)
    → ((k : ℕ) (t : StripOf) → slice_get strips k ≡ Some t → IsNumbered plan k t)
    → IsNumbered plan (length strips) s → (k : ℕ) (t : StripOf) → slice_get (strips ++ s ∷ []) k ≡ Some t → IsNumbered plan k t
one_more plan strips s old is k t at =
    let low = slice_get_within (strips ++ s ∷ []) k t at in
    let size = length-append strips (s ∷ []) in
    let read = get_or_from_slice_get (strips ++ s ∷ []) k t t at in
    dite (dec_le (length strips) k)
    (λ last.
    let here : k ≡ length strips = omega (arith, low, size, last) in
    let end = sym (get_or-append_seam strips s [] t) ∙ sym (ap (λ i. get_or (strips ++ s ∷ []) i t) here) ∙ read in
    record {
      plan_is = ap (λ (u : StripOf). u.job.plan) (sym end) ∙ is.plan_is;
      number_is = ap (λ (u : StripOf). u.number) (sym end) ∙ is.number_is ∙ sym here;
    })
    (λ before.
    let inside : k < length strips = omega (arith, before) in
    let there = sym (get_or_append_left strips (s ∷ []) t k inside) ∙ read in
    old k t (slice_get-get_or strips k t inside ∙ ap Some there))

pub loop-number-preserved : goal.loop-number-preserved
loop-number-preserved g c =
    let old = λ (k : ℕ) (t : StripOf) (at : slice_get c.loop-number.strips.items k ≡ Some t).
    let is : IsNumbered c.args.plan.now k t = record {
      plan_is = c.loop-number.invariant.plans k t at;
      number_is = c.loop-number.invariant.numbers k t at;
    } in is in
    let next : IsNumbered c.args.plan.now (length c.loop-number.strips.items) c.in_ok-fresh.field-0 = record {
      plan_is = ap (λ (u : StripOf). u.job.plan) c.in_ok-fresh.ensures;
      number_is = ap (λ (u : StripOf). u.number) c.in_ok-fresh.ensures ∙ sym c.loop-number.invariant.many;
    } in
    let all = λ (k : ℕ) (t : StripOf) (at : slice_get c.push.new.self.items k ≡ Some t).
    one_more c.args.plan.now c.loop-number.strips.items c.in_ok-fresh.field-0 old next k t
    (sym (ap (λ (z : List StripOf). slice_get z k) c.in_ok-push.ensures.items) ∙ at) in
    record {
      many = ap (λ (z : List StripOf). length z) c.in_ok-push.ensures.items
          ∙ length-append c.loop-number.strips.items (c.in_ok-fresh.field-0 ∷ [])
          ∙ ap (λ n. n + 1) c.loop-number.invariant.many;
      plans = λ k t at. (all k t at).plan_is;
      numbers = λ k t at. (all k t at).number_is;
    }

pub fresh-requires-clause-stock : goal.fresh-requires-clause-stock
fresh-requires-clause-stock g c = c.requires.stock

pub fresh-requires-clause-part : goal.fresh-requires-clause-part
fresh-requires-clause-part g c = c.requires.others

pub fresh-requires-clause-fixture : goal.fresh-requires-clause-fixture
fresh-requires-clause-fixture g c = c.requires.others
