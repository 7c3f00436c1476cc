use Rattle.std.proofs.Common.{◌≡◌, ◌≤◌, ◌∙◌, ℕ, rules, sym}
use Rattle.std.proofs.lemmas.Result.{IfOk-weaker}
use Rattle.std.proofs.lemmas.List.Sorted.{IsNonDecreasingBy-from_sort_by_key, All-permutation, list_any-IsPermutation}
use Rattle.vf_spans.specs.Members.{has}
use Rattle.ray_shapes.specs.declared.half_line.IndexRange.{IndexRange}
use Rattle.ray_shapes.specs.Parts.{is_in, covers_some}
use Rattle.ray_shapes.proofs.fill.cover.Goals as goal

pub join-requires-clause-order : goal.join-requires-clause-order
join-requires-clause-order c = IsNonDecreasingBy-from_sort_by_key (λ (part : IndexRange). part.lo) _ c.sort_unstable_by_key.ensures.sorted (λ a r f' k. search rules)

pub join-requires-clause-within : goal.join-requires-clause-within
join-requires-clause-within c = All-permutation (λ (part : IndexRange). part.hi ≤ c.args.bound) _ _ c.sort_unstable_by_key.ensures.permutation c.requires

pub returns-clause-covered : goal.returns-clause-covered
returns-clause-covered c =
    IfOk-weaker c.join.result (λ s. (i : ℕ) → has s i ≡ covers_some c.sort_unstable_by_key.new.self i) (λ s. (i : ℕ) → has s i ≡ covers_some c.args.parts.now i)
    (λ s h i. h i ∙ sym (list_any-IsPermutation (is_in i) _ _ c.sort_unstable_by_key.ensures.permutation)) c.join.ensures.covered
