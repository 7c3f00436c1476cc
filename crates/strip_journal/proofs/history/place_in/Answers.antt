use Rattle.std.proofs.Common.{◌≡◌, ℕ, ◌<◌, length, slice_index, Option, MatchOption, sym, subst}
use Rattle.strip_journal.proofs.EditHistories.{found_in}
use Rattle.strip_journal.proofs.history.place_in.Goals as goal

pub returns : goal.returns
returns c =
    let edits = c.args.edits.now in
    subst
    (λ (place : Option ℕ). MatchOption place ((k : ℕ) → k < length edits → slice_index edits k ≡ c.args.edit → ⊥)
    (λ k. (k < length edits) × (slice_index edits k ≡ c.args.edit)))
    (sym c.ok.ensures.value) (found_in edits c.args.edit c.binary_search.result c.requires c.binary_search.ensures.position)
