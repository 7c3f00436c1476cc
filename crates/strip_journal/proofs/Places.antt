-- What a binary search among the entries, and among the line, finds.
use Rattle.std.proofs.Common.{◌≡◌, ℕ, ◌<◌, List, length, arith, ap, ◌∙◌}
use native.Mathlib.Decide.{dec_le}
use mathlib.Core.Logic.{dite}
use Rattle.strip_journal.specs.declared.entry.Entry.{Entry}
use Rattle.strip_journal.specs.Entries.{AreAscending, HasNo, IsFirstEntryFrom, edit_at}

-- an edit that isn't that of the entry at its place has no entry
pub entry_missing : (entries : List Entry) (edit place : ℕ) → AreAscending entries → IsFirstEntryFrom entries edit place
    → (place < length entries → edit_at entries place ≡ edit → ⊥) → HasNo entries edit
entry_missing entries edit place ascend is other q few same =
    dite (dec_le place q)
    (λ from.
    dite (dec_le q place)
    (λ here.
    let there : edit_at entries place ≡ edit = let e : place ≡ q = omega (arith, from, here) in ap (edit_at entries) e ∙ same in
    other (omega (arith, from, few)) there)
    (λ later.
    let order = ascend.each place q (omega (arith, later)) few in
    let behind = is.behind place (omega arith) (omega (arith, from, few)) in omega (arith, order, behind, same)))
    (λ sooner. let ahead = is.ahead q (omega (arith, sooner)) in omega (arith, ahead, same))
