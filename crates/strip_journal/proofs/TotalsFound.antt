-- The totals at a version are those that are kept before its place.
use Rattle.std.proofs.Common.{◌≡◌, ℕ, ◌≤◌, refl, ◌∙◌}
use Rattle.job_counts.specs.declared.totals.Totals.{Totals}
use Rattle.job_model.specs.Points.{left_moves, strip_points, totals_over}
use Rattle.strip_journal.specs.declared.journal.Journal.{Journal}
use Rattle.strip_journal.specs.Entries.{IsFirstEntryFrom, possible_ahead, removed_ahead}
use Rattle.strip_journal.specs.Journals.{IsJournal, job_of}
use Rattle.strip_journal.proofs.Ahead.{possible_totals_ahead_are, totals_ahead_are}

-- totals are the same where their three numbers are
by_numbers : (totals : Totals) (removed possible of : ℕ) → removed ≡ totals.removed → possible ≡ totals.possible → of ≡ totals.of
    → ◌≡◌ {A = Totals} (record { removed = removed; possible = possible; of = of }) totals
by_numbers totals removed possible of first second third = rw (first, second, third) refl

pub totals_are : (j : Journal) (version place removed possible of : ℕ) → IsJournal (job_of j) j → version ≤ j.done
    → IsFirstEntryFrom j.entries.items version place → removed ≡ removed_ahead j.entries.items place
    → possible ≡ possible_ahead j.entries.items place → of ≡ j.of
    → ◌≡◌ {A = Totals} (record { removed = removed; possible = possible; of = of })
    (totals_over (job_of j) (strip_points j.plan.value.grid j.number) (left_moves j.plan.value version))
totals_are j version place removed possible of h within is first second third =
    by_numbers (totals_over (job_of j) (strip_points j.plan.value.grid j.number) (left_moves j.plan.value version)) removed possible of
    (first ∙ totals_ahead_are j version place h is within) (second ∙ possible_totals_ahead_are j version place h is within) (third ∙ h.of)
