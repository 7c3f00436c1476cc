-- A run of edits that leave the strip alone: each is added to those that are left, and nothing else changes.
use Rattle.std.proofs.Common.{◌≡◌, ◌∙◌, ℕ, zero, suc, ◌+◌, ◌<◌, ◌≤◌, List, [], ◌∷◌, ◌++◌, length, take, ap, arith, refl, subst, sym}
use Rattle.std.specs.List.{range_with_len}
use Rattle.std.proofs.lemmas.List.{append_assoc, length-append, length-take-le, take_all}
use Rattle.job_model.specs.Tasks.{PlanOf}
use Rattle.strip_plan.specs.Untouched.{ArePassed, IsPassed}
use Rattle.strip_journal.specs.declared.journal.Journal.{Journal}
use Rattle.strip_journal.specs.Journals.{IsAt, IsJournal, job_of}
use Rattle.strip_journal.specs.Steps.{IsStood, IsStoodBy}
use Rattle.strip_journal.proofs.Unentered.{stands_apply, unentered_at}

-- the journal after one of them
abbrev one_more : Journal → Journal
one_more j = record j { line = take j.at j.line ++ j.done ∷ []; at = j.at + 1; done = j.done + 1 }

one_stood : (j : Journal) → IsStood j (one_more j)
one_stood j = record {
  strip = record { job = refl; number = refl; of = refl };
  rays = refl;
  changes = refl;
  entries = refl;
  line = refl;
  at = refl;
  done = refl;
}

one_at : (plan : PlanOf) (j l : Journal) → IsJournal (job_of j) j → j.plan.value ≡ plan → IsPassed plan j.number j.done → IsStood j l
    → IsAt j l (j.done + 1)
one_at plan j l h plan_is passed stood =
    unentered_at plan j l passed.number 0 0 h plan_is passed.applies passed.low refl (omega arith) passed.alone stood

-- the others follow that one
others_stood : (j l : Journal) (count : ℕ) → j.at ≤ length j.line → IsStoodBy j l (suc count) → IsStoodBy (one_more j) l count
others_stood j l count left by =
    let first : List ℕ = take j.at j.line ++ j.done ∷ [] in
    let size : length first ≤ j.at + 1 = omega (arith, length-append (take j.at j.line) (j.done ∷ []), length-take-le j.at j.line left) in
    record {
      strip = record { job = by.strip.job; number = by.strip.number; of = by.strip.of };
      rays = by.rays;
      changes = by.changes;
      entries = by.entries;
      line =
          by.line
          ∙ sym (append_assoc (take j.at j.line) (j.done ∷ []) (range_with_len (j.done + 1) count))
          ∙ ap (λ (l : List ℕ). l ++ range_with_len (j.done + 1) count) (sym (take_all (j.at + 1) first size));
      at = let at = by.at in omega (arith, at);
      done = let done = by.done in omega (arith, done);
    }

-- the journal after all of them, one at least
stood_by_at : (count : ℕ) (plan : PlanOf) (j l : Journal) → IsJournal (job_of j) j → j.plan.value ≡ plan
    → ArePassed plan j.number j.done (suc count) → IsStoodBy j l (suc count) → IsAt j l (j.done + suc count)
stood_by_at zero plan j l h plan_is passed by =
    let here : j.done + 0 ≡ j.done = omega arith in
    one_at plan j l h plan_is (subst (IsPassed plan j.number) here (passed 0 (omega arith)))
    (record { strip = by.strip; rays = by.rays; changes = by.changes; entries = by.entries; line = by.line; at = by.at; done = by.done })
stood_by_at (suc count) plan j l h plan_is passed by =
    let here : j.done + 0 ≡ j.done = omega arith in
    let first : IsPassed plan j.number j.done = subst (IsPassed plan j.number) here (passed 0 (omega arith)) in
    let one : IsAt j (one_more j) (j.done + 1) = one_at plan j (one_more j) h plan_is first (one_stood j) in
    let left = (stands_apply plan j first.number h plan_is first.applies).left in
    let behind = λ (k : ℕ) (low : k < suc count).
    let there : j.done + suc k ≡ j.done + 1 + k = omega arith in
    subst (IsPassed plan j.number) there (passed (suc k) (omega (arith, low))) in
    let all = stood_by_at count plan (one_more j) l one.journal plan_is behind (others_stood j l (suc count) left by) in
    record { journal = all.journal; job = all.job; number = all.number; done_is = by.done }

-- the journal after a run
pub passed_at : (count : ℕ) (plan : PlanOf) (j l : Journal) → IsJournal (job_of j) j → j.plan.value ≡ plan → 0 < count
    → ArePassed plan j.number j.done count → IsStoodBy j l count → IsAt j l (j.done + count)
passed_at zero plan j l h plan_is some passed by = absurd (omega (arith, some))
passed_at (suc count) plan j l h plan_is some passed by = stood_by_at count plan j l h plan_is passed by
