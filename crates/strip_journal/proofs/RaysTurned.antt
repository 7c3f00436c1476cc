-- Rays of which changes were taken away, or given again.
use Rattle.std.proofs.Common.{◌≡◌, ℕ, ◌<◌, Bool, true, false, not, List, length, All, arith, sym, ap, ◌∙◌}
use Rattle.std.proofs.lemmas.Bool.{both_ways}
use Rattle.std.proofs.lemmas.List.{get_or_past}
use native.Mathlib.Decide.{dec_le}
use mathlib.Core.Logic.{dite}
use Rattle.vf_spans.specs.Members.{has}
use Rattle.dexel_rays.specs.Sets.{HaveBound}
use Rattle.ray_words.specs.Rays.{IsBelow, IsKept, KeptSets}
use Rattle.ray_words.specs.Rows.{kept_at}
use Rattle.job_model.specs.Tasks.{Job}
use Rattle.strip_marks.specs.declared.change.WordChange.{WordChange}
use Rattle.strip_marks.specs.Marks.{IsChangeOn, among, points_at, possible_of, sets_of, sure_of}
use Rattle.strip_journal.specs.Entries.{IsToggled, was}
use Rattle.strip_journal.specs.Journals.{HasBodies, possible_at, sure_at}
use Rattle.strip_journal.specs.Steps.{AreRaysTurned, IsRayTurned}
use Rattle.strip_journal.proofs.KeptParts.{AreSetsAt}

-- a ray keeps its bound
bound_turned : (bound : ℕ) (before after : KeptSets) (changes : List WordChange) (n : ℕ) (is_undo : Bool) → HaveBound bound before.sets
    → IsRayTurned before after changes n is_undo → HaveBound bound after.sets
bound_turned bound before after changes n is_undo h t = record {
  stock = ap length t.stock ∙ h.stock;
  part = ap length t.part ∙ h.part;
  fixture = ap length t.fixture ∙ h.fixture;
  sure = t.sure_bound ∙ h.sure;
  possible = t.possible_bound ∙ h.possible;
}

-- and its bodies
bodies_turned : (job : Job) (strip : ℕ) (before after : KeptSets) (changes : List WordChange) (n : ℕ) (is_undo : Bool)
    → HasBodies job strip n before.sets → IsRayTurned before after changes n is_undo → HasBodies job strip n after.sets
bodies_turned job strip before after changes n is_undo h t = record {
  stock = λ l low. ap (λ (s : List Bool). has s l) t.stock ∙ h.stock l low;
  part = λ l low. ap (λ (s : List Bool). has s l) t.part ∙ h.part l low;
  fixture = λ l low. ap (λ (s : List Bool). has s l) t.fixture ∙ h.fixture l low;
}

-- the words that are kept of it, and what may be set in them
kept_turned : (before after : KeptSets) (changes : List WordChange) (n : ℕ) (is_undo : Bool) (word : ℕ)
    → IsRayTurned before after changes n is_undo → IsKept before word → IsKept after word
kept_turned before after changes n is_undo word t h = record {
  from = omega (arith, t.first, h.from);
  below = omega (arith, t.first, t.count, h.below);
}

below_turned : (before after : KeptSets) (changes : List WordChange) (n : ℕ) (is_undo : Bool) (word bits : ℕ)
    → IsRayTurned before after changes n is_undo → IsBelow (length before.sets.stock) word bits
    → IsBelow (length after.sets.stock) word bits
below_turned before after changes n is_undo word bits t h = λ b low set.
    let same = ap length t.stock in let old = h b low set in omega (arith, same, old)

pub change_turned : (before after : List KeptSets) (changes : List WordChange) (is_undo : Bool) (change : WordChange)
    → AreRaysTurned before after changes is_undo → IsChangeOn before change → IsChangeOn after change
change_turned before after changes is_undo change t h =
    let one = t.each change.ray h.ray in
    record {
      ray = omega (arith, t.many, h.ray);
      kept = kept_turned _ _ changes change.ray is_undo change.word one h.kept;
      sure = below_turned _ _ changes change.ray is_undo change.word change.sure one h.sure;
      possible = below_turned _ _ changes change.ray is_undo change.word change.possible one h.possible;
    }

-- changes that are on the rays stay so
pub changes_turned : (before after : List KeptSets) (changes all : List WordChange) (is_undo : Bool)
    → AreRaysTurned before after changes is_undo → All (IsChangeOn before) all → All (IsChangeOn after) all
changes_turned before after changes all is_undo t h = λ k d low. change_turned before after changes is_undo _ t (h k d low)

-- the points of the newest sets are those of the next version, where the changes lead there
pub marked_turned : (job : Job) (strip done next : ℕ) (before after : List KeptSets) (changes : List WordChange) (is_undo : Bool)
    → AreSetsAt job strip done before → AreRaysTurned before after changes is_undo
    → ((n l : ℕ) → sure_at job strip next n l ≡ true → possible_at job strip next n l ≡ true)
    → ((n l : ℕ) → n < length before → l < points_at job.plan.grid strip n
    → IsToggled is_undo (sure_at job strip done n l) (sure_at job strip next n l) (among sure_of changes n l))
    → ((n l : ℕ) → n < length before → l < points_at job.plan.grid strip n
    → IsToggled is_undo (possible_at job strip done n l) (possible_at job strip next n l) (among possible_of changes n l))
    → AreSetsAt job strip next after
marked_turned job strip done next before after changes is_undo h t more turn_sure turn_possible =
    let bounds : (n : ℕ) → n < length before → HaveBound (points_at job.plan.grid strip n) (sets_of after n) =
    λ n low. bound_turned _ (kept_at before n) (kept_at after n) changes n is_undo (h.rays.bounds n low) (t.each n low) in
    let sure : (n l : ℕ) → n < length before → l < points_at job.plan.grid strip n
    → has (sets_of after n).sure l ≡ sure_at job strip next n l =
    λ n l ray point.
    (t.each n ray).sure l
    ∙ ap (was (not is_undo) (among sure_of changes n l)) (h.sure n l ray point)
    ∙ sym (turn_sure n l ray point).forth in
    let possible : (n l : ℕ) → n < length before → l < points_at job.plan.grid strip n
    → has (sets_of after n).possible l ≡ possible_at job strip next n l =
    λ n l ray point.
    (t.each n ray).possible l
    ∙ ap (was (not is_undo) (among possible_of changes n l)) (h.possible n l ray point)
    ∙ sym (turn_possible n l ray point).forth in
    record {
      rays = record {
        many = t.many ∙ h.rays.many;
        bounds = λ n low. bounds n (omega (arith, t.many, low));
        possible = λ n l low set.
            let ray : n < length before = omega (arith, t.many, low) in
            dite (dec_le (points_at job.plan.grid strip n) l)
            (λ past.
            let none : has (sets_of after n).sure l ≡ false =
            get_or_past (sets_of after n).sure l false (let size = (bounds n ray).sure in omega (arith, size, past)) in
            absurd (both_ways (has (sets_of after n).sure l) none set))
            (λ point.
            let within : l < points_at job.plan.grid strip n = omega (arith, point) in
            possible n l ray within ∙ more n l (sym (sure n l ray within) ∙ set));
      };
      bodies = λ n low.
          let ray : n < length before = omega (arith, t.many, low) in
          bodies_turned job strip (kept_at before n) (kept_at after n) changes n is_undo (h.bodies n ray) (t.each n ray);
      sure = λ n l low point. sure n l (omega (arith, t.many, low)) point;
      possible = λ n l low point. possible n l (omega (arith, t.many, low)) point;
    }
