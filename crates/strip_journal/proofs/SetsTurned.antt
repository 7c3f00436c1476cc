-- Rays whose changes were given, or taken away, have the sets of another version.
use Rattle.std.proofs.Common.{◌≡◌, ℕ, ◌<◌, All, Bool, true, false, not, List, length, arith, sym, ap, ◌∙◌, subst}
use Rattle.std.proofs.lemmas.List.{get_or_past}
use native.Mathlib.Decide.{dec_le}
use mathlib.Core.Logic.{dite}
use Rattle.vf_spans.specs.Members.{has}
use Rattle.dexel_rays.specs.Sets.{HaveBound}
use Rattle.job_model.specs.Tasks.{IsPlan, Job}
use Rattle.ray_words.specs.Rays.{IsBelow, KeptSets}
use Rattle.ray_words.specs.Rows.{kept_at}
use Rattle.strip_marks.specs.declared.change.WordChange.{WordChange}
use Rattle.strip_marks.specs.Marks.{IsChangeOn, among, points_at, possible_of, sets_of, sure_of}
use Rattle.strip_journal.specs.Entries.{was}
use Rattle.strip_journal.specs.Journals.{HasBodies, possible_at, sure_at}
use Rattle.strip_journal.specs.Steps.{AreRaysTurned, IsRayTurned}
use Rattle.strip_journal.proofs.KeptParts.{AreSetsAt}
use Rattle.strip_journal.proofs.MovesLeft.{sure_is_possible}

-- the bound of a ray's sets stays
turned_bound : (bound n : ℕ) (before after : KeptSets) (changes : List WordChange) (is_undo : Bool)
    → IsRayTurned before after changes n is_undo → HaveBound bound before.sets → HaveBound bound after.sets
turned_bound bound n before after changes is_undo t size = record {
  stock = ap (λ (s : List Bool). length s) t.stock ∙ size.stock;
  part = ap (λ (s : List Bool). length s) t.part ∙ size.part;
  fixture = ap (λ (s : List Bool). length s) t.fixture ∙ size.fixture;
  sure = t.sure_bound ∙ size.sure;
  possible = t.possible_bound ∙ size.possible;
}

-- and so do its bodies
turned_bodies : (job : Job) (strip n : ℕ) (before after : KeptSets) (changes : List WordChange) (is_undo : Bool)
    → IsRayTurned before after changes n is_undo → HasBodies job strip n before.sets → HasBodies job strip n after.sets
turned_bodies job strip n before after changes is_undo t bodies = record {
  stock = λ l at. ap (λ (s : List Bool). has s l) t.stock ∙ bodies.stock l at;
  part = λ l at. ap (λ (s : List Bool). has s l) t.part ∙ bodies.part l at;
  fixture = λ l at. ap (λ (s : List Bool). has s l) t.fixture ∙ bodies.fixture l at;
}

-- beyond the bound a set has no index
has_below : (set : List Bool) (bound l : ℕ) → length set ≡ bound → has set l ≡ true → l < bound
has_below set bound l size is =
    dite (dec_le bound l)
    (λ past.
    absurd
    (let none : has set l ≡ false = get_or_past set l false (omega (arith, past, size)) in
    let both : false ≡ true = sym none ∙ is in cc))
    (λ no. omega (arith, no))

-- the points that the changes lead from those of one version to those of another
pub record Leads (of : ℕ → ℕ → ℕ → Bool) (pick : WordChange → ℕ) (rays : ℕ) (points : ℕ → ℕ) (changes : List WordChange) (is_undo : Bool)
    (from to : ℕ) : Type 0 where
  pub each : (n l : ℕ) → n < rays → l < points n → was (not is_undo) (among pick changes n l) (of from n l) ≡ of to n l

-- the rays have the sets of that version then
pub turned_sets : (job : Job) (strip from to : ℕ) (before after : List KeptSets) (changes : List WordChange) (is_undo : Bool)
    → IsPlan job.plan → AreRaysTurned before after changes is_undo → AreSetsAt job strip from before
    → Leads (sure_at job strip) sure_of (length before) (points_at job.plan.grid strip) changes is_undo from to
    → Leads (possible_at job strip) possible_of (length before) (points_at job.plan.grid strip) changes is_undo from to
    → AreSetsAt job strip to after
turned_sets job strip from to before after changes is_undo valid turned old to_sure to_possible =
    let grid = job.plan.grid in
    let there : (n : ℕ) → n < length after → n < length before = λ n low. let many = turned.many in omega (arith, low, many) in
    let sure : (n l : ℕ) → n < length after → l < points_at grid strip n → has (sets_of after n).sure l ≡ sure_at job strip to n l =
    λ n l low at.
    (turned.each n (there n low)).sure l
    ∙ ap (λ b. was (not is_undo) (among sure_of changes n l) b) (old.sure n l (there n low) at) ∙ to_sure.each n l (there n low) at in
    let possible : (n l : ℕ) → n < length after → l < points_at grid strip n
    → has (sets_of after n).possible l ≡ possible_at job strip to n l =
    λ n l low at.
    (turned.each n (there n low)).possible l
    ∙ ap (λ b. was (not is_undo) (among possible_of changes n l) b) (old.possible n l (there n low) at)
    ∙ to_possible.each n l (there n low) at in
    let bounds : (n : ℕ) → n < length after → HaveBound (points_at grid strip n) (sets_of after n) = λ n low.
    turned_bound (points_at grid strip n) n (kept_at before n) (kept_at after n) changes is_undo (turned.each n (there n low))
    (old.rays.bounds n (there n low)) in
    record {
      rays = record {
        many = turned.many ∙ old.rays.many;
        bounds = bounds;
        possible = λ n l low is.
            let at : l < points_at grid strip n = has_below (sets_of after n).sure (points_at grid strip n) l (bounds n low).sure is in
            possible n l low at ∙ sure_is_possible job strip to n l valid (sym (sure n l low at) ∙ is);
      };
      bodies = λ n low.
          turned_bodies job strip n (kept_at before n) (kept_at after n) changes is_undo (turned.each n (there n low))
          (old.bodies n (there n low));
      sure = sure;
      possible = possible;
    }

-- the words that are kept and the stock stay, so that a change on the rays is one still
turned_change_on : (before after : List KeptSets) (changes : List WordChange) (is_undo : Bool) (change : WordChange)
    → AreRaysTurned before after changes is_undo → IsChangeOn before change → IsChangeOn after change
turned_change_on before after changes is_undo change turned on =
    let t = turned.each change.ray on.ray in
    let stock : length (sets_of before change.ray).stock ≡ length (sets_of after change.ray).stock =
    ap (λ (s : List Bool). length s) (sym t.stock) in
    record {
      ray = let many = turned.many in omega (arith, on.ray, many);
      kept =
          let kept = on.kept in
          record { from = omega (arith, kept.from, t.first); below = omega (arith, kept.below, t.first, t.count) };
      sure = subst (λ (b : ℕ). IsBelow b change.word change.sure) stock on.sure;
      possible = subst (λ (b : ℕ). IsBelow b change.word change.possible) stock on.possible;
    }

pub turned_on : (before after : List KeptSets) (changes : List WordChange) (is_undo : Bool) (all : List WordChange)
    → AreRaysTurned before after changes is_undo → All (IsChangeOn before) all → All (IsChangeOn after) all
turned_on before after changes is_undo all turned on i d low = turned_change_on before after changes is_undo _ turned (on i d low)
