-- A journal with the same sets and the same edits is one of the same strip.
use Rattle.std.proofs.Common.{◌≡◌, ℕ, ◌<◌, List, length, arith, sym, ap, ◌∙◌, subst}
use Rattle.vf_spans.specs.Members.{has}
use Rattle.ray_grid.specs.Grids.{GridSize}
use Rattle.dexel_rays.specs.Sets.{HaveBound, Sets}
use Rattle.ray_words.specs.Rays.{IsBelow, KeptSets}
use Rattle.job_model.specs.Tasks.{Job}
use Rattle.strip_marks.specs.declared.change.WordChange.{WordChange}
use Rattle.strip_marks.specs.Marks.{AreRays, HaveSameSets, IsChangeOn, points_at, possible_of, sure_of}
use Rattle.strip_journal.specs.declared.journal.Journal.{Journal}
use Rattle.strip_journal.specs.Journals.{HasBodies, IsJournal, job_of, possible_at, sure_at}
use Rattle.strip_journal.specs.Steps.{HasSameEdits}
use Rattle.strip_journal.proofs.KeptParts.{AreSetsAt, IsHeld, Parts, held_of, journal_by, parts_of}
use Rattle.strip_journal.proofs.Tracking.{tracked_rays}

-- the same sets are rays of the strip
same_rays : (grid : GridSize) (strip : ℕ) (before after : List KeptSets) → HaveSameSets before after → AreRays grid strip before
    → AreRays grid strip after
same_rays grid strip before after same rays = record {
  many = same.many ∙ rays.many;
  bounds = λ n low.
      let old : n < length before = omega (arith, low, same.many) in
      subst (λ (d : Sets). HaveBound (points_at grid strip n) d) (sym (same.sets n old)) (rays.bounds n old);
  possible = λ n l low sure.
      let old : n < length before = omega (arith, low, same.many) in
      ap (λ (d : Sets). has d.possible l) (same.sets n old)
      ∙ rays.possible n l old (ap (λ (d : Sets). has d.sure l) (sym (same.sets n old)) ∙ sure);
}

-- and have the points that are sure and possible at the same version
pub same_sets_at : (job : Job) (strip done : ℕ) (before after : List KeptSets) → HaveSameSets before after → AreSetsAt job strip done before
    → AreSetsAt job strip done after
same_sets_at job strip done before after same sets = record {
  rays = same_rays job.plan.grid strip before after same sets.rays;
  bodies = λ n low.
      let old : n < length before = omega (arith, low, same.many) in
      subst (λ (d : Sets). HasBodies job strip n d) (sym (same.sets n old)) (sets.bodies n old);
  sure = λ n l low point.
      let old : n < length before = omega (arith, low, same.many) in
      ap (λ (d : Sets). has d.sure l) (same.sets n old) ∙ sets.sure n l old point;
  possible = λ n l low point.
      let old : n < length before = omega (arith, low, same.many) in
      ap (λ (d : Sets). has d.possible l) (same.sets n old) ∙ sets.possible n l old point;
}

-- a change on rays is one on rays with the same sets
pub same_change_on : (before after : List KeptSets) (change : WordChange) → HaveSameSets before after → IsChangeOn before change
    → IsChangeOn after change
same_change_on before after change same on = record {
  ray = omega (arith, on.ray, same.many);
  kept = same.kept change.ray change.word on.ray on.kept;
  sure = subst (λ (d : Sets). IsBelow (length d.stock) change.word change.sure) (sym (same.sets change.ray on.ray)) on.sure;
  possible = subst (λ (d : Sets). IsBelow (length d.stock) change.word change.possible) (sym (same.sets change.ray on.ray)) on.possible;
}

-- what is held stays that of the strip when the rays have the same sets
pub same_held : (job : Job) (p : Parts) (after : List KeptSets) → HaveSameSets p.rays after → IsHeld job p
    → IsHeld job (record p { rays = after })
same_held job p after same h = record {
  valid = h.valid;
  grid = h.grid;
  strip = h.strip;
  few = h.few;
  named = h.named;
  within = h.within;
  line = h.line;
  newest = same_sets_at job p.number p.done p.rays after same h.newest;
  of = h.of;
  kept = h.kept;
  sorted = h.sorted;
  on = λ i d low. same_change_on p.rays after _ same (h.on i d low);
  few_changes = h.few_changes;
  tracked_sure =
      tracked_rays (sure_at job p.number) sure_of (length p.rays) (length after) (points_at job.plan.grid p.number) p.changes p.entries
      p.done same.many h.tracked_sure;
  tracked_possible =
      tracked_rays (possible_at job p.number) possible_of (length p.rays) (length after) (points_at job.plan.grid p.number) p.changes
      p.entries p.done same.many h.tracked_possible;
  totals = h.totals;
  found = h.found;
}

-- a journal with the same sets and the same edits
pub same_journal : (j k : Journal) → IsJournal (job_of j) j → HaveSameSets j.rays k.rays → HasSameEdits j k
    → IsJournal (job_of k) k
same_journal j k h same edits =
    let p : Parts = record (parts_of j) { rays = k.rays } in
    let holds : parts_of k ≡ p = λ i. record {
      number = edits.strip.number i;
      of = edits.strip.of i;
      rays = k.rays;
      changes = edits.changes i;
      entries = edits.entries i;
      line = edits.line i;
      at = edits.at i;
      done = edits.done i;
    } in
    journal_by (job_of j) k p edits.strip.job holds (same_held (job_of j) (parts_of j) k.rays same (held_of (job_of j) j h))

-- what two steps one after the other keep of the edits, both keep
pub same_edits_through : (j m k : Journal) → HasSameEdits j m → HasSameEdits m k → HasSameEdits j k
same_edits_through j m k first second = record {
  strip = record {
    job = second.strip.job ∙ first.strip.job;
    number = second.strip.number ∙ first.strip.number;
    of = second.strip.of ∙ first.strip.of;
  };
  changes = second.changes ∙ first.changes;
  entries = second.entries ∙ first.entries;
  line = second.line ∙ first.line;
  at = second.at ∙ first.at;
  done = second.done ∙ first.done;
}
