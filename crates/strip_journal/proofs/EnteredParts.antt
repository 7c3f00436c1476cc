-- What a strip holds after a move was entered: with its entry, or, where it changes and finds nothing, without one.
use Rattle.std.proofs.Common.{◌≡◌, ℕ, ◌+◌, ◌^◌, ◌<◌, ◌≤◌, ◌==◌, true, false, Bool, All, ◌&&◌, List, [], ◌∷◌, ◌++◌, length, take, Some, slice_get, slice_index, arith, length-append, refl, sym, ap, ◌∙◌, subst}
use Rattle.std.proofs.lemmas.Bool.{and_parts, cond_both, eqb-true}
use Rattle.std.proofs.lemmas.List.{nil_from_length}
use Rattle.std.proofs.lemmas.List.Elements.{All-append}
use Rattle.std.proofs.lemmas.Option.{same_Some, slice_get_within}
use Rattle.edit_plan.specs.declared.edit.Edit.TheVariants.{Apply}
use Rattle.edit_history.specs.Histories.{History, applied_by, history_at, move_of}
use Rattle.edit_history.proofs.HistoryOrder.{at_within, numbers_below}
use Rattle.edit_history.proofs.HistorySteps.{history_applied}
use Rattle.job_counts.specs.declared.counts.Counts.{Counts}
use Rattle.job_counts.specs.Counts.{no_counts}
use Rattle.job_model.specs.Points.{left_moves, strip_points, totals_over}
use Rattle.job_model.specs.Tasks.{Job, JobMove}
use Rattle.ray_words.specs.Rays.{KeptSets}
use Rattle.strip_plan.specs.Plans.{HasNumber}
use Rattle.strip_marks.specs.declared.change.WordChange.{WordChange}
use Rattle.strip_marks.specs.Marks.{AreInOrder, IsChangeOn, among, points_at, possible_of, sure_of}
use Rattle.strip_journal.specs.declared.entry.Entry.{Entry}
use Rattle.strip_journal.specs.Entries.{AreEntries, IsFirstEntryFrom, changes_of, entry_at, hits_of, possible_ahead, removed_ahead}
use Rattle.strip_journal.specs.Journals.{AreFound, HaveTotals, MatchesEntries, found_at, possible_at, sure_at}
use Rattle.strip_journal.specs.Steps.{AreRaysTurned, does_nothing, noted}
use Rattle.strip_journal.proofs.Ahead.{possible_ahead_is, possible_by, possible_total, removed_ahead_is, removed_by, sure_total}
use Rattle.strip_journal.proofs.EntryAdded.{kept_noted, kept_unnoted, sorted_noted, sorted_unnoted, totals_noted}
use Rattle.strip_journal.proofs.FoundAdded.{IsFoundFor, each_edit, found_each, found_from, found_noted, found_still, found_unnoted}
use Rattle.strip_journal.proofs.KeptParts.{IsHeld, Parts}
use Rattle.strip_journal.proofs.MovesLeft.{moves_more}
use Rattle.strip_journal.proofs.NewMarks.{AreMarked, AreNew, new_leads, new_turns_as, none_new, possible_new, possible_stock, sure_new, sure_stock}
use Rattle.strip_journal.proofs.Noting.{range_new}
use Rattle.strip_journal.proofs.PointTotals.{possible_more, removed_more}
use Rattle.strip_journal.proofs.SetsTurned.{turned_on, turned_sets}
use Rattle.strip_journal.proofs.Tracking.{tracked_noted, tracked_rays, tracked_unnoted}

-- the entry of a move with these changes and counts
abbrev pub new_entry : Parts → List WordChange → Counts → Entry
new_entry p changes counts = record {
  edit = p.done;
  from = length p.changes;
  to = length p.changes + length changes;
  is_undo = false;
  hits = hits_of counts;
  removed = removed_ahead p.entries (length p.entries) + counts.removed;
  possible = possible_ahead p.entries (length p.entries) + counts.possible;
}

-- what is held after it was entered and is in the line
abbrev pub entered_parts : Parts → List KeptSets → List WordChange → Counts → Parts
entered_parts p after changes counts = record {
  number = p.number;
  of = p.of;
  rays = after;
  changes = p.changes ++ changes;
  entries = noted (does_nothing changes counts) p.entries (new_entry p changes counts);
  line = take p.at p.line ++ p.done ∷ [];
  at = p.at + 1;
  done = p.done + 1;
}

-- a move that the next edit applies, with what it changes and finds on the strip
pub record IsNextMove (job : Job) (p : Parts) (number : ℕ) (move : JobMove) (changes : List WordChange) (counts : Counts) : Type 0 where
  pub applies : slice_get job.plan.edits p.done ≡ Some (Apply number)
  pub named : HasNumber job.plan number move
  pub marked : AreMarked job p.number p.done (length p.rays) move changes
  pub on : All (IsChangeOn p.rays) changes
  pub order : AreInOrder changes
  pub found : counts ≡ found_at job p.number p.done move
  pub few : length p.changes + length changes < 2 ^ 32

-- what is held of the edits, of `rays` rays
pub record HoldsEdits (job : Job) (number rays : ℕ) (changes : List WordChange) (line : List ℕ) (done : ℕ) (entries : List Entry) : Type 0
  where
    pub kept : AreEntries entries (length changes) done
    pub sorted : (i : ℕ) → i < length entries → AreInOrder (changes_of changes (entry_at entries i))
    pub tracked_sure : MatchesEntries (sure_at job number) sure_of rays (points_at job.plan.grid number) changes entries done
    pub tracked_possible : MatchesEntries (possible_at job number) possible_of rays (points_at job.plan.grid number) changes entries done
    pub totals : HaveTotals job number entries
    pub found : AreFound job number line entries

-- the totals rise by what the move finds
pub removed_step : (job : Job) (strip v number : ℕ) (move : JobMove) → slice_get job.plan.edits v ≡ Some (Apply number)
    → HasNumber job.plan number move
    → removed_by job strip (v + 1) ≡ removed_by job strip v + (found_at job strip v move).removed
removed_step job strip v number move applies named =
    let points = strip_points job.plan.grid strip in
    ap (λ (moves : List JobMove). (totals_over job points moves).removed) (moves_more job.plan v number move applies named)
    ∙ removed_more job points (left_moves job.plan v) move

pub possible_step : (job : Job) (strip v number : ℕ) (move : JobMove) → slice_get job.plan.edits v ≡ Some (Apply number)
    → HasNumber job.plan number move
    → possible_by job strip (v + 1) ≡ possible_by job strip v + (found_at job strip v move).possible
possible_step job strip v number move applies named =
    let points = strip_points job.plan.grid strip in
    ap (λ (moves : List JobMove). (totals_over job points moves).possible) (moves_more job.plan v number move applies named)
    ∙ possible_more job points (left_moves job.plan v) move

-- all entries are before the edit that comes next
pub at_end : (entries : List Entry) (changes done : ℕ) → AreEntries entries changes done → IsFirstEntryFrom entries done (length entries)
at_end entries changes done kept = record {
  within = omega arith;
  ahead = kept.early;
  behind = λ i from low. absurd (omega (arith, from, low));
}

-- the totals of the new entry are those after its edit
removed_is : (job : Job) (p : Parts) (number : ℕ) (move : JobMove) (changes : List WordChange) (counts : Counts) → IsHeld job p
    → IsNextMove job p number move changes counts
    → (new_entry p changes counts).removed ≡ removed_by job p.number (p.done + 1)
removed_is job p number move changes counts h next =
    let ahead : removed_ahead p.entries (length p.entries) ≡ removed_by job p.number p.done =
    removed_ahead_is job p p.done (length p.entries) h (at_end p.entries (length p.changes) p.done h.kept) (omega arith) in
    let found : counts.removed ≡ (found_at job p.number p.done move).removed = ap (λ (c : Counts). c.removed) next.found in
    let step = removed_step job p.number p.done number move next.applies next.named in
    omega (arith, ahead, found, step)

possible_is : (job : Job) (p : Parts) (number : ℕ) (move : JobMove) (changes : List WordChange) (counts : Counts) → IsHeld job p
    → IsNextMove job p number move changes counts
    → (new_entry p changes counts).possible ≡ possible_by job p.number (p.done + 1)
possible_is job p number move changes counts h next =
    let ahead : possible_ahead p.entries (length p.entries) ≡ possible_by job p.number p.done =
    possible_ahead_is job p p.done (length p.entries) h (at_end p.entries (length p.changes) p.done h.kept) (omega arith) in
    let found : counts.possible ≡ (found_at job p.number p.done move).possible = ap (λ (c : Counts). c.possible) next.found in
    let step = possible_step job p.number p.done number move next.applies next.named in
    omega (arith, ahead, found, step)

-- the sets of the two versions
sure_news : (job : Job) (p : Parts) (number : ℕ) (move : JobMove) (changes : List WordChange) (counts : Counts)
    → IsNextMove job p number move changes counts
    → AreNew (sure_at job p.number) sure_of (length p.rays) (points_at job.plan.grid p.number) changes
    (sure_stock job p.number move) p.done
sure_news job p number move changes counts next =
    sure_new job p.number p.done (length p.rays) number move changes next.applies next.named next.marked

possible_news : (job : Job) (p : Parts) (number : ℕ) (move : JobMove) (changes : List WordChange) (counts : Counts)
    → IsNextMove job p number move changes counts
    → AreNew (possible_at job p.number) possible_of (length p.rays) (points_at job.plan.grid p.number) changes
    (possible_stock job p.number move) p.done
possible_news job p number move changes counts next =
    possible_new job p.number p.done (length p.rays) number move changes next.applies next.named next.marked

-- the line as it is kept is that of the edits
line_within : (job : Job) (p : Parts) → IsHeld job p → p.at ≤ length p.line
line_within job p h =
    subst (λ (l : History). l.at ≤ length l.numbers) (sym h.line) (at_within job.plan.edits p.done)

line_below : (job : Job) (p : Parts) → IsHeld job p → (k : ℕ) → k < length p.line → slice_index p.line k < p.done
line_below job p h =
    subst (λ (l : History). (k : ℕ) → k < length l.numbers → slice_index l.numbers k < p.done) (sym h.line)
    (numbers_below job.plan.edits p.done)

-- the move of the next edit is the one with its number
move_is : (job : Job) (v number : ℕ) (move other : JobMove) → slice_get job.plan.edits v ≡ Some (Apply number)
    → HasNumber job.plan number move → HasNumber job.plan (move_of job.plan.edits v) other → other ≡ move
move_is job v number move other applies named is =
    let same : move_of job.plan.edits v ≡ number = ap applied_by applies in
    same_Some other move (sym is ∙ ap (λ k. slice_get job.plan.moves k) same ∙ named)

-- so what it finds is what the counts say
move_finds : (job : Job) (p : Parts) (number : ℕ) (move other : JobMove) (changes : List WordChange) (counts : Counts)
    → IsNextMove job p number move changes counts → HasNumber job.plan (move_of job.plan.edits p.done) other
    → counts ≡ found_at job p.number p.done other
move_finds job p number move other changes counts next is =
    next.found
    ∙ ap (λ (m : JobMove). found_at job p.number p.done m) (sym (move_is job p.done number move other next.applies next.named is))

-- with its entry
entered_noted : (job : Job) (p : Parts) (number : ℕ) (move : JobMove) (changes : List WordChange) (counts : Counts) → IsHeld job p
    → IsNextMove job p number move changes counts
    → HoldsEdits job p.number (length p.rays) (p.changes ++ changes) (take p.at p.line ++ p.done ∷ []) (p.done + 1)
    (p.entries ++ new_entry p changes counts ∷ [])
entered_noted job p number move changes counts h next =
    let e = new_entry p changes counts in
    let size = length-append p.changes changes in
    let its : changes_of (p.changes ++ changes) e ≡ changes = range_new p.changes changes in
    record {
      kept =
          kept_noted p.entries (length p.changes) (length (p.changes ++ changes)) p.done e (omega (arith, size)) h.kept refl (omega arith)
          (omega (arith, size));
      sorted =
          sorted_noted p.changes changes p.entries p.done e h.kept h.sorted
          (subst (λ (c : List WordChange). AreInOrder c) (sym its) next.order);
      tracked_sure =
          tracked_noted (sure_at job p.number) sure_of (length p.rays) (points_at job.plan.grid p.number) p.changes changes p.entries p.done
          e h.kept h.tracked_sure refl
          (λ n l.
          new_turns_as (sure_at job p.number) sure_of (length p.rays) (points_at job.plan.grid p.number)
          (changes_of (p.changes ++ changes) e) changes (sure_stock job p.number move) p.done n l its
          (sure_news job p number move changes counts next));
      tracked_possible =
          tracked_noted (possible_at job p.number) possible_of (length p.rays) (points_at job.plan.grid p.number) p.changes changes
          p.entries p.done e h.kept h.tracked_possible refl
          (λ n l.
          new_turns_as (possible_at job p.number) possible_of (length p.rays) (points_at job.plan.grid p.number)
          (changes_of (p.changes ++ changes) e) changes (possible_stock job p.number move) p.done n l its
          (possible_news job p number move changes counts next));
      totals =
          totals_noted job p.number p.entries e h.totals (removed_is job p number move changes counts h next)
          (possible_is job p number move changes counts h next);
      found =
          found_from job p.number (take p.at p.line ++ p.done ∷ []) (p.entries ++ e ∷ [])
          (each_edit (IsFoundFor job p.number (p.entries ++ e ∷ [])) p.line p.at p.done (line_within job p h)
          (λ k low.
          let below = line_below job p h k low in
          found_still job p.number p.entries e (slice_index p.line k) (λ same. omega (arith, below, same))
          (found_each job p.number p.line p.entries h.found k low))
          (found_noted job p.number p.entries e p.done h.kept.early refl
          (record {
            applies = λ is. refl;
            hits = λ other is named. ap (λ (c : Counts). hits_of c) (move_finds job p number move other changes counts next named);
          })));
    }

-- a move that does nothing has no changes and no hits
pub record DoesNothing (changes : List WordChange) (counts : Counts) : Type 0 where
  pub changes_are : changes ≡ []
  pub part_sure : counts.part_sure ≡ 0
  pub part_possible : counts.part_possible ≡ 0
  pub fix_sure : counts.fix_sure ≡ 0
  pub fix_possible : counts.fix_possible ≡ 0
  pub rapid_sure : counts.rapid_sure ≡ 0
  pub rapid_possible : counts.rapid_possible ≡ 0

pub nothing_done : (changes : List WordChange) (counts : Counts) → does_nothing changes counts ≡ true → DoesNothing changes counts
nothing_done changes counts is =
    let rapid : Bool = counts.rapid_sure == 0 && counts.rapid_possible == 0 in
    let later : Bool = counts.fix_possible == 0 && rapid in
    let fix : Bool = counts.fix_sure == 0 && later in
    let second : Bool = counts.part_possible == 0 && fix in
    let part : Bool = counts.part_sure == 0 && second in
    let a = and_parts (length changes == 0) part is in
    let b = and_parts (counts.part_sure == 0) second a.1 in
    let c = and_parts (counts.part_possible == 0) fix b.1 in
    let d = and_parts (counts.fix_sure == 0) later c.1 in
    let e = and_parts (counts.fix_possible == 0) rapid d.1 in
    let f = and_parts (counts.rapid_sure == 0) (counts.rapid_possible == 0) e.1 in
    record {
      changes_are = nil_from_length changes (eqb-true (length changes) 0 a.0);
      part_sure = eqb-true counts.part_sure 0 b.0;
      part_possible = eqb-true counts.part_possible 0 c.0;
      fix_sure = eqb-true counts.fix_sure 0 d.0;
      fix_possible = eqb-true counts.fix_possible 0 e.0;
      rapid_sure = eqb-true counts.rapid_sure 0 f.0;
      rapid_possible = eqb-true counts.rapid_possible 0 f.1;
    }

-- then the sets stay
sure_stays : (job : Job) (p : Parts) (number : ℕ) (move : JobMove) (changes : List WordChange) (counts : Counts)
    → IsNextMove job p number move changes counts → changes ≡ [] → (n l : ℕ) → n < length p.rays → l < points_at job.plan.grid p.number n
    → sure_at job p.number p.done n l ≡ sure_at job p.number (p.done + 1) n l
sure_stays job p number move changes counts next none n l ray point =
    none_new (sure_at job p.number) sure_of (length p.rays) (points_at job.plan.grid p.number) changes (sure_stock job p.number move)
    p.done n l (sure_news job p number move changes counts next) (ap (λ (c : List WordChange). among sure_of c n l) none) ray point

possible_stays : (job : Job) (p : Parts) (number : ℕ) (move : JobMove) (changes : List WordChange) (counts : Counts)
    → IsNextMove job p number move changes counts → changes ≡ [] → (n l : ℕ) → n < length p.rays → l < points_at job.plan.grid p.number n
    → possible_at job p.number p.done n l ≡ possible_at job p.number (p.done + 1) n l
possible_stays job p number move changes counts next none n l ray point =
    none_new (possible_at job p.number) possible_of (length p.rays) (points_at job.plan.grid p.number) changes
    (possible_stock job p.number move) p.done n l (possible_news job p number move changes counts next)
    (ap (λ (c : List WordChange). among possible_of c n l) none) ray point

-- so nothing is found
none_found : (job : Job) (p : Parts) (number : ℕ) (move : JobMove) (changes : List WordChange) (counts : Counts) → IsHeld job p
    → IsNextMove job p number move changes counts → DoesNothing changes counts → counts ≡ no_counts
none_found job p number move changes counts h next told =
    let stays =
    (sure_total job p.number (length p.rays) h.newest.rays.many).same p.done (p.done + 1)
    (sure_stays job p number move changes counts next told.changes_are) in
    let step = removed_step job p.number p.done number move next.applies next.named in
    let rise : counts.removed ≡ (found_at job p.number p.done move).removed = ap (λ (c : Counts). c.removed) next.found in
    let removed : counts.removed ≡ 0 = omega (arith, stays, step, rise) in
    let stays_possible =
    (possible_total job p.number (length p.rays) h.newest.rays.many).same p.done (p.done + 1)
    (possible_stays job p number move changes counts next told.changes_are) in
    let step_possible = possible_step job p.number p.done number move next.applies next.named in
    let rise_possible : counts.possible ≡ (found_at job p.number p.done move).possible = ap (λ (c : Counts). c.possible) next.found in
    let possible : counts.possible ≡ 0 = omega (arith, stays_possible, step_possible, rise_possible) in
    λ i. record {
      removed = removed i;
      possible = possible i;
      part_sure = told.part_sure i;
      part_possible = told.part_possible i;
      fix_sure = told.fix_sure i;
      fix_possible = told.fix_possible i;
      rapid_sure = told.rapid_sure i;
      rapid_possible = told.rapid_possible i;
    }

-- without an entry
entered_unnoted : (job : Job) (p : Parts) (number : ℕ) (move : JobMove) (changes : List WordChange) (counts : Counts) → IsHeld job p
    → IsNextMove job p number move changes counts → DoesNothing changes counts
    → HoldsEdits job p.number (length p.rays) (p.changes ++ changes) (take p.at p.line ++ p.done ∷ []) (p.done + 1) p.entries
entered_unnoted job p number move changes counts h next told =
    let size = length-append p.changes changes in
    record {
      kept = kept_unnoted p.entries (length p.changes) (length (p.changes ++ changes)) p.done (omega (arith, size)) h.kept;
      sorted = sorted_unnoted p.changes changes p.entries p.done h.kept h.sorted;
      tracked_sure =
          tracked_unnoted (sure_at job p.number) sure_of (length p.rays) (points_at job.plan.grid p.number) p.changes changes p.entries
          p.done h.kept h.tracked_sure (sure_stays job p number move changes counts next told.changes_are);
      tracked_possible =
          tracked_unnoted (possible_at job p.number) possible_of (length p.rays) (points_at job.plan.grid p.number) p.changes changes
          p.entries p.done h.kept h.tracked_possible (possible_stays job p number move changes counts next told.changes_are);
      totals = h.totals;
      found =
          found_from job p.number (take p.at p.line ++ p.done ∷ []) p.entries
          (each_edit (IsFoundFor job p.number p.entries) p.line p.at p.done (line_within job p h)
          (found_each job p.number p.line p.entries h.found)
          (found_unnoted job p.number p.entries p.done h.kept.early
          (λ other named.
          sym (move_finds job p number move other changes counts next named)
          ∙ none_found job p number move changes counts h next told)));
    }

-- with or without it
entered_edits : (job : Job) (p : Parts) (number : ℕ) (move : JobMove) (changes : List WordChange) (counts : Counts) → IsHeld job p
    → IsNextMove job p number move changes counts
    → HoldsEdits job p.number (length p.rays) (p.changes ++ changes) (take p.at p.line ++ p.done ∷ []) (p.done + 1)
    (noted (does_nothing changes counts) p.entries (new_entry p changes counts))
entered_edits job p number move changes counts h next =
    let e = new_entry p changes counts in
    cond_both (does_nothing changes counts) p.entries (p.entries ++ e ∷ [])
    (HoldsEdits job p.number (length p.rays) (p.changes ++ changes) (take p.at p.line ++ p.done ∷ []) (p.done + 1))
    (λ nothing. entered_unnoted job p number move changes counts h next (nothing_done changes counts nothing))
    (λ something. entered_noted job p number move changes counts h next)

-- the line with an edit that comes after what is left
abbrev stood : ℕ → History → History
stood v l = record { numbers = take l.at l.numbers ++ v ∷ []; at = l.at + 1 }

-- the line of the edits with this one
entered_line : (job : Job) (p : Parts) (number : ℕ) → IsHeld job p → slice_get job.plan.edits p.done ≡ Some (Apply number)
    → ◌≡◌ {A = History} (record { numbers = take p.at p.line ++ p.done ∷ []; at = p.at + 1 }) (history_at job.plan.edits (p.done + 1))
entered_line job p number h applies =
    ap (stood p.done) h.line ∙ sym (history_applied job.plan.edits p.done number applies)

-- what is held after a move was entered is that of the strip
pub entered_held : (job : Job) (p : Parts) (after : List KeptSets) (number : ℕ) (move : JobMove) (changes : List WordChange)
    (counts : Counts) → IsHeld job p → IsNextMove job p number move changes counts → AreRaysTurned p.rays after changes false
    → IsHeld job (entered_parts p after changes counts)
entered_held job p after number move changes counts h next turned =
    let edits = entered_edits job p number move changes counts h next in
    let noted_entries : List Entry = noted (does_nothing changes counts) p.entries (new_entry p changes counts) in
    record {
      valid = h.valid;
      grid = h.grid;
      strip = h.strip;
      few = h.few;
      named = h.named;
      within = let low = slice_get_within job.plan.edits p.done (Apply number) next.applies in omega (arith, low);
      line = entered_line job p number h next.applies;
      newest =
          turned_sets job p.number p.done (p.done + 1) p.rays after changes false h.valid turned h.newest
          (new_leads (sure_at job p.number) sure_of (length p.rays) (points_at job.plan.grid p.number) changes
          (sure_stock job p.number move) p.done (sure_news job p number move changes counts next))
          (new_leads (possible_at job p.number) possible_of (length p.rays) (points_at job.plan.grid p.number) changes
          (possible_stock job p.number move) p.done (possible_news job p number move changes counts next));
      of = h.of;
      kept = edits.kept;
      sorted = edits.sorted;
      on =
          All-append (IsChangeOn after) p.changes changes (turned_on p.rays after changes false p.changes turned h.on)
          (turned_on p.rays after changes false changes turned next.on);
      few_changes = let size = length-append p.changes changes in let few = next.few in omega (arith, size, few);
      tracked_sure =
          tracked_rays (sure_at job p.number) sure_of (length p.rays) (length after) (points_at job.plan.grid p.number)
          (p.changes ++ changes) noted_entries (p.done + 1) turned.many edits.tracked_sure;
      tracked_possible =
          tracked_rays (possible_at job p.number) possible_of (length p.rays) (length after) (points_at job.plan.grid p.number)
          (p.changes ++ changes) noted_entries (p.done + 1) turned.many edits.tracked_possible;
      totals = edits.totals;
      found = edits.found;
    }
