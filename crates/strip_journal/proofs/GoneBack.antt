-- Going back over the moves that are left, from entry to entry.
use Rattle.std.proofs.Common.{◌≡◌, ℕ, ◌+◌, ◌-◌, ◌<◌, ◌≤◌, All, Bool, true, false, List, length, slice_index, arith, sym, ap, ◌∙◌, subst}
use native.Mathlib.Decide.{dec_le}
use mathlib.Core.Logic.{dite}
use Rattle.job_model.specs.Tasks.{Job}
use Rattle.ray_words.specs.Rays.{KeptSets}
use Rattle.strip_marks.specs.declared.change.WordChange.{WordChange}
use Rattle.strip_marks.specs.Marks.{HaveSameSets, IsChangeOn, among, points_at, possible_of, sure_of}
use Rattle.strip_journal.specs.declared.journal.Journal.{Journal}
use Rattle.strip_journal.specs.Entries.{HasNo, IsToggled, changes_of, edit_at, entry_at}
use Rattle.strip_journal.specs.Journals.{IsJournal, MatchesEntries, job_of, possible_at, sure_at}
use Rattle.strip_journal.specs.LookedBack.{IsBackAt}
use Rattle.strip_journal.specs.Steps.{AreRaysTurned, HasSameEdits}
use Rattle.strip_journal.proofs.KeptParts.{AreSetsAt, IsHeld, Parts, held_of, journal_of, parts_of}
use Rattle.strip_journal.proofs.KeptSame.{same_change_on, same_sets_at}
use Rattle.strip_journal.proofs.LeftVersions.{FollowsLeft, line_up, run_still, version_in, version_left, version_next, version_past}
use Rattle.strip_journal.proofs.LookBack.{all_ahead}
use Rattle.strip_journal.proofs.MovesLeft.{possible_same, sure_is_possible, sure_same}
use Rattle.strip_journal.proofs.RaysTurned.{changes_turned, marked_turned}
use Rattle.strip_journal.proofs.Turned.{left_within}

-- the same of what a journal holds, whatever room it has
pub record IsGone (job : Job) (p : Parts) (place left : ℕ) : Type 0 where
  pub newest : List KeptSets
  pub held : IsHeld job (record p { rays = newest })
  pub on : All (IsChangeOn p.rays) p.changes
  pub within : left ≤ p.at
  pub few : place ≤ length p.entries
  pub sets : AreSetsAt job p.number (version_in p left) p.rays
  pub before : (i m : ℕ) → place ≤ i → i < length p.entries → m < left → edit_at p.entries i ≡ slice_index p.line m → ⊥

pub gone_of : (j : Journal) (place left : ℕ) → IsBackAt j place left → IsGone (job_of j) (parts_of j) place left
gone_of j place left b = record {
  newest = b.newest;
  held = held_of (job_of j) (record j { rays = b.newest }) b.journal;
  on = b.on;
  within = b.within;
  few = b.few;
  sets = record { rays = b.rays.rays; bodies = b.rays.bodies; sure = b.rays.sure; possible = b.rays.possible };
  before = b.before;
}

pub back_in : (j : Journal) (place left : ℕ) → IsGone (job_of j) (parts_of j) place left → IsBackAt j place left
back_in j place left g = record {
  newest = g.newest;
  journal = journal_of (job_of j) (record j { rays = g.newest }) g.held;
  on = g.on;
  within = g.within;
  few = g.few;
  rays = record { rays = g.sets.rays; bodies = g.sets.bodies; sure = g.sets.sure; possible = g.sets.possible };
  before = g.before;
}

pub back_of : (j : Journal) (job : Job) (p : Parts) (place left : ℕ) → job_of j ≡ job → parts_of j ≡ p → IsGone job p place left
    → IsBackAt j place left
back_of j job p place left is holds g =
    back_in j place left
    (subst (λ (x : Job). IsGone x (parts_of j) place left) (sym is) (subst (λ (q : Parts). IsGone job q place left) (sym holds) g))

-- as many rays as before
gone_rays : (job : Job) (p : Parts) (place left n : ℕ) (g : IsGone job p place left) → n < length p.rays → n < length g.newest
gone_rays job p place left n g low =
    let now = g.sets.rays.many in let then = g.held.newest.rays.many in omega (arith, now, then, low)

-- the place after all moves that are left
pub start_back : (j : Journal) (place : ℕ) → IsJournal (job_of j) j → place ≡ length j.entries.items → IsBackAt j place j.at
start_back j place h is = record {
  newest = j.rays;
  journal = h;
  on = h.on;
  within = omega arith;
  few = omega (arith, is);
  rays =
      let last = version_past (parts_of j) j.at (omega arith) in
      record {
        rays = h.newest.rays;
        bodies = h.newest.bodies;
        sure = λ n l ray point. h.newest.sure n l ray point ∙ ap (λ (v : ℕ). sure_at (job_of j) j.number v n l) (sym last);
        possible = λ n l ray point. h.newest.possible n l ray point ∙ ap (λ (v : ℕ). possible_at (job_of j) j.number v n l) (sym last);
      };
  before = λ i m from low left there. absurd (omega (arith, from, low, is));
}

-- the sets of a journal may have their words elsewhere
pub same_back : (j k : Journal) (place left : ℕ) → IsBackAt j place left → HasSameEdits j k → HaveSameSets j.rays k.rays
    → IsBackAt k place left
same_back j k place left b edits same =
    let g = gone_of j place left b in
    let job = job_of j in
    let p : Parts = record (parts_of j) { rays = k.rays } in
    let holds : parts_of k ≡ p = λ i. record {
      number = edits.strip.number i;
      of = edits.strip.of i;
      rays = k.rays;
      changes = edits.changes i;
      entries = edits.entries i;
      line = edits.line i;
      at = edits.at i;
      done = edits.done i;
    } in
    back_of k job p place left edits.strip.job holds
    (record {
      newest = g.newest;
      held = g.held;
      on = λ i d low. same_change_on j.rays k.rays _ same (g.on i d low);
      within = g.within;
      few = g.few;
      sets = same_sets_at job j.number (version_in (parts_of j) left) j.rays k.rays same g.sets;
      before = g.before;
    })

-- an entry that is of none of the moves is passed over
pub passed_over : (job : Job) (p : Parts) (place left : ℕ) → IsGone job p (place + 1) left
    → ((m : ℕ) → m < left → slice_index p.line m ≡ edit_at p.entries place → ⊥) → IsGone job p place left
passed_over job p place left g none = record {
  newest = g.newest;
  held = g.held;
  on = g.on;
  within = g.within;
  few = let few = g.few in omega (arith, few);
  sets = g.sets;
  before = λ i m from low some is.
      dite (dec_le (place + 1) i) (λ later. g.before i m later low some is)
      (λ here. let same : i ≡ place = omega (arith, from, here) in none m some (sym is ∙ ap (edit_at p.entries) same));
}

-- where the edit of an entry is one of the line, the later ones of the line have no entry up to it
none_between : (job : Job) (p : Parts) (place left m i : ℕ) → IsGone job p (place + 1) left → m < left
    → slice_index p.line m ≡ edit_at p.entries place → m + 1 ≤ i → i < left → HasNo p.entries (slice_index p.line i)
none_between job p place left m i g low is from few = λ q some there.
    dite (dec_le (place + 1) q) (λ later. g.before q i later some few there)
    (λ sooner.
    let all = left_within job (record p { rays = g.newest }) g.held in
    let within = g.within in
    let order = line_up job (record p { rays = g.newest }) g.held m i (omega (arith, from)) (omega (arith, few, within, all)) in
    dite (dec_le place q)
    (λ here.
    let same : edit_at p.entries q ≡ edit_at p.entries place =
    let e : q ≡ place = omega (arith, here, sooner) in ap (edit_at p.entries) e in
    absurd (omega (arith, order, is, there, same)))
    (λ early.
    let places = g.few in
    let before = g.held.kept.ascend.each q place (omega (arith, early)) (omega (arith, places)) in
    absurd (omega (arith, order, is, there, before))))

-- an edit that led from one version to another leads back where its changes are taken away
toggled_back : (f : ℕ → Bool) (u from to : ℕ) (changed : Bool) → IsToggled false (f u) (f (u + 1)) changed → f from ≡ f (u + 1)
    → f to ≡ f u → IsToggled true (f from) (f to) changed
toggled_back f u from to changed turned first last = rw (first, last) (record { back = turned.forth; forth = turned.back })

-- so do the changes of an entry whose edit is one of the line
gone_toggled : (job : Job) (p : Parts) (of : ℕ → ℕ → ℕ → Bool) (pick : WordChange → ℕ) (points : ℕ → ℕ) (place left m n l : ℕ)
    → (g : IsGone job p (place + 1) left) → MatchesEntries of pick (length g.newest) points p.changes p.entries p.done
    → FollowsLeft job (λ v. of v n l) → m < left → slice_index p.line m ≡ edit_at p.entries place
    → n < length g.newest → l < points n
    → IsToggled true (of (version_in p left) n l) (of (version_in p m) n l) (among pick (changes_of p.changes (entry_at p.entries place)) n l)
gone_toggled job p of pick points place left m n l g tracked same low is ray point =
    let h = g.held in
    let q : Parts = record p { rays = g.newest } in
    let within = g.within in
    let few = g.few in
    let all = left_within job q h in
    let there : place < length p.entries = omega (arith, few) in
    let applied : (entry_at p.entries place).is_undo ≡ false =
    h.found.applies m place (omega (arith, low, within, all)) there (sym is) in
    let reach : m + 1 + (left - (m + 1)) ≡ left = omega (arith, low) in
    let run = run_still job q of pick (length g.newest) points (m + 1) (left - (m + 1)) n l h tracked same (omega (arith, reach, within))
    (λ i from some. none_between job p place left m i g low is from (omega (arith, some, reach))) ray point in
    let first : of (version_in p left) n l ≡ of (edit_at p.entries place + 1) n l =
    ap (λ (k : ℕ). of (version_in p k) n l) (sym reach) ∙ run
    ∙ version_next job q (λ v. of v n l) m h same (omega (arith, low, within))
    ∙ ap (λ (v : ℕ). of (v + 1) n l) is in
    let last : of (version_in p m) n l ≡ of (edit_at p.entries place) n l =
    ap (λ (v : ℕ). of v n l) (version_left q m (omega (arith, low, within)) ∙ is) in
    toggled_back (λ v. of v n l) (edit_at p.entries place) (version_in p left) (version_in p m) _
    (subst
    (λ (b : Bool). IsToggled b (of (edit_at p.entries place) n l) (of (edit_at p.entries place + 1) n l)
    (among pick (changes_of p.changes (entry_at p.entries place)) n l)) applied
    (tracked.turned place n l there ray point))
    first last

-- the changes of an entry whose edit is one of the line are taken away
pub taken_back : (job : Job) (p : Parts) (place left m : ℕ) (after : List KeptSets) → IsGone job p (place + 1) left → m < left
    → slice_index p.line m ≡ edit_at p.entries place
    → AreRaysTurned p.rays after (changes_of p.changes (entry_at p.entries place)) true
    → IsGone job (record p { rays = after }) place m
taken_back job p place left m after g low is turned =
    let changes = changes_of p.changes (entry_at p.entries place) in
    let h = g.held in
    record {
      newest = g.newest;
      held = h;
      on = changes_turned p.rays after changes p.changes true turned g.on;
      within = let within = g.within in omega (arith, low, within);
      few = let few = g.few in omega (arith, few);
      sets =
          marked_turned job p.number (version_in p left) (version_in p m) p.rays after changes true g.sets turned
          (λ n l. sure_is_possible job p.number (version_in p m) n l h.valid)
          (λ n l ray point.
          gone_toggled job p (sure_at job p.number) sure_of (points_at job.plan.grid p.number) place left m n l g h.tracked_sure
          (λ v w. sure_same job p.number v w n l) low is (gone_rays job p (place + 1) left n g ray) point)
          (λ n l ray point.
          gone_toggled job p (possible_at job p.number) possible_of (points_at job.plan.grid p.number) place left m n l g h.tracked_possible
          (λ v w. possible_same job p.number v w n l) low is (gone_rays job p (place + 1) left n g ray) point);
      before = λ i k from some early there.
          dite (dec_le (place + 1) i) (λ later. g.before i k later some (omega (arith, early, low)) there)
          (λ here.
          let same : edit_at p.entries i ≡ edit_at p.entries place =
          let e : i ≡ place = omega (arith, from, here) in ap (edit_at p.entries) e in
          let within = g.within in
          let all = left_within job (record p { rays = g.newest }) h in
          let order = line_up job (record p { rays = g.newest }) h k m early (omega (arith, low, within, all)) in
          absurd (omega (arith, order, is, there, same)));
    }

-- the sets of a place are those of an earlier one where no edit between them has an entry
pub reached : (job : Job) (p : Parts) (place here left : ℕ) → IsGone job p place here → left ≤ here
    → ((i : ℕ) → left ≤ i → i < here → HasNo p.entries (slice_index p.line i)) → IsGone job p place left
reached job p place here left g order none =
    let h = g.held in
    let q : Parts = record p { rays = g.newest } in
    let within = g.within in
    let reach : left + (here - left) ≡ here = omega (arith, order) in
    let between : (i : ℕ) → left ≤ i → i < left + (here - left) → HasNo p.entries (slice_index p.line i) =
    λ i from few. none i from (omega (arith, few, reach)) in
    let there : left + (here - left) ≤ p.at = omega (arith, reach, within) in
    record {
      newest = g.newest;
      held = h;
      on = g.on;
      within = omega (arith, order, within);
      few = g.few;
      sets = record {
        rays = g.sets.rays;
        bodies = g.sets.bodies;
        sure = λ n l ray point.
            g.sets.sure n l ray point
            ∙ ap (λ (k : ℕ). sure_at job p.number (version_in p k) n l) (sym reach)
            ∙ run_still job q (sure_at job p.number) sure_of (length g.newest) (points_at job.plan.grid p.number) left (here - left) n l h
            h.tracked_sure (λ v w. sure_same job p.number v w n l) there between (gone_rays job p place here n g ray) point;
        possible = λ n l ray point.
            g.sets.possible n l ray point
            ∙ ap (λ (k : ℕ). possible_at job p.number (version_in p k) n l) (sym reach)
            ∙ run_still job q (possible_at job p.number) possible_of (length g.newest) (points_at job.plan.grid p.number) left
            (here - left) n l h h.tracked_possible (λ v w. possible_same job p.number v w n l) there between
            (gone_rays job p place here n g ray) point;
      };
      before = λ i m from low early. g.before i m from low (omega (arith, early, order));
    }

-- where the entry before a place is of an edit before one of the line, no edit from there on has an entry that isn't gone back over
pub none_from : (job : Job) (p : Parts) (place here left i : ℕ) → IsGone job p place here
    → (0 < place → edit_at p.entries (place - 1) < slice_index p.line left) → left ≤ i → i < here
    → HasNo p.entries (slice_index p.line i)
none_from job p place here left i g last from few = λ q some there.
    dite (dec_le place q) (λ later. g.before q i later some few there)
    (λ sooner.
    let ahead = all_ahead p.entries (slice_index p.line left) place q g.held.kept.ascend g.few last (omega (arith, sooner)) in
    let within = g.within in
    let all = left_within job (record p { rays = g.newest }) g.held in
    dite (dec_le i left)
    (λ same.
    let is : slice_index p.line i ≡ slice_index p.line left =
    let e : i ≡ left = omega (arith, same, from) in ap (slice_index p.line) e in
    absurd (omega (arith, ahead, there, is)))
    (λ later.
    let order = line_up job (record p { rays = g.newest }) g.held left i (omega (arith, later)) (omega (arith, few, within, all)) in
    absurd (omega (arith, ahead, there, order))))
