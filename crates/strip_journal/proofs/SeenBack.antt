-- What callers see of a strip on the way back is what its journal has there.
use Rattle.std.proofs.Common.{◌≡◌, ℕ, ◌<◌, ◌≤◌, true, List, length, arith, refl, sym, ap, ◌∙◌, subst}
use Rattle.std.specs.Prelude.{Result, Ok, Err, IfOk}
use Rattle.vf_io.specs.declared.answers.NoMemory.{NoMemory}
use Rattle.ray_grid.specs.Grids.{GridSize}
use Rattle.ray_grid.specs.Strips.{strip_at, strips_of}
use Rattle.edit_plan.specs.Edits.{left_at}
use Rattle.job_counts.specs.declared.counts.Counts.{Counts}
use Rattle.job_model.specs.Findings.{found_over}
use Rattle.job_model.specs.Points.{is_stock, left_moves, moves_of, some_possible, some_sure, strip_points}
use Rattle.job_model.specs.Tasks.{Job, JobMove, PlanOf}
use Rattle.ray_words.specs.Rays.{KeptSets}
use Rattle.ray_words.specs.Rows.{kept_at}
use Rattle.strip_plan.specs.Plans.{HasNumber}
use Rattle.strip_marks.specs.Marks.{AreRays, point_at, sets_of, strip_found}
use Rattle.strip_journal.specs.declared.journal.Journal.{Journal}
use Rattle.strip_journal.specs.Journals.{IsJournal, job_of, possible_at, sure_at}
use Rattle.strip_journal.specs.LookedBack.{IsBackAt, IsCutAlike, IsFoundSoFar, IsRaySoFar, LookedBackOf, moves_so_far, version_before}
use Rattle.strip_journal.specs.Steps.{HasSameEdits}
use Rattle.strip_journal.specs.Strips.{StripOf}
use Rattle.strip_journal.proofs.GoneBack.{gone_of}
use Rattle.strip_journal.proofs.KeptParts.{parts_of}
use Rattle.strip_journal.proofs.LeftVersions.{left_up}
use Rattle.strip_journal.proofs.StripSums.{strip_found_is}
use Rattle.strip_journal.proofs.ToldFound.{left_told, strip_of}

-- the value of a journal at a place
abbrev pub back_seen : Journal → ℕ → LookedBackOf
back_seen j left = record { job = job_of j; number = j.number; done = j.done; left = left }

-- the moves that are left at its version are those up to the place
moves_back : (j : Journal) (place left : ℕ) → IsBackAt j place left
    → left_moves (job_of j).plan (version_before j left) ≡ moves_so_far (back_seen j left)
moves_back j place left b =
    let g = gone_of j place left b in
    ap (moves_of (job_of j).plan) (left_up (job_of j) (record (parts_of j) { rays = g.newest }) left g.held g.within)

-- of a stock point the set of a version says whether some move that is left there is sure of it, and possible
sure_of_stock : (job : Job) (strip version n l : ℕ) → is_stock job (point_at job.plan.grid strip n l) ≡ true
    → sure_at job strip version n l ≡ some_sure job.plan (left_moves job.plan version) (point_at job.plan.grid strip n l)
sure_of_stock job strip version n l stock = grind (arith, stock)

possible_of_stock : (job : Job) (strip version n l : ℕ) → is_stock job (point_at job.plan.grid strip n l) ≡ true
    → possible_at job strip version n l ≡ some_possible job.plan (left_moves job.plan version) (point_at job.plan.grid strip n l)
possible_of_stock job strip version n l stock = grind (arith, stock)

-- the sets of a ray
ray_back : (j : Journal) (place left n : ℕ) → IsBackAt j place left → n < length j.rays
    → IsRaySoFar (back_seen j left) n (sets_of j.rays n)
ray_back j place left n b low =
    let job = job_of j in
    let version = version_before j left in
    let rays = b.rays in
    let body = rays.bodies n low in
    let moves = moves_back j place left b in
    record {
      bound = rays.rays.bounds n low;
      bodies = body;
      sure = λ l point stock.
          let here = point_at job.plan.grid j.number n l in
          rays.sure n l low point
          ∙ sure_of_stock job j.number version n l (sym (body.stock l point) ∙ stock)
          ∙ ap (λ (m : List JobMove). some_sure job.plan m here) moves;
      possible = λ l point stock.
          let here = point_at job.plan.grid j.number n l in
          rays.possible n l low point
          ∙ possible_of_stock job j.number version n l (sym (body.stock l point) ∙ stock)
          ∙ ap (λ (m : List JobMove). some_possible job.plan m here) moves;
    }

-- a ray of the strip is one of those that are kept
pub ray_seen : (j : Journal) (s : LookedBackOf) (place left n : ℕ) → IsBackAt j place left → back_seen j left ≡ s
    → n < length (strip_at s.job.plan.grid s.number) → n < length j.rays
ray_seen j s place left n b is low =
    subst (λ (k : ℕ). n < k) (sym b.rays.rays.many)
    (subst (λ (t : LookedBackOf). n < length (strip_at t.job.plan.grid t.number)) (sym is) low)

pub ray_told_back : (j : Journal) (s : LookedBackOf) (place left n : ℕ) (ray : KeptSets) → IsBackAt j place left → back_seen j left ≡ s
    → n < length (strip_at s.job.plan.grid s.number) → ray ≡ kept_at j.rays n → IsRaySoFar s n ray.sets
ray_told_back j s place left n ray b is low read =
    subst (λ (r : KeptSets). IsRaySoFar s n r.sets) (sym read)
    (subst (λ (t : LookedBackOf). IsRaySoFar t n (sets_of j.rays n)) is
    (ray_back j place left n b (ray_seen j s place left n b is low)))

-- the strip of a plan that is cut alike, and its rays
pub strip_alike : (j : Journal) (s : LookedBackOf) (plan : PlanOf) (place left : ℕ) → IsBackAt j place left → back_seen j left ≡ s
    → IsCutAlike s.job.plan plan → j.number < length (strips_of plan.grid)
strip_alike j s plan place left b is alike =
    let grid : (job_of j).plan.grid ≡ plan.grid = ap (λ (t : LookedBackOf). t.job.plan.grid) is ∙ sym alike.grid in
    subst (λ (g : GridSize). j.number < length (strips_of g)) grid b.journal.strip

pub rays_alike : (j : Journal) (s : LookedBackOf) (plan : PlanOf) (place left : ℕ) → IsBackAt j place left → back_seen j left ≡ s
    → IsCutAlike s.job.plan plan → AreRays plan.grid j.number j.rays
rays_alike j s plan place left b is alike =
    let grid : (job_of j).plan.grid ≡ plan.grid = ap (λ (t : LookedBackOf). t.job.plan.grid) is ∙ sym alike.grid in
    subst (λ (g : GridSize). AreRays g j.number j.rays) grid b.rays.rays

-- what a move finds by the sets is what it finds after the moves up to the place
found_alike : (j : Journal) (plan : PlanOf) (place left number : ℕ) (counts : Counts) → IsBackAt j place left
    → IsCutAlike (job_of j).plan plan
    → ((move : JobMove) → HasNumber plan number move → counts ≡ strip_found plan move j.number j.rays)
    → IsFoundSoFar (back_seen j left) plan number counts
found_alike j plan place left number counts b alike found = record {
  is = λ move named.
      let job = job_of j in
      let points = strip_points job.plan.grid j.number in
      let same : plan ≡ record (job.plan) { moves = plan.moves; edits = plan.edits } = λ i. record {
        grid = alike.grid i;
        slabs = alike.slabs i;
        depth = alike.depth i;
        moves = plan.moves;
        edits = plan.edits;
      } in
      found move named
      ∙ ap (λ (q : PlanOf). strip_found q move j.number j.rays) same
      ∙ strip_found_is job j.number (version_before j left) j move b.rays b.journal.strip
      ∙ ap (λ (m : List JobMove). found_over job points m move) (moves_back j place left b);
}

pub found_back : (j : Journal) (s : LookedBackOf) (plan : PlanOf) (place left number : ℕ) (result : Result Counts NoMemory)
    → IsBackAt j place left → back_seen j left ≡ s → IsCutAlike s.job.plan plan
    → IfOk result (λ counts. (move : JobMove) → HasNumber plan number move → counts ≡ strip_found plan move j.number j.rays)
    → IfOk result (IsFoundSoFar s plan number)
found_back j s plan place left number (Ok counts) b is alike found =
    subst (λ (t : LookedBackOf). IsFoundSoFar t plan number counts) is
    (found_alike j plan place left number counts b (subst (λ (t : LookedBackOf). IsCutAlike t.job.plan plan) (sym is) alike) found)
found_back j s plan place left number (Err e) b is alike found = found

-- no more moves are before the place than are left
pub left_seen : (j : Journal) (s : LookedBackOf) (place left : ℕ) → IsBackAt j place left → back_seen j left ≡ s
    → left ≤ length (left_at s.job.plan.edits s.done)
left_seen j s place left b is =
    let n : Journal = record j { rays = b.newest } in
    let all = left_told n record { job = job_of j; number = j.number; done = j.done } b.journal refl in
    let within = b.within in
    subst (λ (t : LookedBackOf). left ≤ length (left_at t.job.plan.edits t.done)) is (omega (arith, all, within))

-- the strip is one of the lattice
pub number_seen : (j : Journal) (s : LookedBackOf) (place left : ℕ) → IsBackAt j place left → back_seen j left ≡ s
    → j.number < length (strips_of s.job.plan.grid)
number_seen j s place left b is =
    subst (λ (t : LookedBackOf). j.number < length (strips_of t.job.plan.grid)) is b.journal.strip

-- at another place
pub left_told_back : (j : Journal) (s : LookedBackOf) (left to : ℕ) → back_seen j left ≡ s → to ≤ s.left → to ≤ left
left_told_back j s left to is order = subst (λ (t : LookedBackOf). to ≤ t.left) (sym is) order

pub back_told : (j k : Journal) (s : LookedBackOf) (left to : ℕ) → back_seen j left ≡ s → HasSameEdits j k
    → back_seen k to ≡ record { job = s.job; number = s.number; done = s.done; left = to }
back_told j k s left to is same =
    (λ i. record { job = same.strip.job i; number = same.strip.number i; done = same.done i; left = to })
    ∙ ap (λ (t : LookedBackOf). record { job = t.job; number = t.number; done = t.done; left = to }) is

-- and at the same
pub same_told_back : (j k : Journal) (s : LookedBackOf) (left : ℕ) → back_seen j left ≡ s → HasSameEdits j k → back_seen k left ≡ s
same_told_back j k s left is same =
    (λ i. record { job = same.strip.job i; number = same.strip.number i; done = same.done i; left = left }) ∙ is

-- the place after all moves that are left
pub looked_told : (j : Journal) (s : StripOf) (b : LookedBackOf) → IsJournal (job_of j) j → strip_of j ≡ s
    → b ≡ record { job = job_of j; number = j.number; done = j.done; left = j.at }
    → b ≡ record { job = s.job; number = s.number; done = s.done; left = length (left_at s.job.plan.edits s.done) }
looked_told j s b h is seen =
    seen
    ∙ (λ i. record { job = (is i).job; number = (is i).number; done = (is i).done; left = left_told j s h is i })
