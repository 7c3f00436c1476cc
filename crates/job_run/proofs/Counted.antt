-- Counts and totals, one strip more at a time.
use Rattle.std.proofs.Common.{◌≡◌, ℕ, ◌+◌, ◌<◌, ◌≤◌, All, List, [], ◌∷◌, Some}
use Rattle.std.proofs.Common.{length, replicate, take, get_or, arith, sym, ap, ap₂, ◌∙◌, subst}
use Rattle.std.specs.List.{slice_get}
use Rattle.std.proofs.lemmas.List.{get_or-replicate, length-replicate, take_all}
use Rattle.std.proofs.lemmas.List.Elements.{All-from_get_or, All-get_or}
use Rattle.std.proofs.lemmas.Option.{same_Some, slice_get-get_or, slice_get_within}
use Rattle.edit_plan.specs.Edits.{left_at, left_of}
use Rattle.ray_grid.specs.Points.{LatticePoint, lattice_of}
use Rattle.ray_grid.specs.Strips.{strips_of}
use Rattle.job_counts.specs.declared.counts.Counts.{Counts}
use Rattle.job_counts.specs.declared.totals.Totals.{Totals}
use Rattle.job_counts.specs.Counts.{AreWithin, most_count, no_counts, plus}
use Rattle.job_counts.specs.Totals.{TotalsWithin, plus_totals}
use Rattle.job_report.specs.Report.{found_from}
use Rattle.job_model.specs.Findings.{found_over}
use Rattle.job_model.specs.Points.{left_moves, moves_of, strip_points, totals_after, totals_over}
use Rattle.job_model.specs.Tasks.{Job, JobMove, PlanOf}
use Rattle.strip_journal.specs.Strips.{AddsFound, IsFoundAt, StripOf, most_before}
use Rattle.strip_plan.specs.Plans.{HasNumber}
use Rattle.job_run.specs.Founds.{AreBroughtUp, AreLeft, HaveFound, first_points, rows_of}
use Rattle.job_report.specs.Tasks.{IsBelow}
use Rattle.job_run.specs.declared.left.LeftMove.{LeftMove}
use Rattle.job_run.specs.Strips.{AreAt, strip_with}
use Rattle.job_run.proofs.Listed.{rows_found}
use Rattle.job_run.proofs.Parts.{all_within, first_all, found_more, room_for, totals_more, totals_within, within_room}
use Rattle.job_run.proofs.Standing.{strip_is}

-- the moves that are left at the last version
last_left : (job : Job) → left_at job.plan.edits (length job.plan.edits) ≡ left_of job.plan.edits
last_left job = ap left_of (take_all (length job.plan.edits) job.plan.edits (omega arith))

-- what is found on the strip of a number
found_here : (job : Job) (k j number : ℕ) (move : JobMove) → slice_get (left_of job.plan.edits) j ≡ Some number
    → HasNumber job.plan number move
    → IsFoundAt (strip_with job (length job.plan.edits) k) j
    (found_over job (strip_points job.plan.grid k) (moves_of job.plan (take j (left_of job.plan.edits))) move)
found_here job k j number move at has = record {
  is = λ other m is it.
      let same : number ≡ other = same_Some number other (sym at ∙ ap (λ l. slice_get l j) (sym (last_left job)) ∙ is) in
      let move_is : move ≡ m = same_Some move m (sym has ∙ ap (slice_get job.plan.moves) same ∙ it) in
      ap₂ (λ l (z : JobMove). found_over job (strip_points job.plan.grid k) (moves_of job.plan (take j l)) z) (sym (last_left job)) move_is;
}

-- nothing is found on no strip
pub found_none : (job : Job) (left : ℕ) (strips : List StripOf) → AreLeft job left strips
    → HaveFound job (first_points job.plan.grid 0) (replicate left no_counts)
found_none job left strips are = record {
  many = length-replicate left no_counts ∙ are.many;
  each = λ j number move at has.
      let lt = slice_get_within (left_of job.plan.edits) j number at in
      let many = are.many in
      get_or-replicate left j no_counts no_counts (omega arith);
}

-- one strip more is added
pub found_added : (job : Job) (left : ℕ) (strips : List StripOf) (k : ℕ) (s : StripOf) (before after : List Counts)
    → AreLeft job left strips → k < length strips → s ≡ get_or strips k s → HaveFound job (first_points job.plan.grid k) before
    → AddsFound s before after
    → HaveFound job (first_points job.plan.grid (k + 1)) after
found_added job left strips k s before after are lt is found adds =
    let edits : ℕ = length job.plan.edits in
    let here : s ≡ strip_with job edits k = strip_is job.plan job edits strips k s are.strips_are lt is in
    let more : AddsFound (strip_with job edits k) before after = subst (λ (z : StripOf). AddsFound z before after) here adds in
    let among : k < length (strips_of job.plan.grid) = omega (arith, are.strips_are.first.many) in
    record {
      many = more.many ∙ found.many;
      each = λ j number move at has.
          let ahead : List JobMove = moves_of job.plan (take j (left_of job.plan.edits)) in
          let one : Counts = found_over job (strip_points job.plan.grid k) ahead move in
          let within = slice_get_within (left_of job.plan.edits) j number at in
          let many = found.many in
          more.each j one (omega arith) (found_here job k j number move at has)
          ∙ ap (λ (c : Counts). plus c one) (found.each j number move at has)
          ∙ sym (found_more job ahead move k among);
    }

-- each strip reports that `left` moves are left
pub left_many : (job : Job) (left : ℕ) (strips : List StripOf) (k : ℕ) (s : StripOf) (counts : List Counts) → AreLeft job left strips
    → k < length strips → s ≡ get_or strips k s → HaveFound job (first_points job.plan.grid k) counts
    → length counts ≡ length (left_at s.job.plan.edits s.done)
left_many job left strips k s counts are lt is found =
    let edits : ℕ = length job.plan.edits in
    let here : s ≡ strip_with job edits k = strip_is job.plan job edits strips k s are.strips_are lt is in
    found.many ∙ ap length (sym (last_left job)) ∙ ap (λ (z : StripOf). length (left_at z.job.plan.edits z.done)) (sym here)

-- the counts leave room for one strip more
pub found_room : (job : Job) (left : ℕ) (strips : List StripOf) (k : ℕ) (counts : List Counts) → AreLeft job left strips
    → k < length strips → HaveFound job (first_points job.plan.grid k) counts → All (AreWithin most_before) counts
found_room job left strips k counts are lt found =
    let edits_left : List ℕ = left_of job.plan.edits in
    let moves : List JobMove = job.plan.moves in
    let among : k < length (strips_of job.plan.grid) = omega (arith, are.strips_are.first.many) in
    let room = room_for job.plan.grid k are.strips_are.grid among in
    All-from_get_or (AreWithin most_before) counts no_counts
    (λ j below.
    let many = found.many in
    let number : ℕ = get_or edits_left j 0 in
    let named : number < length moves = All-get_or (IsBelow (length moves)) edits_left j 0 (omega arith) are.named in
    let at = slice_get-get_or edits_left j 0 (omega arith) in
    let move : JobMove = get_or moves number (a_move moves number named) in
    let has = slice_get-get_or moves number (a_move moves number named) named in
    subst (AreWithin most_before) (sym (found.each j number move at has))
    (within_room most_before job (first_points job.plan.grid k) (moves_of job.plan (take j edits_left)) move room))
  where
    a_move : (moves : List JobMove) (number : ℕ) → number < length moves → JobMove
    a_move [] number below = absurd (omega arith)
    a_move (move ∷ moves) number below = move

-- the counts of all strips are those of the lattice
pub found_all : (job : Job) (left : ℕ) (strips : List StripOf) (k : ℕ) (counts : List Counts) → AreLeft job left strips
    → length strips ≤ k → HaveFound job (first_points job.plan.grid k) counts → HaveFound job (lattice_of job.plan.grid) counts
found_all job left strips k counts are le found =
    subst (λ (points : List LatticePoint). HaveFound job points counts)
    (first_all job.plan.grid k (omega (arith, are.strips_are.first.many))) found

-- strips at the last version, with the moves that are reported
pub left_up : (job : Job) (left : List LeftMove) (strips : List StripOf) → AreBroughtUp job left strips → AreLeft job (length left) strips
left_up job left strips up = record { strips_are = up.strips_are; many = up.told.all.many; named = up.told.named }

-- their rows are what is found of the moves that are left
pub rows_of_left : (plan : PlanOf) (job : Job) (counts : List Counts) → job.plan ≡ plan
    → All (IsBelow (length plan.moves)) (left_of plan.edits) → HaveFound job (lattice_of job.plan.grid) counts
    → rows_of plan (left_of plan.edits) counts ≡ found_from job [] (left_of plan.edits)
rows_of_left plan job counts e named found =
    let F : PlanOf → Type 0 = λ p. All (IsBelow (length p.moves)) (left_of p.edits)
    → rows_of p (left_of p.edits) counts ≡ found_from job [] (left_of p.edits) in
    subst F e (λ n. rows_found job [] (left_of job.plan.edits) counts found.many n found.each) named

-- the totals with one strip more
pub totals_added : (plan : PlanOf) (job : Job) (strips : List StripOf) (k version : ℕ) (s : StripOf) (totals counts : Totals)
    → AreAt plan job (length plan.edits) strips → k < length strips → s ≡ get_or strips k s → version ≡ length plan.edits
    → totals ≡ totals_over job (first_points plan.grid k) (left_moves plan (length plan.edits))
    → counts ≡ totals_over s.job (strip_points s.job.plan.grid s.number) (left_moves s.job.plan version)
    → plus_totals totals counts ≡ totals_over job (first_points plan.grid (k + 1)) (left_moves plan (length plan.edits))
totals_added plan job strips k version s totals counts at lt is last before it =
    let edits : ℕ = length plan.edits in
    let here : s ≡ strip_with job edits k = strip_is plan job edits strips k s at lt is in
    let strip : counts ≡ totals_over job (strip_points job.plan.grid k) (left_moves job.plan edits) =
    it ∙ ap₂ (λ (z : StripOf) v. totals_over z.job (strip_points z.job.plan.grid z.number) (left_moves z.job.plan v)) here last in
    let among : k < length (strips_of job.plan.grid) =
    omega (arith, at.first.many, ap (λ (p : PlanOf). length (strips_of p.grid)) at.plan_is) in
    let old : totals ≡ totals_over job (first_points job.plan.grid k) (left_moves job.plan edits) =
    before ∙ ap (λ (p : PlanOf). totals_over job (first_points p.grid k) (left_moves p edits)) (sym at.plan_is) in
    ap₂ plus_totals old strip ∙ sym (totals_more job (left_moves job.plan edits) k among)
    ∙ ap (λ (p : PlanOf). totals_over job (first_points p.grid (k + 1)) (left_moves p edits)) at.plan_is

-- they are few enough to be counted
pub totals_room : (plan : PlanOf) (job : Job) (strips : List StripOf) (k : ℕ) (totals : Totals) → AreAt plan job (length plan.edits) strips
    → k < length strips → totals ≡ totals_over job (first_points plan.grid (k + 1)) (left_moves plan (length plan.edits))
    → TotalsWithin most_count totals
totals_room plan job strips k totals at lt is =
    subst (TotalsWithin most_count) (sym is)
    (totals_within most_count job (left_moves plan (length plan.edits)) (first_points plan.grid (k + 1))
    (all_within plan.grid (k + 1) at.grid (omega (arith, at.first.many))))

-- the totals of all strips are those of the lattice
pub totals_all : (plan : PlanOf) (job : Job) (strips : List StripOf) (k : ℕ) (totals : Totals) → AreAt plan job (length plan.edits) strips
    → length strips ≤ k → totals ≡ totals_over job (first_points plan.grid k) (left_moves plan (length plan.edits))
    → totals ≡ totals_after job (left_moves plan (length plan.edits))
totals_all plan job strips k totals at le is =
    is ∙ ap (λ (points : List LatticePoint). totals_over job points (left_moves plan (length plan.edits)))
    (first_all plan.grid k (omega (arith, at.first.many)) ∙ ap (λ (p : PlanOf). lattice_of p.grid) (sym at.plan_is))
