-- The rows of a report, by the counts of each move.
use Rattle.std.proofs.Common.{◌≡◌, ℕ, suc, ◌+◌, ◌<◌, All, List, [], ◌∷◌, ◌++◌, Some}
use Rattle.std.proofs.Common.{length, map, take, drop, get_or, arith, refl, sym, ap, ap₂, ◌∙◌}
use Rattle.std.specs.List.{slice_get}
use Rattle.std.proofs.lemmas.List.{append-nil, append_assoc, drop_more, length-take-le, take_more}
use Rattle.std.proofs.lemmas.List.Elements.{All-head, All-tail}
use Rattle.std.proofs.lemmas.Option.{slice_get-get_or}
use Rattle.job_counts.specs.declared.counts.Counts.{Counts}
use Rattle.job_report.specs.declared.facts.Found.{Found}
use Rattle.job_counts.specs.Counts.{no_counts}
use Rattle.ray_grid.specs.Points.{lattice_of}
use Rattle.job_report.specs.Report.{found_by, found_from}
use Rattle.job_model.specs.Findings.{found_over}
use Rattle.job_model.specs.Points.{moves_of}
use Rattle.job_model.specs.Tasks.{Job, JobMove, PlanOf}
use Rattle.strip_plan.specs.Plans.{HasNumber}
use Rattle.edit_plan.specs.Edits.{left_of}
use Rattle.job_run.specs.Founds.{found_told, found_with, row_of, rows_of}
use Rattle.job_run.specs.Left.{AreTold, IsTold}
use Rattle.job_report.specs.Tasks.{IsBelow}
use Rattle.job_run.specs.declared.left.LeftMove.{LeftMove}

-- a number below the length has one element
alone : {X : Type 0} (xs : List X) (i : ℕ) (d : X) → i < length xs → take 1 (drop i xs) ≡ get_or xs i d ∷ []
alone xs i d lt = ap (take 1) (drop_more xs i d lt)

-- a list that isn't as long as a number has an element
some_of : {X : Type 0} (xs : List X) (i : ℕ) → i < length xs → X
some_of [] i lt = absurd (omega arith)
some_of (x ∷ xs) i lt = x

-- the row of a move, by its line and whether it is rapid
pub row_is : (plan : PlanOf) (number : ℕ) (counts : Counts) (row : Found) → number < length plan.moves
    → ((move : JobMove) → HasNumber plan number move → row ≡ found_with number counts move) → row ∷ [] ≡ row_of plan number counts
row_is plan number counts row lt is =
    let d : JobMove = some_of plan.moves number lt in
    let move : JobMove = get_or plan.moves number d in
    ap (λ (r : Found). r ∷ []) (is move (slice_get-get_or plan.moves number d lt))
    ∙ ap (map (found_with number counts)) (sym (alone plan.moves number d lt))

-- one row more
rows_append : (plan : PlanOf) (numbers : List ℕ) (rest : List Counts) (number : ℕ) (counts : Counts) → length numbers ≡ length rest
    → rows_of plan (numbers ++ number ∷ []) (rest ++ counts ∷ []) ≡ rows_of plan numbers rest ++ row_of plan number counts
rows_append plan [] [] number counts e = append-nil (row_of plan number counts)
rows_append plan [] (x ∷ rest) number counts e = absurd (omega arith)
rows_append plan (n ∷ numbers) [] number counts e = absurd (omega arith)
rows_append plan (n ∷ numbers) (x ∷ rest) number counts e =
    ap (λ l. row_of plan n x ++ l) (rows_append plan numbers rest number counts (omega arith))
    ∙ sym (append_assoc (row_of plan n x) (rows_of plan numbers rest) (row_of plan number counts))

-- the rows so far, and that of one move more
pub rows_more : (plan : PlanOf) (numbers : List ℕ) (counts : List Counts) (j n : ℕ) (d : Counts) (row : Found) (before after : List Found)
    → length counts ≡ length numbers → j < length numbers → before ≡ rows_of plan (take j numbers) (take j counts)
    → row ∷ [] ≡ row_of plan (get_or numbers j n) (get_or counts j d) → after ≡ before ++ row ∷ []
    → after ≡ rows_of plan (take (j + 1) numbers) (take (j + 1) counts)
rows_more plan numbers counts j n d row before after e lt is one pushed =
    let long : length (take j numbers) ≡ length (take j counts) =
    length-take-le j numbers (omega arith) ∙ sym (length-take-le j counts (omega arith)) in
    pushed ∙ ap₂ (λ (a b : List Found). a ++ b) is one
    ∙ sym (ap₂ (rows_of plan) (take_more numbers j n lt) (take_more counts j d (omega arith))
    ∙ rows_append plan (take j numbers) (take j counts) (get_or numbers j n) (get_or counts j d) long)

-- rows are what is found, where the counts are of what each move finds after those before it
pub rows_found : (job : Job) (ahead numbers : List ℕ) (counts : List Counts) → length counts ≡ length numbers
    → All (IsBelow (length job.plan.moves)) numbers
    → ((j number : ℕ) (move : JobMove) → slice_get numbers j ≡ Some number → HasNumber job.plan number move
    → get_or counts j no_counts ≡ found_over job (lattice_of job.plan.grid) (moves_of job.plan (ahead ++ take j numbers)) move)
    → rows_of job.plan numbers counts ≡ found_from job ahead numbers
rows_found job ahead [] [] e named each = refl
rows_found job ahead [] (x ∷ counts) e named each = absurd (omega arith)
rows_found job ahead (n ∷ numbers) [] e named each = absurd (omega arith)
rows_found job ahead (n ∷ numbers) (x ∷ counts) e named each =
    let moves : List JobMove = job.plan.moves in
    let points = lattice_of job.plan.grid in
    let lt : n < length moves = All-head (IsBelow (length moves)) n numbers named in
    let d : JobMove = some_of moves n lt in
    let move : JobMove = get_or moves n d in
    let here : x ≡ found_over job points (moves_of job.plan ahead) move =
    each 0 n move refl (slice_get-get_or moves n d lt)
    ∙ ap (λ l. found_over job points (moves_of job.plan l) move) (append-nil ahead) in
    let only = alone moves n d lt in
    let head : row_of job.plan n x ≡ map (found_by job (moves_of job.plan ahead) n) (take 1 (drop n moves)) =
    ap (map (found_with n x)) only ∙ ap (λ (c : Counts). found_with n c move ∷ []) here
    ∙ sym (ap (map (found_by job (moves_of job.plan ahead) n)) only) in
    let rest = rows_found job (ahead ++ n ∷ []) numbers counts (omega arith) (All-tail (IsBelow (length moves)) n numbers named)
    (λ j number m at has. each (suc j) number m at has
    ∙ ap (λ l. found_over job points (moves_of job.plan l) m) (sym (append_assoc ahead (n ∷ []) (take j numbers)))) in
    ap₂ (λ (a b : List Found). a ++ b) head rest

-- the row of a move as it is reported
pub told_row : (plan : PlanOf) (left : List LeftMove) (j : ℕ) (one : LeftMove) (counts : Counts) → AreTold plan left
    → slice_get left j ≡ Some one → found_told one counts ∷ [] ≡ row_of plan (get_or (left_of plan.edits) j 0) counts
told_row plan left j one counts told at =
    let number : ℕ = get_or (left_of plan.edits) j 0 in
    let here : IsTold plan number one = told.all.each j one at in
    row_is plan number counts (found_told one counts) here.below
    (λ move has. λ i. record {
      number = here.number_is i;
      line = here.line move has i;
      rapid = here.rapid move has i;
      counts = counts;
    })
