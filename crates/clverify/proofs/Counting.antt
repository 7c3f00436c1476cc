-- Where `verify` without a script counts a possible point of the part or of the fixtures on the line of a move.
use Rattle.std.proofs.Common.{◌≡◌, ℕ, ◌+◌, ◌-◌, ◌<◌, ◌↔◌, Bool, true, false, ◌&&◌, ◌||◌, cond, List, [], ◌∷◌, ◌++◌, length, take, get_or, count_by, Some, arith, refl, ap, ap₂, subst, sym, ◌∙◌}
use Rattle.std.specs.List.{All, list_any, range_with_len, slice_get}
use Rattle.std.proofs.lemmas.List.FromFn.{get_or-range_with_len, length-range_with_len}
use Rattle.std.proofs.lemmas.List.Sums.{sum_by-cons}
use Rattle.std.proofs.lemmas.Option.{same_Some, slice_get-get_or, slice_get_within}
use Rattle.edit_plan.specs.Edits.{applied_moves, left_of, no_lists}
use Rattle.edit_plan.specs.declared.edit.Edit.{Edit}
use Rattle.edit_plan.proofs.ListLemmas.{left-applied}
use Rattle.ray_grid.specs.Points.{LatticePoint, lattice_of}
use Rattle.cert_boxes.specs.Made.{may_touch}
use Rattle.job_model.specs.Points.{is_fixture, is_part, is_possible, moves_of}
use Rattle.job_model.specs.Tasks.{Job, JobMove}
use Rattle.job_report.specs.Report.{facts_of, found_by, found_from}
use Rattle.job_report.specs.Tasks.{IsBelow, Task}
use Rattle.job_report.specs.declared.facts.Found.{Found}
use Rattle.job_report.proofs.Lined.{element, line_at, lines_many}
use Rattle.job_inputs.specs.Asked.{AskedMove, IsNumbered}
use Rattle.job_inputs.proofs.Found.{numbered_at}
use Rattle.clverify.specs.Commands.Certify.{CountsPossible, cert_task_of}

-- one point more, that passes one of two tests and a third
more_counted : (a b c rest : Bool) (m n : ℕ) → (rest ≡ true → 0 < m + n) → (((a || b) && c) || rest) ≡ true → 0 < (cond (a && c) 1 0 + m) + (cond (b && c) 1 0 + n)
more_counted true true true rest m n more h = omega arith
more_counted true false true rest m n more h = omega arith
more_counted false true true rest m n more h = omega arith
more_counted false false true rest m n more h = let some = more h in omega arith
more_counted true true false rest m n more h = let some = more h in omega arith
more_counted true false false rest m n more h = let some = more h in omega arith
more_counted false true false rest m n more h = let some = more h in omega arith
more_counted false false false rest m n more h = let some = more h in omega arith

more_any : (a b c rest : Bool) (m n : ℕ) → (0 < m + n → rest ≡ true) → 0 < (cond (a && c) 1 0 + m) + (cond (b && c) 1 0 + n) → (((a || b) && c) || rest) ≡ true
more_any true true true rest m n more h = refl
more_any true false true rest m n more h = refl
more_any false true true rest m n more h = refl
more_any false false true rest m n more h = more (omega arith)
more_any true true false rest m n more h = more (omega arith)
more_any true false false rest m n more h = more (omega arith)
more_any false true false rest m n more h = more (omega arith)
more_any false false false rest m n more h = more (omega arith)

-- the counts of one point more
counts_more : {P : Type 0} (p q r : P → Bool) (x : P) (xs : List P) → count_by (λ y. p y && r y) (x ∷ xs) + count_by (λ y. q y && r y) (x ∷ xs)
    ≡ (cond (p x && r x) 1 0 + count_by (λ y. p y && r y) xs) + (cond (q x && r x) 1 0 + count_by (λ y. q y && r y) xs)
counts_more p q r x xs = ap₂ (λ a b. a + b) (sum_by-cons (λ y. cond (p y && r y) 1 0) x xs) (sum_by-cons (λ y. cond (q y && r y) 1 0) x xs)

-- some point passes one of two tests and a third exactly where one of the counts isn't 0
any_counted : {P : Type 0} (p q r : P → Bool) (xs : List P) → list_any (λ x. (p x || q x) && r x) xs ≡ true
    → 0 < count_by (λ x. p x && r x) xs + count_by (λ x. q x && r x) xs
any_counted p q r [] h = cc
any_counted p q r (x ∷ xs) h =
    subst (λ (n : ℕ). 0 < n) (sym (counts_more p q r x xs))
    (more_counted (p x) (q x) (r x) (list_any (λ y. (p y || q y) && r y) xs) (count_by (λ y. p y && r y) xs) (count_by (λ y. q y && r y) xs) (any_counted p q r xs) h)

counted_any : {P : Type 0} (p q r : P → Bool) (xs : List P) → 0 < count_by (λ x. p x && r x) xs + count_by (λ x. q x && r x) xs
    → list_any (λ x. (p x || q x) && r x) xs ≡ true
counted_any p q r [] h = absurd (omega (arith, h))
counted_any p q r (x ∷ xs) h =
    more_any (p x) (q x) (r x) (list_any (λ y. (p y || q y) && r y) xs) (count_by (λ y. p y && r y) xs) (count_by (λ y. q y && r y) xs) (counted_any p q r xs)
    (subst (λ (n : ℕ). 0 < n) (counts_more p q r x xs) h)

-- the numbers of all moves
all_below : (n : ℕ) → All (IsBelow n) (range_with_len 0 n)
all_below n k d lt =
    let within : k < n = omega (arith, lt, length-range_with_len 0 n) in
    let same = get_or-range_with_len 0 n k d within in omega (arith, same, within)

number_at : (n j : ℕ) → j < n → slice_get (range_with_len 0 n) j ≡ Some j
number_at n j lt =
    slice_get-get_or (range_with_len 0 n) j 0 (omega (arith, lt, length-range_with_len 0 n)) ∙ ap Some (get_or-range_with_len 0 n j 0 lt ∙ omega arith)

-- all moves are left where each is applied once in order
all_left : (edits : List Edit) (n : ℕ) → edits ≡ applied_moves 0 n → left_of edits ≡ range_with_len 0 n
all_left edits n whole = ap left_of whole ∙ left-applied no_lists 0 n

-- the line of a move in the report
record IsLine (task : Task) (j : ℕ) (move : JobMove) : Type 0 where
  found : Found
  reported : slice_get (facts_of task).left j ≡ Some found
  before : List JobMove
  is : found ≡ found_by task.job before j move

line_of : (task : Task) (j : ℕ) (move : JobMove) → task.job.plan.edits ≡ applied_moves 0 (length task.job.plan.moves)
    → slice_get task.job.plan.moves j ≡ Some move → IsLine task j move
line_of task j move whole at =
    let job = task.job in let n = length job.plan.moves in let numbers = range_with_len 0 n in
    let within : j < n = slice_get_within job.plan.moves j move at in
    let many : length (found_from job [] numbers) ≡ n = lines_many job [] numbers (all_below n) ∙ length-range_with_len 0 n in
    let here = element (found_from job [] numbers) j (omega (arith, many, within)) in
    let line = line_at job [] numbers j j here.0 (all_below n) (number_at n j within) here.1 in
    let same : line.move ≡ move = same_Some line.move move (sym line.at ∙ at) in record {
      found = here.0;
      reported = ap (λ (ns : List ℕ). slice_get (found_from job [] ns) j) (all_left job.plan.edits n whole) ∙ here.1;
      before = moves_of job.plan ([] ++ take j numbers);
      is = line.is ∙ ap (λ (m : JobMove). found_by job (moves_of job.plan ([] ++ take j numbers)) j m) same;
    }

-- a possible point is counted exactly where some point may be touched
pub counts_possible : (asked : AskedMove) → IsNumbered asked
    → (may_touch (cert_task_of asked) asked.task.job.plan.slabs asked.task.job.plan.depth ≡ true) ↔ CountsPossible asked
counts_possible asked numbered =
    let task = asked.task in let job = task.job in let move = asked.asked in
    let found = numbered_at asked.number job.plan.moves move numbered.numbered in
    let some : 0 < asked.number = found.0 in
    let line = line_of task (asked.number - 1) move numbered.whole found.1 in
    let points = lattice_of job.plan.grid in (
      λ touched. record {
        found = line.found;
        reported = line.reported;
        numbered = ap (λ (f : Found). f.number) line.is ∙ omega arith;
        some = subst (λ (f : Found). 0 < f.counts.part_possible + f.counts.fix_possible) (sym line.is)
            (any_counted (is_part job) (is_fixture job) (is_possible job.plan move) points touched);
      },
      λ counted.
          let same : counted.found ≡ line.found = same_Some counted.found line.found (sym counted.reported ∙ line.reported) in
          counted_any (is_part job) (is_fixture job) (is_possible job.plan move) points
          (subst (λ (f : Found). 0 < f.counts.part_possible + f.counts.fix_possible) (same ∙ line.is) counted.some),
    )
