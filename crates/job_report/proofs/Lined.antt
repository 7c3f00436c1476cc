-- The lines of the moves that are left are true.
use Rattle.std.proofs.Common.{◌≡◌, ℕ, zero, suc, ◌<◌, List, [], ◌∷◌, ◌++◌, Some, take, drop, length, map, arith, refl, sym, subst, ap, ◌∙◌}
use Rattle.std.specs.List.{All, slice_get}
use Rattle.std.proofs.lemmas.List.{append-nil, append_assoc}
use Rattle.std.proofs.lemmas.List.Elements.{All-get_or, All-head, All-tail}
use Rattle.std.proofs.lemmas.Option.{get_or_from_slice_get, none-some, same_Some, slice_get_within}
use Rattle.job_model.specs.Points.{moves_of}
use Rattle.job_model.specs.Tasks.{IsJobMove, IsPlan, Job, JobMove}
use Rattle.job_model.proofs.Lists.{moves_valid}
use Rattle.job_model.proofs.Safe.{safe_move_keeps_off}
use Rattle.job_report.specs.Report.{found_by, found_from}
use Rattle.job_report.specs.Tasks.{IsBelow}
use Rattle.job_report.specs.Truth.{AreTrueLines, IsTrueLine}
use Rattle.job_report.specs.declared.facts.Found.{Found}
use Rattle.job_report.proofs.Judged.{judge_of}

-- the element at an index, as the only one of a list
alone : {X : Type 0} (xs : List X) (i : ℕ) (x : X) → slice_get xs i ≡ Some x → take 1 (drop i xs) ≡ x ∷ []
alone [] i x at = absurd (none-some x at)
alone (y ∷ ys) zero x at = ap (λ z. z ∷ []) (same_Some y x at)
alone (y ∷ ys) (suc i) x at = alone ys i x at

-- a number below the length has an element
pub element : {X : Type 0} (xs : List X) (i : ℕ) → i < length xs → (x : X) × (slice_get xs i ≡ Some x)
element [] i lt = absurd (omega arith)
element (x ∷ xs) zero lt = (x, refl)
element (x ∷ xs) (suc i) lt = element xs i (omega (arith, lt))

-- the first of the lines
headed : (job : Job) (before numbers : List ℕ) (number : ℕ) (move : JobMove) → slice_get job.plan.moves number ≡ Some move
    → found_from job before (number ∷ numbers) ≡ found_by job (moves_of job.plan before) number move ∷ found_from job (before ++ number ∷ []) numbers
headed job before numbers number move at =
    ap (λ (moves : List JobMove). map (found_by job (moves_of job.plan before) number) moves ++ found_from job (before ++ number ∷ []) numbers)
    (alone job.plan.moves number move at)

-- a line for each number
pub lines_many : (job : Job) (before numbers : List ℕ) → All (IsBelow (length job.plan.moves)) numbers → length (found_from job before numbers) ≡ length numbers
lines_many job before [] named = refl
lines_many job before (n ∷ ns) named =
    let here = element job.plan.moves n (All-head (IsBelow (length job.plan.moves)) n ns named) in
    ap (λ (lines : List Found). length lines) (headed job before ns n here.0 here.1)
    ∙ ap (λ k. suc k) (lines_many job (before ++ n ∷ []) ns (All-tail (IsBelow (length job.plan.moves)) n ns named))

-- the line of a move of the job
pub record IsLineOf (job : Job) (before : List ℕ) (number : ℕ) (found : Found) : Type 0 where
  pub move : JobMove
  pub at : slice_get job.plan.moves number ≡ Some move
  pub is : found ≡ found_by job (moves_of job.plan before) number move

pub line_at : (job : Job) (before numbers : List ℕ) (j number : ℕ) (found : Found) → All (IsBelow (length job.plan.moves)) numbers
    → slice_get numbers j ≡ Some number → slice_get (found_from job before numbers) j ≡ Some found → IsLineOf job (before ++ take j numbers) number found
line_at job before [] j number found named at line = absurd (none-some number at)
line_at job before (n ∷ ns) zero number found named at line =
    let here = element job.plan.moves n (All-head (IsBelow (length job.plan.moves)) n ns named) in
    let first = sym (ap (λ (lines : List Found). slice_get lines 0) (headed job before ns n here.0 here.1)) ∙ line in
    let of_n : IsLineOf job (before ++ []) n found = record {
      move = here.0;
      at = here.1;
      is = sym (same_Some (found_by job (moves_of job.plan before) n here.0) found first)
          ∙ ap (λ (b : List ℕ). found_by job (moves_of job.plan b) n here.0) (sym (append-nil before));
    } in
    subst (λ (k : ℕ). IsLineOf job (before ++ []) k found) (same_Some n number at) of_n
line_at job before (n ∷ ns) (suc j) number found named at line =
    let here = element job.plan.moves n (All-head (IsBelow (length job.plan.moves)) n ns named) in
    let next = sym (ap (λ (lines : List Found). slice_get lines (suc j)) (headed job before ns n here.0 here.1)) ∙ line in
    let rest = line_at job (before ++ n ∷ []) ns j number found (All-tail (IsBelow (length job.plan.moves)) n ns named) at next in
    subst (λ (b : List ℕ). IsLineOf job b number found) (append_assoc before (n ∷ []) (take j ns)) rest

-- such a line is true
line_is_true : (job : Job) (before : List ℕ) (number : ℕ) (found : Found) → IsPlan job.plan → IsLineOf job before number found
    → IsTrueLine job (judge_of job.plan) (moves_of job.plan before) number found
line_is_true job before number found valid line =
    let moves = job.plan.moves in
    let move_valid = subst IsJobMove (get_or_from_slice_get moves number line.move line.move line.at)
    (All-get_or IsJobMove moves number line.move (slice_get_within moves number line.move line.at) valid.moves) in
    subst (λ (f : Found). IsTrueLine job (judge_of job.plan) (moves_of job.plan before) number f) (sym line.is) record {
      move = line.move;
      is_move = line.at;
      number_is = refl;
      line_is = refl;
      rapid_is = refl;
      counted = record {
        removed = refl;
        possible = refl;
        part_sure = refl;
        part_possible = refl;
        fix_sure = refl;
        fix_possible = refl;
        rapid_sure = refl;
        rapid_possible = refl;
      };
      safe = λ safe. safe_move_keeps_off job (moves_of job.plan before) line.move valid.some (moves_valid job.plan before valid.moves) move_valid safe;
    }

pub true_lines : (job : Job) (numbers : List ℕ) → IsPlan job.plan → All (IsBelow (length job.plan.moves)) numbers
    → AreTrueLines job (judge_of job.plan) numbers (found_from job [] numbers)
true_lines job numbers valid named = record {
  many = lines_many job [] numbers named;
  each = λ j number found at line. line_is_true job (take j numbers) number found valid (line_at job [] numbers j number found named at line);
}
