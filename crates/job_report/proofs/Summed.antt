-- What the lines count as removed, or as possible, adds up to the totals.
use Rattle.std.proofs.Common.{◌≡◌, true, false, not, ℕ, ◌+◌, Bool, cond, ◌&&◌, ◌||◌, List, [], ◌∷◌, ◌++◌, take, drop, map, count_by, sum_by, arith, refl, sym, ap, ap₂, zero-add, ◌∙◌}
use Rattle.std.specs.List.{list_any}
use Rattle.std.proofs.lemmas.List.{append-nil, append_assoc}
use Rattle.std.proofs.lemmas.List.Sums.{sum_by-append, sum_by-cons}
use Rattle.ray_grid.specs.Points.{LatticePoint, lattice_of}
use Rattle.job_model.specs.Points.{is_stock, moves_of}
use Rattle.job_model.specs.Tasks.{Job, JobMove}
use Rattle.job_model.proofs.Sums.{flat_append}
use Rattle.job_report.specs.Report.{found_by, found_from}
use Rattle.job_report.specs.declared.facts.Found.{Found}

-- two tests that share no element, and the test that is either
count_either : {X : Type 0} (p q r : X → Bool) (xs : List X) → ((x : X) → cond (p x) 1 0 + cond (q x) 1 0 ≡ cond (r x) 1 0)
    → count_by p xs + count_by q xs ≡ count_by r xs
count_either p q r [] either = refl
count_either p q r (x ∷ xs) either =
    let of_p = sum_by-cons (λ y. cond (p y) 1 0) x xs in
    let of_q = sum_by-cons (λ y. cond (q y) 1 0) x xs in
    let of_r = sum_by-cons (λ y. cond (r y) 1 0) x xs in
    let here = either x in
    let rest = count_either p q r xs either in
    omega (arith, of_p, of_q, of_r, here, rest)

count_none : {X : Type 0} (p : X → Bool) (xs : List X) → ((x : X) → p x ≡ false) → count_by p xs ≡ 0
count_none p [] none = refl
count_none p (x ∷ xs) none =
    sum_by-cons (λ y. cond (p y) 1 0) x xs ∙ ap₂ (λ (b : Bool) (n : ℕ). cond b 1 0 + n) (none x) (count_none p xs none)

-- a point that a move takes first, or that was taken before it, is taken
first_or_before : (stock before now : Bool) → cond (stock && (now && not before)) 1 0 + cond (stock && before) 1 0 ≡ cond (stock && (before || (now || false))) 1 0
first_or_before true true true = refl
first_or_before true true false = refl
first_or_before true false true = refl
first_or_before true false false = refl
first_or_before false before now = refl

or_assoc : (a b c : Bool) → (a || (b || c)) ≡ ((a || b) || c)
or_assoc true b c = refl
or_assoc false b c = refl

any_push : {X : Type 0} (p : X → Bool) (xs : List X) (y : X) → list_any p (xs ++ y ∷ []) ≡ (list_any p xs || (p y || false))
any_push p [] y = refl
any_push p (x ∷ xs) y = ap (λ b. p x || b) (any_push p xs y) ∙ or_assoc (p x) (list_any p xs) (p y || false)

never : (b : Bool) → (b && false) ≡ false
never true = refl
never false = refl

-- the stock points that some of the moves takes
abbrev taken : Job → (JobMove → LatticePoint → Bool) → List JobMove → ℕ
taken job takes moves = count_by (λ p. is_stock job p && list_any (λ m. takes m p) moves) (lattice_of job.plan.grid)

-- the stock points that a move takes first
abbrev newly_taken : Job → (JobMove → LatticePoint → Bool) → List JobMove → JobMove → ℕ
newly_taken job takes before move =
    count_by (λ p. is_stock job p && (takes move p && not (list_any (λ m. takes m p) before))) (lattice_of job.plan.grid)

one_more : (job : Job) (takes : JobMove → LatticePoint → Bool) (before : List JobMove) (move : JobMove)
    → newly_taken job takes before move + taken job takes before ≡ taken job takes (before ++ move ∷ [])
one_more job takes before move =
    count_either (λ p. is_stock job p && (takes move p && not (list_any (λ m. takes m p) before))) (λ p. is_stock job p && list_any (λ m. takes m p) before)
    (λ p. is_stock job p && list_any (λ m. takes m p) (before ++ move ∷ [])) (lattice_of job.plan.grid)
    (λ p. first_or_before (is_stock job p) (list_any (λ m. takes m p) before) (takes move p)
    ∙ ap (λ b. cond (is_stock job p && b) 1 0) (sym (any_push (λ m. takes m p) before move)))

-- a number on a line that counts what its move takes first
module _ (job : Job) (takes : JobMove → LatticePoint → Bool) (number_on : Found → ℕ)
    (counts : (before : List JobMove) (number : ℕ) (move : JobMove) → number_on (found_by job before number move) ≡ newly_taken job takes before move) where
  -- the move with a number, which is the first of the rest of the program's moves, where there is one
  by_number : (before rest : List JobMove) (number : ℕ)
      → sum_by number_on (map (found_by job before number) (take 1 rest)) + taken job takes before ≡ taken job takes (before ++ (take 1 rest ++ []))
  by_number before [] number = zero-add (taken job takes before) ∙ ap (taken job takes) (sym (append-nil before))
  by_number before (move ∷ rest) number =
      let e = counts before number move in
      let m = one_more job takes before move in
      omega (arith, e, m)

  pub summed : (ahead numbers : List ℕ)
      → sum_by number_on (found_from job ahead numbers) + taken job takes (moves_of job.plan ahead) ≡ taken job takes (moves_of job.plan (ahead ++ numbers))
  summed ahead [] =
      zero-add (taken job takes (moves_of job.plan ahead)) ∙ ap (λ (l : List ℕ). taken job takes (moves_of job.plan l)) (sym (append-nil ahead))
  summed ahead (n ∷ ns) =
      let lines = map (found_by job (moves_of job.plan ahead) n) (take 1 (drop n job.plan.moves)) in
      let apart = sum_by-append number_on lines (found_from job (ahead ++ n ∷ []) ns) in
      let here = by_number (moves_of job.plan ahead) (drop n job.plan.moves) n in
      let same = ap (taken job takes) (flat_append (λ k. take 1 (drop k job.plan.moves)) ahead (n ∷ [])) in
      let rest = summed (ahead ++ n ∷ []) ns in
      let all = ap (λ (l : List ℕ). taken job takes (moves_of job.plan l)) (append_assoc ahead (n ∷ []) ns) in
      omega (arith, apart, here, same, rest, all)

  -- over all lines
  pub summed_all : (numbers : List ℕ) → sum_by number_on (found_from job [] numbers) ≡ taken job takes (moves_of job.plan numbers)
  summed_all numbers =
      let all = summed [] numbers in
      let none = count_none (λ p. is_stock job p && false) (lattice_of job.plan.grid) (λ p. never (is_stock job p)) in
      omega (arith, all, none)
