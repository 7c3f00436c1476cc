-- What is left of the stock of a ray, word by word, and what that says of its points.
use Rattle.std.proofs.Common.{◌≡◌, ◌≢◌, ℕ, ◌+◌, ◌*◌, ◌/◌, ◌%◌, ◌-◌, ◌^◌, ◌<◌, ◌≤◌, Bool, true, false, not, ◌&&◌, ◌||◌, List, length, slice_get, Result, Ok, Err, IfOk, Some, arith, refl, ap, ap₂, subst, ◌∙◌, ⊎_elim}
use Rattle.std.specs.Prelude.{bit_and}
use Rattle.std.proofs.lemmas.Bool.{cases_lt, eq-eqb, ne_eqb}
use Rattle.vf_io.specs.declared.answers.NoMemory.{NoMemory}
use Rattle.vf_spans.specs.Members.{has}
use Rattle.vf_spans.specs.Words.{has_bit, in_word}
use Rattle.dexel_rays.specs.Sets.{Sets}
use Rattle.dexel_rays.proofs.WordOnes.{minus_bit}
use Rattle.dexel_rays.specs.declared.word_sets.WordSets.{WordSets}
use Rattle.ray_words.specs.Rays.{IsWordAt}
use Rattle.ray_grid.specs.declared.ray.Ray.{Ray}
use Rattle.ray_grid.specs.Strips.{strip_at}
use Rattle.ray_shapes.specs.Sets.{HoldsPointsOf}
use Rattle.ray_words.specs.Rays.{KeptSets}
use Rattle.ray_words.specs.Rows.{kept_at}
use Rattle.strip_marks.specs.Marks.{ray_of, sets_of}
use Rattle.strip_marks.proofs.OnStrips.{ray_there}
use Rattle.strip_journal.specs.declared.journal.Journal.{Journal}
use Rattle.strip_journal.specs.Journals.{IsJournal, job_of, stock_at}
use Rattle.strip_journal.specs.Remaining.{HasRemaining, remains_at}
use Rattle.strip_journal.specs.Strips.{StripOf}
use Rattle.strip_journal.proofs.ToldFound.{strip_of}

-- what is left at an index
abbrev pub left_at : Sets → ℕ → Bool
left_at d l = has d.stock l && not (has d.sure l)

-- the words before a number are written
pub record AreWritten (d : Sets) (n : ℕ) (left : List Bool) : Type 0 where
  pub bound : length left ≡ length d.stock
  pub done : (l : ℕ) → l < length d.stock → l < 64 * n → has left l ≡ left_at d l
  pub rest : (l : ℕ) → l < length d.stock → 64 * n ≤ l → has left l ≡ false

-- the bit of an index in the word that is written
bit_left : (d : Sets) (n : ℕ) (word : WordSets) (bits l : ℕ) → IsWordAt d n word → word.sure < 2 ^ 64
    → bits ≡ bit_and word.stock (2 ^ 64 - 1 - word.sure) → l / 64 ≡ n → has_bit bits (l % 64) ≡ left_at d l
bit_left d n word bits l is fits same at =
    let b : ℕ = l % 64 in
    let low : b < 64 = omega arith in
    let place : 64 * n + b ≡ l = omega (arith, at) in
    ap (λ (w : ℕ). has_bit w b) same
    ∙ minus_bit word.stock word.sure b fits low
    ∙ ap₂ (λ x y. x && not y) (is.stock b low ∙ ap (has d.stock) place) (is.sure b low ∙ ap (has d.sure) place)

-- the index isn't one of the word
not_of_word : (n bits l : ℕ) → l / 64 ≢ n → in_word n bits l ≡ false
not_of_word n bits l other = ap (λ (b : Bool). b && has_bit bits (l % 64)) (ne_eqb (l / 64) n other)

of_word : (n bits l : ℕ) → l / 64 ≡ n → in_word n bits l ≡ has_bit bits (l % 64)
of_word n bits l at = ap (λ (b : Bool). b && has_bit bits (l % 64)) (eq-eqb (l / 64) n at)

or_none : (b : Bool) → (b || false) ≡ b
or_none true = refl
or_none false = refl

pub none_written : (d : Sets) (left : List Bool) → length left ≡ length d.stock → ((l : ℕ) → has left l ≡ false) → AreWritten d 0 left
none_written d left bound empty = record { bound = bound; done = λ l low past. absurd (omega (arith, past)); rest = λ l low past. empty l }

pub one_more_word : (d : Sets) (n : ℕ) (word : WordSets) (bits : ℕ) (left more : List Bool) → AreWritten d n left → IsWordAt d n word → word.sure < 2 ^ 64
    → bits ≡ bit_and word.stock (2 ^ 64 - 1 - word.sure) → length more ≡ length left
    → ((l : ℕ) → l < length left → has more l ≡ (has left l || in_word n bits l)) → AreWritten d (n + 1) more
one_more_word d n word bits left more before is fits same size added =
    let bound = before.bound in
    record {
      bound = size ∙ bound;
      done = λ l low lt. added l (omega (arith, low, bound))
          ∙ ⊎_elim
          (λ (early : l < 64 * n). ap₂ (λ x y. x || y) (before.done l low early) (not_of_word n bits l (λ e. omega (arith, e, early))) ∙ or_none (left_at d l))
          (λ (late : 64 * n ≤ l). let at : l / 64 ≡ n = omega (arith, late, lt) in
          ap₂ (λ x y. x || y) (before.rest l low late) (of_word n bits l at ∙ bit_left d n word bits l is fits same at))
          (cases_lt l (64 * n));
      rest = λ l low past. added l (omega (arith, low, bound))
          ∙ ap₂ (λ x y. x || y) (before.rest l low (omega (arith, past))) (not_of_word n bits l (λ e. omega (arith, e, past)));
    }

-- once all are written, what is left is there
pub all_written : (d : Sets) (n : ℕ) (left : List Bool) → length d.stock ≤ 64 * n → AreWritten d n left → HasRemaining d left
all_written d n left all written = record { bound = written.bound; points = λ l low. written.done l low (omega (arith, low, all)) }

left_of_stock : (a b : Bool) → (a && not (a && b)) ≡ (a && not b)
left_of_stock true b = refl
left_of_stock false b = refl

-- what is left of the stock of a ray that is kept is what is left of the job's there
holds_left : (j : Journal) (n : ℕ) (kept : KeptSets) (left : List Bool) → IsJournal (job_of j) j → n < length j.rays → kept ≡ kept_at j.rays n
    → HasRemaining kept.sets left
    → HoldsPointsOf j.plan.value.grid (ray_of j.plan.value.grid j.number n) (remains_at (job_of j) j.done) left
holds_left j n kept left is low same has =
    let here : HasRemaining (sets_of j.rays n) left = subst (λ (k : KeptSets). HasRemaining k.sets left) same has in
    let size = (is.newest.rays.bounds n low).stock in
    record {
      bound = here.bound ∙ size;
      points = λ l lt.
          here.points l (omega (arith, lt, size))
          ∙ ap₂ (λ x y. x && not y) ((is.newest.bodies n low).stock l lt) (is.newest.sure n l low lt)
          ∙ left_of_stock (stock_at (job_of j) j.number n l) _;
    }

pub all_left : (j : Journal) (n : ℕ) (kept : KeptSets) (made : Result (List Bool) NoMemory) → IsJournal (job_of j) j → n < length j.rays
    → kept ≡ kept_at j.rays n → IfOk made (HasRemaining kept.sets)
    → IfOk made (HoldsPointsOf j.plan.value.grid (ray_of j.plan.value.grid j.number n) (remains_at (job_of j) j.done))
all_left j n kept (Ok left) is low same has = holds_left j n kept left is low same has
all_left j n kept (Err e) is low same has = tt

-- the same of a strip with this journal
pub left_told : (j : Journal) (s : StripOf) (n : ℕ) (made : Result (List Bool) NoMemory) → strip_of j ≡ s
    → IfOk made (HoldsPointsOf j.plan.value.grid (ray_of j.plan.value.grid j.number n) (remains_at (job_of j) j.done))
    → (ray : Ray) → slice_get (strip_at s.job.plan.grid s.number) n ≡ Some ray
    → IfOk made (HoldsPointsOf s.job.plan.grid ray (remains_at s.job s.done))
left_told j s n made is told ray there =
    subst (λ (r : Ray). IfOk made (HoldsPointsOf s.job.plan.grid r (remains_at s.job s.done))) (ray_there s.job.plan.grid s.number n ray there)
    (subst (λ (t : StripOf). IfOk made (HoldsPointsOf t.job.plan.grid (ray_of t.job.plan.grid t.number n) (remains_at t.job t.done))) is told)
