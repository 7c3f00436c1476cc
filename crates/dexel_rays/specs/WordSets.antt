-- The five sets of a ray at 64 of its points, as words: bit b is the point at the index first + b.
use Rattle.std.specs.Prelude.{◌≡◌, ℕ, ◌<◌, Bool, IsTrue, not, ◌&&◌, ◌||◌}
use Rattle.vf_spans.specs.Members.{count_below}
use Rattle.vf_spans.specs.Words.{has_bit}
use Rattle.job_counts.specs.declared.totals.Totals.{Totals}
use Rattle.dexel_rays.specs.declared.word_sets.WordDelta.{WordDelta}
use Rattle.dexel_rays.specs.declared.word_sets.WordSets.{WordSets}
use Rattle.dexel_rays.specs.Findings.{Seen}

-- what is known of the point at bit b at a move that is sure, and possible, at these bits
abbrev pub seen_by : WordSets → (ℕ → Bool) → (ℕ → Bool) → Bool → ℕ → Seen
seen_by w sure possible rapid b = record {
  stock = has_bit w.stock b;
  part = has_bit w.part b;
  fixture = has_bit w.fixture b;
  sure_before = has_bit w.sure b;
  possible_before = has_bit w.possible b;
  sure = sure b;
  possible = possible b;
  rapid = rapid;
}

-- the same at a move that marks the bits of two words
abbrev pub seen_bit : WordSets → ℕ → ℕ → Bool → ℕ → Seen
seen_bit w sure possible rapid b = seen_by w (has_bit sure) (has_bit possible) rapid b

-- at each point of which some move was sure one was possible
abbrev pub SureIsPossible : WordSets → Type 0
SureIsPossible w = (b : ℕ) → b < 64 → IsTrue (has_bit w.sure b) → IsTrue (has_bit w.possible b)

-- the delta has the stock points that a move marks and that were not in the sets
pub record IsWordDelta (before : WordSets) (sure possible : ℕ) (delta : WordDelta) : Type 0 where
  pub new_sure : (b : ℕ) → b < 64 → has_bit delta.sure b ≡ (has_bit before.stock b && (has_bit sure b && not (has_bit before.sure b)))
  pub new_possible : (b : ℕ) → b < 64
      → has_bit delta.possible b ≡ (has_bit before.stock b && (has_bit possible b && not (has_bit before.possible b)))

-- the sets with a delta's points; the bodies stay
pub record IsWordWith (before : WordSets) (delta : WordDelta) (after : WordSets) : Type 0 where
  pub stock : after.stock ≡ before.stock
  pub part : after.part ≡ before.part
  pub fixture : after.fixture ≡ before.fixture
  pub all_sure : (b : ℕ) → b < 64 → has_bit after.sure b ≡ (has_bit before.sure b || has_bit delta.sure b)
  pub all_possible : (b : ℕ) → b < 64 → has_bit after.possible b ≡ (has_bit before.possible b || has_bit delta.possible b)

-- the sets without a delta's points; the bodies stay
pub record IsWordWithout (before : WordSets) (delta : WordDelta) (after : WordSets) : Type 0 where
  pub stock : after.stock ≡ before.stock
  pub part : after.part ≡ before.part
  pub fixture : after.fixture ≡ before.fixture
  pub left_sure : (b : ℕ) → b < 64 → has_bit after.sure b ≡ (has_bit before.sure b && not (has_bit delta.sure b))
  pub left_possible : (b : ℕ) → b < 64 → has_bit after.possible b ≡ (has_bit before.possible b && not (has_bit delta.possible b))

-- how many of the 64 points are stock of which some move was sure, how many stock at which one was possible, and how many stock
abbrev pub word_totals : WordSets → Totals
word_totals w = record {
  removed = count_below 64 (λ b. has_bit w.stock b && has_bit w.sure b);
  possible = count_below 64 (λ b. has_bit w.stock b && has_bit w.possible b);
  of = count_below 64 (has_bit w.stock);
}
