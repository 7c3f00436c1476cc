-- The five sets of a ray, of which a stretch is kept as words.
use Rattle.std.specs.Prelude.{◌≡◌, ℕ, ◌+◌, ◌*◌, ◌<◌, ◌≤◌, Bool, true, false, not, ◌&&◌, ◌||◌, [], length}
use Rattle.vf_spans.specs.Members.{has, in_range}
use Rattle.vf_spans.specs.Words.{has_bit, in_word}
use Rattle.dexel_rays.specs.declared.word_sets.WordDelta.{WordDelta}
use Rattle.dexel_rays.specs.declared.word_sets.WordSets.{WordSets}
use Rattle.dexel_rays.specs.Asked.{is_wanted}
use Rattle.dexel_rays.specs.Sets.{HaveBound, Sets, seen_at}

-- the sets, and of which words the stretch consists: `count` of them from the first on
pub record KeptSets : Type 0 where
  pub sets : Sets
  pub first : ℕ
  pub count : ℕ

-- a word of the stretch
pub record IsKept (r : KeptSets) (n : ℕ) : Type 0 where
  pub from : r.first ≤ n
  pub below : n < r.first + r.count

-- the five words are those of the sets at the indices from 64 n on; beyond the bound no bit is set
pub record IsWordAt (d : Sets) (n : ℕ) (w : WordSets) : Type 0 where
  pub stock : (b : ℕ) → b < 64 → has_bit w.stock b ≡ has d.stock (64 * n + b)
  pub part : (b : ℕ) → b < 64 → has_bit w.part b ≡ has d.part (64 * n + b)
  pub fixture : (b : ℕ) → b < 64 → has_bit w.fixture b ≡ has d.fixture (64 * n + b)
  pub sure : (b : ℕ) → b < 64 → has_bit w.sure b ≡ has d.sure (64 * n + b)
  pub possible : (b : ℕ) → b < 64 → has_bit w.possible b ≡ has d.possible (64 * n + b)

-- the point of this index is a candidate for a move; what the move marks, and whether it is rapid, doesn't matter
abbrev pub is_wanted_at : Sets → ℕ → Bool
is_wanted_at d i = is_wanted (seen_at d [] [] false i)

-- at no index of a range has a move to be tested
abbrev pub HasNoneWanted : Sets → ℕ × ℕ → Type 0
HasNoneWanted d range = (l : ℕ) → in_range l range ≡ true → is_wanted_at d l ≡ false

-- a range within a window that has each index of the window that is a candidate
pub record HasAllWanted (d : Sets) (window range : ℕ × ℕ) : Type 0 where
  pub from : window.0 ≤ range.0
  pub order : range.0 ≤ range.1
  pub to : range.1 ≤ window.1
  pub all : (l : ℕ) → in_range l window ≡ true → is_wanted_at d l ≡ true → in_range l range ≡ true

-- each bit of the word n is an index below the bound
abbrev pub IsBelow : ℕ → ℕ → ℕ → Type 0
IsBelow bound n word = (b : ℕ) → b < 64 → has_bit word b ≡ true → 64 * n + b < bound

-- the sets with the points of a delta in word n; the bodies stay
pub record IsGiven (before : Sets) (n : ℕ) (delta : WordDelta) (after : Sets) : Type 0 where
  pub stock : after.stock ≡ before.stock
  pub part : after.part ≡ before.part
  pub fixture : after.fixture ≡ before.fixture
  pub sure_bound : length after.sure ≡ length before.sure
  pub possible_bound : length after.possible ≡ length before.possible
  pub sure : (i : ℕ) → has after.sure i ≡ (has before.sure i || in_word n delta.sure i)
  pub possible : (i : ℕ) → has after.possible i ≡ (has before.possible i || in_word n delta.possible i)

-- the sets without them
pub record IsTaken (before : Sets) (n : ℕ) (delta : WordDelta) (after : Sets) : Type 0 where
  pub stock : after.stock ≡ before.stock
  pub part : after.part ≡ before.part
  pub fixture : after.fixture ≡ before.fixture
  pub sure_bound : length after.sure ≡ length before.sure
  pub possible_bound : length after.possible ≡ length before.possible
  pub sure : (i : ℕ) → has after.sure i ≡ (has before.sure i && not (in_word n delta.sure i))
  pub possible : (i : ℕ) → has after.possible i ≡ (has before.possible i && not (in_word n delta.possible i))

-- the sets where no move was sure or possible at any point; the bodies stay
pub record IsCleared (before after : Sets) : Type 0 where
  pub stock : after.stock ≡ before.stock
  pub part : after.part ≡ before.part
  pub fixture : after.fixture ≡ before.fixture
  pub sure : (i : ℕ) → has after.sure i ≡ false
  pub possible : (i : ℕ) → has after.possible i ≡ false
  pub bound : HaveBound (length before.stock) after
