-- A set as words of 64 flags each: bit b of word n is the flag at 64 n + b.
use Rattle.std.specs.Prelude.{◌≡◌, ℕ, ◌+◌, ◌*◌, ◌/◌, ◌%◌, ◌<◌, ◌≤◌, Bool, true, false, not, ◌&&◌, nat_eq, if◌then◌else◌, List, [], ◌∷◌, length, map, slice_index}
use Rattle.std.specs.List.{range_with_len}
use Rattle.std.specs.Int.{bit_at}
use Rattle.vf_spans.specs.Members.{has}

-- the bit of a number is set
unfoldable pub has_bit : ℕ → ℕ → Bool
has_bit word b = nat_eq (bit_at word b) 1

-- the flag at an index, by its word
abbrev pub in_words : List ℕ → ℕ → Bool
in_words words i = has_bit (slice_index words (i / 64)) (i % 64)

-- the index is one of word n, and these bits, taken as that word, have it
abbrev pub in_word : ℕ → ℕ → ℕ → Bool
in_word n bits i = nat_eq (i / 64) n && has_bit bits (i % 64)

-- how many words a set below the bound has
abbrev pub words_below : ℕ → ℕ
words_below bound = (bound + 63) / 64

-- the set below a bound that has these words
abbrev pub flags_of_words : ℕ → List ℕ → List Bool
flags_of_words bound words = map (in_words words) (range_with_len 0 bound)

-- the words are those of a set below the bound: they are as many as it has, and no bit is set at or beyond the bound
pub record AreWords (bound : ℕ) (words : List ℕ) : Type 0 where
  pub size : length words ≡ words_below bound
  pub within : (i : ℕ) → bound ≤ i → in_words words i ≡ false

-- r is the least index from i on whose flag is the one sought
pub record IsFirstFlag (words : List ℕ) (sought : Bool) (i r : ℕ) : Type 0 where
  pub from : i ≤ r
  pub within : r < 64 * length words
  pub found : in_words words r ≡ sought
  pub before : (k : ℕ) → i ≤ k → k < r → in_words words k ≡ not sought

-- no flag of the words from i on is the one sought
abbrev pub HasNoFlag : List ℕ → Bool → ℕ → Type 0
HasNoFlag words sought i = (k : ℕ) → i ≤ k → k < 64 * length words → in_words words k ≡ not sought

-- the number with these bits, the lowest first
abbrev pub number_of_bits : List Bool → ℕ
number_of_bits [] = 0
number_of_bits (bit ∷ bits) = (if bit then 1 else 0) + 2 * number_of_bits bits

-- word n of a set
unfoldable pub word_of_set : List Bool → ℕ → ℕ
word_of_set set n = number_of_bits (map (λ b. has set (64 * n + b)) (range_with_len 0 64))

-- the set has no index from i on
abbrev pub HasNoneFrom : List Bool → ℕ → Type 0
HasNoneFrom set i = (k : ℕ) → i ≤ k → has set k ≡ false

-- r is the least index of the set that is at least i
pub record IsNext (set : List Bool) (i r : ℕ) : Type 0 where
  pub from : i ≤ r
  pub member : has set r ≡ true
  pub least : (k : ℕ) → i ≤ k → k < r → has set k ≡ false

-- from i up to r, r excluded, the set has each index, and it has not r
pub record IsRun (set : List Bool) (i r : ℕ) : Type 0 where
  pub from : i ≤ r
  pub within : r ≤ length set
  pub members : (k : ℕ) → i ≤ k → k < r → has set k ≡ true
  pub ends : has set r ≡ false
