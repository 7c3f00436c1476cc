-- How the sets of a ray are kept: the bodies as they are, and what is sure and possible as bits of the words of a stretch.
use Rattle.std.specs.Prelude.{◌≡◌, ℕ, ◌+◌, ◌-◌, ◌*◌, ◌/◌, ◌%◌, ◌<◌, ◌≤◌, Bool, false, nat_le, if◌then◌else◌, List, length, map, slice_index_or}
use Rattle.std.specs.List.{range_with_len}
use Rattle.vf_spans.specs.Members.{has}
use Rattle.vf_spans.specs.Words.{has_bit, words_below}
use Rattle.dexel_rays.specs.declared.word_sets.WordSets.{WordSets}
use Rattle.dexel_rays.specs.Sets.{Sets}
use Rattle.ray_words.specs.Rays.{IsWordAt, KeptSets}

-- five words in which no bit is set
abbrev pub no_bits : WordSets
no_bits = record { stock = 0; part = 0; fixture = 0; sure = 0; possible = 0 }

-- the five words that a stretch from the first word on has as word n; outside the stretch no bit is set
abbrev pub word_at : ℕ → List WordSets → ℕ → WordSets
word_at first words n = if nat_le first n then slice_index_or words (n - first) no_bits else no_bits

-- the flag at an index, by the word that is picked from the five
abbrev pub mark_at : (WordSets → ℕ) → ℕ → List WordSets → ℕ → Bool
mark_at pick first words i = has_bit (pick (word_at first words (i / 64))) (i % 64)

-- the set below a bound that the picked words of a stretch are
abbrev pub marks_of : (WordSets → ℕ) → ℕ → ℕ → List WordSets → List Bool
marks_of pick bound first words = map (mark_at pick first words) (range_with_len 0 bound)

-- the five sets of three bodies and a stretch of words
abbrev pub sets_of : List Bool → List Bool → List Bool → ℕ → List WordSets → Sets
sets_of stock part fixture first words = record {
  stock = stock;
  part = part;
  fixture = fixture;
  sure = marks_of (λ w. w.sure) (length stock) first words;
  possible = marks_of (λ w. w.possible) (length stock) first words;
}

-- and what callers see of a ray that is kept so
abbrev pub kept_of : List Bool → List Bool → List Bool → ℕ → List WordSets → KeptSets
kept_of stock part fixture first words = record {
  sets = sets_of stock part fixture first words;
  first = first;
  count = length words;
}

-- the bodies have one bound, the stretch is among the words below it, and each of its words has the bits of the five sets; so beyond
-- the bound none of its bits is set
pub record IsWordRay (stock part fixture : List Bool) (first : ℕ) (words : List WordSets) : Type 0 where
  pub part_bound : length part ≡ length stock
  pub fixture_bound : length fixture ≡ length stock
  pub within : first + length words ≤ words_below (length stock)
  pub bits : (n : ℕ) → first ≤ n → n < first + length words → IsWordAt (sets_of stock part fixture first words) n (word_at first words n)

-- a word at which no move was sure and none possible
pub record IsUnmarked (d : Sets) (n : ℕ) : Type 0 where
  pub sure : (b : ℕ) → b < 64 → has d.sure (64 * n + b) ≡ false
  pub possible : (b : ℕ) → b < 64 → has d.possible (64 * n + b) ≡ false

-- the words are those of the sets from the first one on
abbrev pub AreWordsFrom : Sets → ℕ → List WordSets → Type 0
AreWordsFrom d first words = (k : ℕ) → k < length words → IsWordAt d (first + k) (slice_index_or words k no_bits)

-- a stretch from its first word on and below its end: it has the words from lo on and below hi, and all those that are kept
pub record IsStretch (r : KeptSets) (lo hi : ℕ) (s : ℕ × ℕ) : Type 0 where
  pub from : s.0 ≤ lo
  pub to : hi ≤ s.1
  pub within : s.1 ≤ words_below (length r.sets.stock)
  pub kept_from : 0 < r.count → s.0 ≤ r.first
  pub kept_to : 0 < r.count → r.first + r.count ≤ s.1
