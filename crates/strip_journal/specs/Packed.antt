-- Changes in less memory than their words take.
use Rattle.std.specs.Prelude.{◌≡◌, ℕ, ◌*◌, ◌-◌, ◌/◌, ◌%◌, ◌^◌, ◌<◌, ◌≤◌, ◌==◌, if◌then◌else◌, All, List, length, slice_index_or}
use Rattle.strip_marks.specs.declared.change.WordChange.{WordChange}
use Rattle.strip_journal.specs.declared.packed.PackedChange.{PackedChange}

-- what a list of changes is seen as: the changes, and for how many more there is room
pub record KeptChanges : Type 0 where
  pub items : List WordChange
  pub room : ℕ

-- the number of no point of a ray
abbrev pub whole_mark : ℕ
whole_mark = 2 ^ 32 - 1

-- no change, for a place beyond the last
abbrev pub no_change : WordChange
no_change = record { ray = 0; word = 0; sure = 0; possible = 0 }

-- a change by its masks, which count from a point of the word
abbrev pub as_word_change : PackedChange → WordChange
as_word_change p = record {
  ray = p.ray;
  word = p.first / 64;
  sure = p.sure * 2 ^ (p.first % 64) % 2 ^ 64;
  possible = p.possible * 2 ^ (p.first % 64) % 2 ^ 64;
}

-- the points of a change lie close together: masks of 32 bits give it
pub record IsClose (change : WordChange) : Type 0 where
  pub packed : PackedChange
  pub first : packed.first < whole_mark
  pub sure : packed.sure < 2 ^ 32
  pub possible : packed.possible < 2 ^ 32
  pub is : as_word_change packed ≡ change

-- a change by its masks, or, where it is marked, the one that is kept whole
abbrev pub unpacked : List WordChange → PackedChange → WordChange
unpacked whole p = if p.first == whole_mark then slice_index_or whole p.ray no_change else as_word_change p

-- where it is marked, one is kept whole
pub record IsHeld (whole : ℕ) (p : PackedChange) : Type 0 where
  pub low : p.first ≡ whole_mark → p.ray < whole

-- each so, and no more are kept whole than there are
pub record ArePacked (whole : List WordChange) (packed : List PackedChange) : Type 0 where
  pub few : length whole ≤ length packed
  pub held : All (IsHeld (length whole)) packed
