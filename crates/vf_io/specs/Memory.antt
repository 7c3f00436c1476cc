-- What a shelf and a sink in memory keep, and which of their calls fail.
use Rattle.std.specs.Prelude.{◌≡◌, ℕ, ◌+◌, ◌-◌, ◌<◌, ◌==◌, ◌||◌, min, Bool, nat_lt, List, [], length, is_none, unwrap_or, if◌then◌else◌}
use Rattle.std.specs.List.{list_any, slice_get}
use Rattle.std.specs.Option.{option_map}
use Rattle.std.specs.Ordering.{nat_cmp}
use Rattle.std.specs.Cmp.Lexicographic.{slice_cmp}
use Rattle.std.specs.FinMap as finite
use Rattle.vf_io.specs.Causes.{most_faults}

-- names with the bytes of their files, of which the first of a name counts
abbrev pub FileList : Type 0
FileList = List (List ℕ × List ℕ)

-- one more, up to the greatest number
abbrev pub raised : ℕ → ℕ
raised n = min (n + 1) most_faults

-- the number of this call is among the failing ones
abbrev pub fails_now : List ℕ → ℕ → Bool
fails_now failing call = list_any (λ number. number == call) failing

-- the count of faults after a call that failed or did not
abbrev pub faults_behind : Bool → ℕ → ℕ
faults_behind failed before = if failed then raised before else before

-- no file has the name
abbrev pub is_absent : FileList → List ℕ → Bool
is_absent files name = is_none (finite.find (slice_cmp nat_cmp) name files)

-- A sink in memory: what was written, its room, the numbers of the calls that fail, and how many calls and faults there were.
pub record Written : Type 0 where
  pub bytes : List ℕ
  pub room : ℕ
  pub failing : List ℕ
  pub calls : ℕ
  pub faults : ℕ

-- the put fails by its number, or since the piece is longer than the room that is left
abbrev pub refuses : Written → List ℕ → Bool
refuses sink piece = fails_now sink.failing sink.calls || nat_lt (sink.room - length sink.bytes) (length piece)

-- The result is the place of the first file with this name, where there is one.
pub record IsPlaceOf (files : FileList) (name : List ℕ) (place : ℕ) : Type 0 where
  pub within : place < length files
  pub first : finite.find (slice_cmp nat_cmp) name files ≡ option_map (λ file. file.1) (slice_get files place)

-- the bytes of the file at a place: none where there is no file
abbrev pub contents_at : FileList → ℕ → List ℕ
contents_at files place = unwrap_or (option_map (λ file. file.1) (slice_get files place)) []
