-- What a shelf shows of its files: a finite map from the bytes of a name to those of the file.
use Rattle.std.specs.Prelude.{ℕ, List, [], unwrap_or}
use Rattle.std.specs.Ordering.{nat_cmp}
use Rattle.std.specs.Cmp.Lexicographic.{slice_cmp}
use Rattle.std.specs.FinMap as map

abbrev pub Files : Type 0
Files = map.FinMap (slice_cmp nat_cmp) (List ℕ)

-- the bytes of the file with this name: none where there is no such file
abbrev pub bytes_of : Files → List ℕ → List ℕ
bytes_of files name = unwrap_or (map.get files name) []
